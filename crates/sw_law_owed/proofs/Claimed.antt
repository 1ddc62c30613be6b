-- What the reply to a change of a folder claims.
use Rattle.std.proofs.Common.{◌≡◌, inl, Some, sym, ap, subst₂, ◌∙◌}
use Rattle.sw_hashpath.specs.Place.{PlaceModel}
use Rattle.sw_message.specs.Message.{place_in}
use Rattle.sw_message.specs.declared.message.Msg.{Msg}
use Rattle.sw_message.specs.declared.reply.Reply.{Reply}
use Rattle.sw_law_claim.specs.Claim.{Claim, ClaimsChange}
use Rattle.sw_law_scene.specs.Scene.{Scene}
use Rattle.sw_law_owed.specs.Promise.{IsClaimed, Made, WasMade}

-- it claims what that made
pub change_claimed : (scene : Scene) (made : Made) (place : PlaceModel) (claim : Claim) (msg : Msg) (given : Reply) → WasMade scene made → made.msg ≡ msg → made.reply ≡ given → place_in msg ≡ Some place → ClaimsChange msg given claim
    → IsClaimed scene made place claim
change_claimed scene made place claim msg given was_made asked answered there claims = record {
  was_made = was_made;
  there = ap place_in asked ∙ there;
  claims = inl (subst₂ (λ m r. ClaimsChange m r claim) (sym asked) (sym answered) claims);
}
