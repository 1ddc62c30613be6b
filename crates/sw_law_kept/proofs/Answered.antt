-- What a home has answered for, an entry that was stored or made durable, is held, or went to the primary of its index, or was lost.
use Rattle.std.proofs.Common.{◌≡◌, inl, inr, ⊎_elim, ℕ, ◌≤◌, Contains, List, refl, sym, subst, ◌∙◌, arith}
use Rattle.sw_hashpath.specs.Place.{PlaceModel}
use Rattle.sw_message.specs.Warrant.{IsHome}
use Rattle.sw_message.specs.declared.message.Msg.{Msg}
use Rattle.sw_message.specs.declared.message.Msg.TheVariants as message
use Rattle.sw_message.specs.declared.reply.Reply.TheVariants as reply
use Rattle.sw_message.specs.declared.target.Target.{Target}
use Rattle.sw_law_claim.specs.Claim.{ADurableEntry, ATombstone, AnEntry, Claim, IsOfIndex, What}
use Rattle.sw_law_scene.specs.Scene.{IsLostSince, Scene, StartedPut}
use Rattle.sw_law_scene.specs.Sound.{IsSoundScene}
use Rattle.sw_law_owed.specs.Promise.{BearsAt, Borne, HandedOn, IsClaimed, IsKept, KeepsPromises, Lost, Made, WasMade, WasShown}
use Rattle.sw_law_owed.proofs.Claimed.{change_claimed}
use Rattle.sw_law_owed.specs.Decided.{IsMessageBy, KeepsStamps}
use Rattle.sw_law_owed.proofs.Dates.{asked_by, from_put, put_from}
use Rattle.sw_law_owed.specs.Duties.{Here, IsDutyKept, LostHere, LostThere, Own, There, place_of_put}
use Rattle.sw_law_owed.proofs.Losses.{lost_before}
use Rattle.sw_law_owed.proofs.Holding.{held}
use Rattle.sw_law_kept.proofs.Shown.{shown_kept}

-- what is claimed is of one index
one_index : (what : What) (index other : ℕ) → IsOfIndex index what → IsOfIndex other what → index ≡ other
one_index (AnEntry own) index other first second = sym first ∙ second
one_index (ADurableEntry own) index other first second = sym first ∙ second
one_index ATombstone index other first second = absurd first

module _ (scene : Scene) (sound : IsSoundScene scene) (promises : KeepsPromises scene) (stamps : KeepsStamps scene) (put : StartedPut) (has : Contains scene.book put) where
  abbrev place : PlaceModel
  place = place_of_put scene put

  abbrev stamp : ℕ
  stamp = put.booked.stamp

  module _ (target : Target) (home : IsHome scene.cluster place target) (made : Made) (was_made : WasMade scene made) (at : made.device ≡ target.device) where
    -- ---- a claim

    module _ (what : What) (of : IsOfIndex target.index what) (early : put.start ≤ made.at) where
      abbrev claim : Claim
      claim = record { stamp = stamp; what = what }

      abbrev IsDone : Type 0
      IsDone = IsDutyKept scene place stamp put.start target what

      -- what the device bears still it holds, or it is the primary of the index
      borne_kept : IsHome scene.cluster place target → BearsAt scene target.device place claim → IsDone
      borne_kept (inl primary) borne = Own primary (λ side is. ⊎_elim (λ holds. inl holds) (λ above. inr (inr above.1)) (held scene.cluster target.device place claim side (borne side is)))
      borne_kept (inr handoff) borne = Here (λ side is. ⊎_elim
          (λ holds. holds)
          (λ above. let primary = above.0 in let not = handoff.1 in absurd (cc))
          (held scene.cluster target.device place claim side (borne side is)))

      -- what was handed on the primary of the index has
      handed_kept : WasShown scene place stamp target.index scene.now → IsDone
      handed_kept shown = ⊎_elim
          (λ lost. LostThere shown.made.device shown.primary lost)
          (λ safe. There shown.made.device shown.primary safe)
          (shown_kept scene sound promises stamps put has target.index shown.made shown.primary shown.was_made shown.there shown.shows)

      -- each way in which a promise is kept
      by_kept : IsKept scene made place claim → IsDone
      by_kept (Lost lost) = LostHere (subst (λ (device : ℕ). IsLostSince scene device put.start) at (lost_before scene made.device made.at put.start early lost))
      by_kept (Borne borne) = borne_kept home (subst (λ (device : ℕ). BearsAt scene device place claim) at borne)
      by_kept (HandedOn handed) = handed_kept (subst (λ (index : ℕ). WasShown scene place stamp index scene.now) (one_index what handed.index target.index handed.entry of) handed.shown)

      duty_kept : IsClaimed scene made place claim → IsDone
      duty_kept claimed = by_kept (promises.kept made place claim claimed)

    -- ---- the replies

    -- the put began before its message was answered
    put_before : (msg : Msg) → made.msg ≡ msg → ((asked : ℕ) → IsMessageBy scene asked msg → put.start ≤ asked) → put.start ≤ made.at
    put_before msg same from =
        let asked = asked_by scene sound stamps made was_made in
        omega (arith, from asked.0 (subst (IsMessageBy scene asked.0) same asked.2), asked.1)

    -- a fragment that was stored
    pub stored_kept : (bytes : List ℕ) → made.msg ≡ message.PutFrag place stamp target.index bytes → made.reply ≡ reply.Synced → IsDutyKept scene place stamp put.start target (AnEntry target.index)
    stored_kept bytes same_msg same_reply =
        let msg = message.PutFrag place stamp target.index bytes in
        duty_kept (AnEntry target.index) refl
        (put_before msg same_msg (λ asked asks. from_put scene stamp put.start (put_from scene stamps put has) place stamp asked (omega arith) asks))
        (change_claimed scene made place (record { stamp = stamp; what = AnEntry target.index }) msg reply.Synced was_made same_msg same_reply refl refl)

    -- one that was made durable
    pub committed_kept : made.msg ≡ message.Commit place stamp target.index → made.reply ≡ reply.Committed → IsDutyKept scene place stamp put.start target (ADurableEntry target.index)
    committed_kept same_msg same_reply =
        let msg = message.Commit place stamp target.index in
        duty_kept (ADurableEntry target.index) refl
        (put_before msg same_msg (λ asked asks. from_put scene stamp put.start (put_from scene stamps put has) place stamp asked (omega arith) asks.put))
        (change_claimed scene made place (record { stamp = stamp; what = ADurableEntry target.index }) msg reply.Committed was_made same_msg same_reply refl refl)
