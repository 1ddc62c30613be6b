-- What was made, lost, shown and handed on stays so as a scene goes on.
use Rattle.std.proofs.Common.{◌≡◌, ℕ, ◌≤◌, false, Contains, sym, subst, arith}
use Rattle.sw_hashdir.specs.Listing.{ListingModel}
use Rattle.sw_hashpath.specs.Place.{PlaceModel}
use Rattle.sw_ring.specs.Cluster.{ClusterModel}
use Rattle.sw_message.specs.Message.{is_primary}
use Rattle.sw_message.specs.Warrant.{IsPrimaryOf}
use Rattle.sw_law_claim.specs.Claim.{Claim, Claims, IsListedIn}
use Rattle.sw_law_scene.specs.Scene.{Answer, IsLostSince, Loss, Message, Scene}
use Rattle.sw_law_owed.specs.Promise.{HandedOnBefore, IsClaimed, IsListedStill, Listed, LostSince, Made, WasHandedOn, WasMade, WasShown}

-- the cluster is the same, each message and each loss is still there, and time does not go back
pub record GoesOn (before after : Scene) : Type 0 where
  pub cluster : after.cluster ≡ before.cluster
  pub messages : (posted : Message) → Contains before.messages posted → Contains after.messages posted
  pub losses : (loss : Loss) → Contains before.losses loss → Contains after.losses loss
  pub now : before.now ≤ after.now

module _ (before after : Scene) (goes : GoesOn before after) where
  -- a reply that was made
  pub made_still : (made : Made) → WasMade before made → WasMade after made
  made_still made (operation, sent, there, device, msg) = (operation, sent, goes.messages (Answer made.at operation sent made.reply) there, device, msg)

  -- a disk that was lost
  pub lost_still : (device since : ℕ) → IsLostSince before device since → IsLostSince after device since
  lost_still device since (loss, there, same, late) = (loss, goes.losses loss there, same, late)

  -- what a primary showed before a step, it showed before a later one
  shown_still : (place : PlaceModel) (stamp index step later : ℕ) → step ≤ later → WasShown before place stamp index step → WasShown after place stamp index later
  shown_still place stamp index step later in_time shown = record {
    made = shown.made;
    was_made = made_still shown.made shown.was_made;
    before = omega (arith, shown.before, in_time);
    primary = subst (λ (cluster : ClusterModel). IsPrimaryOf cluster place index shown.made.device) (sym goes.cluster) shown.primary;
    there = shown.there;
    shows = shown.shows;
  }

  -- a duty that was handed on before a step, it was before a later one
  pub handed_still : (device : ℕ) (place : PlaceModel) (claim : Claim) (step later : ℕ) → step ≤ later → WasHandedOn before device place claim step → WasHandedOn after device place claim later
  handed_still device place claim step later in_time handed = record {
    index = handed.index;
    handoff = subst (λ (cluster : ClusterModel). is_primary cluster device place ≡ false) (sym goes.cluster) handed.handoff;
    entry = handed.entry;
    shown = shown_still place claim.stamp handed.index step later in_time handed.shown;
  }

  -- a listing that bore a claim
  pub listed_still : (made later : Made) (place : PlaceModel) (claim : Claim) (listing : ListingModel) → IsListedStill before made later place claim listing → IsListedStill after made later place claim listing
  listed_still made later place claim listing (LostSince lost) = LostSince (lost_still made.device made.at lost)
  listed_still made later place claim listing (Listed listed) = Listed (subst (λ (cluster : ClusterModel). IsListedIn (is_primary cluster made.device place) claim listing) (sym goes.cluster) listed)
  listed_still made later place claim listing (HandedOnBefore handed) = HandedOnBefore (handed_still made.device place claim later.at later.at (omega arith) handed)

  -- a reply that was made before claims what it claimed
  pub claimed_before : (made : Made) (place : PlaceModel) (claim : Claim) → WasMade before made → IsClaimed after made place claim → IsClaimed before made place claim
  claimed_before made place claim was_made claimed = record {
    was_made = was_made;
    there = claimed.there;
    claims = subst (λ (cluster : ClusterModel). Claims (is_primary cluster made.device place) made.msg made.reply claim) goes.cluster claimed.claims;
  }
