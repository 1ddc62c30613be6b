-- What the warrant of a request says: that a duty was handed on, and that a tombstone's stamp is one that there is.
use Rattle.std.proofs.Common.{◌≡◌, inl, inr, ⊎_elim, ℕ, ◌≤◌, false, sym, subst}
use Rattle.sw_types.specs.Name.{NameModel}
use Rattle.sw_types.specs.Stamp.{greatest_stamp}
use Rattle.sw_hashpath.specs.Place.{PlaceModel}
use Rattle.sw_message.specs.Learnt.{Marked}
use Rattle.sw_message.specs.Message.{is_primary}
use Rattle.sw_message.specs.Warrant.{IsWarranted}
use Rattle.sw_message.specs.declared.message.Msg.{Msg}
use Rattle.sw_message.specs.declared.message.Msg.TheVariants as message
use Rattle.sw_objsrv.specs.Handling.{IsStamped}
use Rattle.sw_law_claim.specs.Claim.{AsksAway, Claim}
use Rattle.sw_law_scene.specs.Moves.{marks}
use Rattle.sw_law_scene.specs.Scene.{Scene, StartedDelete, known_to}
use Rattle.sw_law_scene.specs.Sound.{IsSoundScene}
use Rattle.sw_law_scene.proofs.Growth.{mapped-cases}
use Rattle.sw_law_owed.specs.Promise.{WasHandedOn, WasShown}
use Rattle.sw_law_kept.specs.Kept.{AreMarksStamped}
use Rattle.sw_law_kept.proofs.PromiseNews.{IsPromising}
use Rattle.sw_law_owed.proofs.Replies.{known_made, made_before, made_of}

module _ (scene : Scene) (sound : IsSoundScene scene) where
  -- what warrants a removal was shown before now
  was_shown : (place : PlaceModel) (stamp index : ℕ) → IsWarranted scene.cluster (known_to scene) (message.Remove place stamp index) → WasShown scene place stamp index scene.now
  was_shown place stamp index shown =
      let from = known_made scene shown.heard shown.known in
      record {
        made = made_of shown.heard from.0;
        was_made = from.1;
        before = made_before scene sound (made_of shown.heard from.0) from.1;
        primary = shown.shows.0;
        there = shown.same_place;
        shows = shown.shows.1;
      }

  -- so the duty for what is asked away of a handoff was handed on
  pub handed_on : (device : ℕ) (place : PlaceModel) (claim : Claim) (msg : Msg) → is_primary scene.cluster device place ≡ false → AsksAway place claim msg → IsWarranted scene.cluster (known_to scene) msg
      → WasHandedOn scene device place claim scene.now
  handed_on device place claim (message.Remove at stamp index) handoff (same, stamps, of) warranted = record {
    index = index;
    handoff = handoff;
    entry = of;
    shown = subst (λ (s : ℕ). WasShown scene place s index scene.now) (sym stamps) (subst (λ (p : PlaceModel). WasShown scene p stamp index scene.now) same (was_shown at stamp index warranted));
  }
  handed_on device place claim msg handoff asks warranted = absurd asks

-- a warranted message has a stamp that there is, where it has one
pub request_stamped : (scene : Scene) → IsPromising scene → (msg : Msg) → IsWarranted scene.cluster (known_to scene) msg → IsStamped msg
request_stamped scene promising (message.Delete place stamp) (inl (marked, known, same, placed)) = subst (λ (s : ℕ). s ≤ greatest_stamp) same (promising.marks marked known)
request_stamped scene promising (message.Delete place stamp) (inr shown) =
    let from = known_made scene shown.heard shown.known in
    promising.tombstones (made_of shown.heard from.0) from.1 place shown.shows.0 stamp shown.same_place shown.shows.1 shown.shows.2
request_stamped scene promising msg warranted = tt

-- so has each delete, where one more is started with such a stamp
pub marks_stamped : (scene : Scene) (stamp : ℕ) (name : NameModel) → stamp ≤ greatest_stamp → AreMarksStamped scene → AreMarksStamped (marks stamp name scene)
marks_stamped scene stamp name fits stamped = λ marked has. ⊎_elim
    (stamped marked)
    (λ new. subst (λ (one : Marked). one.stamp ≤ greatest_stamp) new fits)
    (mapped-cases (λ (one : StartedDelete). one.marked) scene.marks _ marked has)
