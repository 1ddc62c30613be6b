-- Where a tombstone was made the folder has a floor of no lesser stamp, unless the disk was lost since the delete began.
use Rattle.std.proofs.Common.{◌≡◌, ◌⊎◌, inl, inr, ℕ, ◌≤◌, Bool, Contains, refl, subst, arith}
use Rattle.sw_hashpath.specs.Place.{PlaceModel}
use Rattle.sw_message.specs.declared.message.Msg.TheVariants as message
use Rattle.sw_message.specs.declared.reply.Reply.TheVariants as reply
use Rattle.sw_law_claim.specs.Claim.{ATombstone, Claim}
use Rattle.sw_law_scene.specs.Scene.{IsLostSince, Scene, StartedDelete}
use Rattle.sw_law_scene.specs.Sound.{IsSoundScene}
use Rattle.sw_law_owed.specs.Promise.{Borne, HandedOn, IsKept, KeepsPromises, Lost, Made, OnDisk, WasMade}
use Rattle.sw_law_owed.proofs.Claimed.{change_claimed}
use Rattle.sw_law_owed.specs.Decided.{IsMessageBy, KeepsStamps}
use Rattle.sw_law_owed.proofs.Dates.{asked_by, delete_from, from_delete}
use Rattle.sw_law_owed.specs.Duties.{HasFloorOf, place_of_delete}
use Rattle.sw_law_owed.proofs.Losses.{lost_before}
use Rattle.sw_law_owed.proofs.Holding.{buried}

module _ (scene : Scene) (sound : IsSoundScene scene) (promises : KeepsPromises scene) (stamps : KeepsStamps scene) (delete : StartedDelete) (has : Contains scene.marks delete) (made : Made) (was_made : WasMade scene made)
    (same_msg : made.msg ≡ message.Delete (place_of_delete scene delete) delete.marked.stamp) where
  abbrev place : PlaceModel
  place = place_of_delete scene delete

  abbrev stamp : ℕ
  stamp = delete.marked.stamp

  abbrev claim : Claim
  claim = record { stamp = stamp; what = ATombstone }

  -- such a floor is there, unless the disk was lost
  abbrev pub IsBuried : Type 0
  IsBuried = IsLostSince scene made.device delete.start ⊎ OnDisk scene made.device (HasFloorOf place (λ floor. stamp ≤ floor.stamp))

  -- the delete began before its message was answered
  delete_before : delete.start ≤ made.at
  delete_before =
      let asked = asked_by scene sound stamps made was_made in
      omega (arith, from_delete scene stamp delete.start (delete_from scene stamps delete has) place stamp asked.0 (omega arith) (subst (IsMessageBy scene asked.0) same_msg asked.2), asked.1)

  -- what the reply claimed is kept, and a tombstone is never handed on
  by_kept : IsKept scene made place claim → IsBuried
  by_kept (Lost lost) = inl (lost_before scene made.device made.at delete.start delete_before lost)
  by_kept (Borne borne) = inr (λ side is. buried scene.cluster made.device place stamp side (borne side is))
  by_kept (HandedOn handed) = absurd handed.entry

  -- so it is where the delete was answered
  pub buried_kept : (existed : Bool) → made.reply ≡ reply.Deleted existed → IsBuried
  buried_kept existed same_reply = by_kept (promises.kept made place claim (change_claimed scene made place claim (message.Delete place stamp) (reply.Deleted existed) was_made same_msg same_reply refl refl))
