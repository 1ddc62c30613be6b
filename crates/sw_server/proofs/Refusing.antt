-- Disks that a shelf handed out are empty, and go back where one of them could not be mounted.
use Rattle.std.proofs.Common.{◌≡◌, ℕ, Contains, List, [], ◌∷◌, length, take, Option, Some, None, inl, inr, refl, sym, ap, subst, ◌∙◌, arith}
use Rattle.std.specs.List.{AllZip}
use Rattle.std.proofs.lemmas.List.{take_all}
use Rattle.std.proofs.lemmas.Option.{slice_get-get_or}
use Rattle.sw_words.specs.Counts.{one_more}
use Rattle.sw_disk.specs.Folder.{files_of}
use Rattle.sw_disk.specs.Runs.{IfTold, Past, Seen}
use Rattle.sw_disk.specs.State.{State}
use Rattle.sw_diskfile.proofs.Lists.{Contains-first, Contains-later}
use Rattle.sw_ring.specs.Cluster.{ClusterModel, KeepsRules}
use Rattle.sw_ring.specs.declared.device.Device.{Device}
use Rattle.sw_shelf.specs.Shelf.{IsEmpty, after_back, with_all}
use Rattle.sw_law_replayed.specs.Keeping.{IsEmptyFor}
use Rattle.sw_cell.specs.Mounting.{AreEmpty, FailsAt}
use Rattle.sw_sim_nodes.proofs.Making.{capacity_is}
use Rattle.sw_server.specs.Sessions.{IsUnready, after_doors}
use Rattle.sw_server.specs.declared.end.ServeEnd.{ServeEnd}
use Rattle.sw_server.specs.declared.end.ServeEnd.TheVariants.{Closed, DoorFault, NoMemory, ShelfFault, WriteFault}
use Rattle.sw_server.specs.Shelving.{AreHanded, CameBack, Handing, IsHanded, ShelfMembers, with_devices, with_faults}
use Rattle.sw_server.proofs.HandingOut.{as_many, no_fault}

-- ---- new disks are empty

told_more : (told : Option State) (P Q : State → Type 0) → ((state : State) → P state → Q state) → IfTold told P → IfTold told Q
told_more None P Q more is = is
told_more (Some state) P Q more is = more state is

module _ {D S : Type 0} (seen : D → Seen) (hands : Handing S D) (cluster : ClusterModel) (rules : KeepsRules cluster) where
  one_empty : (device : Device) (disk : D) → Contains cluster.devices device → IsHanded seen hands device disk → IfTold (seen disk).told (IsEmptyFor cluster device.id)
  one_empty device disk has handed = told_more (seen disk).told (IsEmpty device.capacity) (IsEmptyFor cluster device.id)
      (λ state is. record {
        empty = λ name. ap files_of (is.folders name);
        capacity = is.capacity ∙ capacity_is cluster rules has.0 device (slice_get-get_or cluster.devices has.0 device has.1 ∙ ap Some has.2);
      }) handed.is_new.told

  all_empty : (devices : List Device) (disks : List D) → ((device : Device) → Contains devices device → Contains cluster.devices device) → AreHanded seen hands devices disks
      → AllZip (λ (device : Device) (disk : D). IfTold (seen disk).told (IsEmptyFor cluster device.id)) devices disks
  all_empty [] [] among handed = tt
  all_empty [] (disk ∷ disks) among handed = absurd handed
  all_empty (device ∷ devices) [] among handed = absurd handed
  all_empty (device ∷ devices) (disk ∷ disks) among handed = (
    one_empty device disk (among device (Contains-first device devices)) handed.0,
    all_empty devices disks (λ other has. among other (Contains-later device devices other has)) handed.1,
  )

  pub are_empty : (disks : List D) → AreHanded seen hands cluster.devices disks → AreEmpty seen cluster disks
  are_empty disks handed = all_empty cluster.devices disks (λ device has. has) handed

-- ---- one could not be mounted

module _ {D S : Type 0} (seen : D → Seen) (left_since : D → Past) (hands : Handing S D) (cluster : ClusterModel) (failed : ℕ) where
  pub fails_long : (devices : List Device) (given back : List D) → FailsAt seen left_since cluster failed devices given back → length back ≡ length given
  fails_long [] given back none = absurd none
  fails_long (device ∷ devices) [] back none = absurd none
  fails_long (device ∷ devices) (disk ∷ disks) [] none = absurd none
  fails_long (device ∷ devices) (disk ∷ disks) (came ∷ others) (inl (here, mounts, same)) = let long = ap (length {A = D}) same in omega (arith, long)
  fails_long (device ∷ devices) (disk ∷ disks) (came ∷ others) (inr (mounts, later)) = let long = fails_long devices disks others later in omega (arith, long)

  -- just one fault is counted as they go back
  pub fails_once : (count : ℕ) (devices : List Device) (given back : List D) → AreHanded seen hands devices given → FailsAt seen left_since cluster failed devices given back → with_faults seen count (with_devices devices back) ≡ one_more count
  fails_once count [] given back handed none = absurd none
  fails_once count (device ∷ devices) [] back handed none = absurd none
  fails_once count (device ∷ devices) (disk ∷ disks) [] handed none = absurd none
  fails_once count (device ∷ devices) (disk ∷ disks) (came ∷ others) handed (inl (here, mounts, same)) =
      let counted : (seen came).faults ≡ one_more 0 = mounts.failed refl ∙ ap one_more handed.0.is_new.faults in
      ap (λ (faults : ℕ). with_faults seen (after_back faults count) (with_devices devices others)) counted
      ∙ ap (λ (left : List D). with_faults seen (one_more count) (with_devices devices left)) same ∙ no_fault seen hands devices disks devices (one_more count) handed.1
  fails_once count (device ∷ devices) (disk ∷ disks) (came ∷ others) handed (inr (mounts, later)) =
      let counted : (seen came).faults ≡ 0 = mounts.quiet (λ is. absurd (cc)) ∙ handed.0.is_new.faults in
      ap (λ (faults : ℕ). with_faults seen (after_back faults count) (with_devices devices others)) counted ∙ fails_once count devices disks others handed.1 later

-- as many of the devices as disks were handed out for are all of them
pub of_all : {D S : Type 0} (seen : D → Seen) (hands : Handing S D) (devices : List Device) (given : List D) → AreHanded seen hands devices given → AreHanded seen hands (take (length given) devices) given
of_all seen hands devices given handed = subst (λ (some : List Device). AreHanded seen hands some given) (sym (take_all (length given) devices (omega (arith, as_many seen hands devices given handed)))) handed

-- what came back since disks were handed out, from which nothing had come back
pub came_since : {S D : Type 0} (shelf : ShelfMembers S D) (cluster : ClusterModel) (stock between stock' : S) → shelf.returned between ≡ shelf.returned stock → CameBack shelf cluster between stock' → CameBack shelf cluster stock stock'
came_since {S} {D} shelf cluster stock between stock' same came = record {
  given = came.given;
  handed = came.handed;
  back = came.back;
  how = came.how;
  returned = came.returned ∙ ap (λ (returned : Option (List (ℕ × D))). with_all returned (with_devices cluster.devices came.back)) same;
  none_out = came.none_out;
}

-- that is no failure of the doors
pub no_door : (end : ServeEnd) (count : ℕ) → IsUnready end → count ≡ after_doors end count
no_door ShelfFault count is = refl
no_door NoMemory count is = refl
no_door DoorFault count is = absurd is
no_door WriteFault count is = absurd is
no_door (Closed number) count is = absurd is
