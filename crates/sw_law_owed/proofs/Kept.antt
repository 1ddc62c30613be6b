-- What a device's disk bears still when it handles a message, fails, crashes or mounts.
use Rattle.std.proofs.Common.{◌≡◌, inl, inr, ⊎_elim, ℕ, Bool, true, false, refl, sym, ap, subst}
use Rattle.std.proofs.lemmas.Bool.{cases_eq}
use Rattle.sw_hashpath.specs.Place.{IsPlace, PlaceModel, folder_of}
use Rattle.sw_diskfile.proofs.Decisions.{OrNot, both, same_or_not}
use Rattle.sw_ring.specs.Cluster.{ClusterModel}
use Rattle.sw_message.specs.Message.{IsPlaceOf, is_primary, place_in}
use Rattle.sw_message.specs.Step.{Folders}
use Rattle.sw_message.specs.declared.message.Msg.{Msg}
use Rattle.sw_message.specs.declared.message.Msg.TheVariants as message
use Rattle.sw_message.specs.declared.reply.Reply.{Reply}
use Rattle.sw_objsrv.specs.Handling.{IsStamped}
use Rattle.sw_hashpath.proofs.Folders.{one_place}
use Rattle.sw_law_claim.specs.Claim.{ADurableEntry, ATombstone, AnEntry, AsksAway, Claim, IsBorneBy, IsOfIndex, What}
use Rattle.sw_law_claim.proofs.Crashes.{crash_bears}
use Rattle.sw_law_claim.proofs.Normal.{normal_bears}
use Rattle.sw_law_claim.proofs.Steps.{step_keeps}
use Rattle.sw_law_scene.specs.Devices.{IsDeviceStep}
use Rattle.sw_law_scene.specs.Disks.{Disk, IsFailedBy, IsFoundOn, IsHeldWithin, IsLeftOf, IsMounted, IsSide, Sure, Undecided}

module _ (cluster : ClusterModel) (device : ℕ) (place : PlaceModel) (claim : Claim) where
  -- the folder of the place bears the claim, in these folders, and whatever a disk may hold
  abbrev pub Bears : Folders → Type 0
  Bears folders = IsBorneBy (is_primary cluster device place) claim (folders (folder_of place))

  abbrev pub DiskBears : Disk → Type 0
  DiskBears disk = (side : Folders) → IsSide disk side → Bears side

  -- the message asks a handoff for the removal of the claimed entry
  abbrev pub IsAway : Msg → Type 0
  IsAway msg = (is_primary cluster device place ≡ false) × AsksAway place claim msg

  -- ---- disks

  -- what the folders of a disk bear it bears, too
  pub sure_bears : (folders : Folders) → Bears folders → DiskBears (Sure folders)
  sure_bears folders borne side is = subst Bears (sym is) borne

  -- where it is undecided, what both do
  undecided_bears : (before after : Folders) → Bears before → Bears after → DiskBears (Undecided before after)
  undecided_bears before after first second side (inl is) = subst Bears (sym is) first
  undecided_bears before after first second side (inr is) = subst Bears (sym is) second

-- ---- what is asked away

-- an index is that of what is claimed, or not
of_or_not : (index : ℕ) (what : What) → OrNot (IsOfIndex index what)
of_or_not index (AnEntry other) = cases_eq other index
of_or_not index (ADurableEntry other) = cases_eq other index
of_or_not index ATombstone = inr (λ of. of)

-- two places of a cluster are the same, or not
place_or_not : (power : ℕ) (place other : PlaceModel) → IsPlace power place → IsPlace power other → OrNot (place ≡ other)
place_or_not power place other is_place is_other = ⊎_elim
    (λ same. inl (one_place power place other is_place is_other same))
    (λ differ. inr (λ same. differ (ap folder_of same)))
    (same_or_not (folder_of place) (folder_of other))

-- a device is a handoff, or not
handoff_or_not : (primary : Bool) → OrNot (primary ≡ false)
handoff_or_not false = inl refl
handoff_or_not true = inr (λ same. absurd (cc))

module _ (cluster : ClusterModel) (device : ℕ) (place : PlaceModel) (is_place : IsPlace cluster.part_power place) (claim : Claim) where
  -- a message asks for the removal, or not
  asks_or_not : (msg : Msg) → IsPlaceOf cluster (place_in msg) → OrNot (AsksAway place claim msg)
  asks_or_not (message.Remove at stamp index) right = ⊎_elim
      (λ is. inl (is.0, is.1.0, is.1.1))
      (λ not. inr (λ asks. not (asks.0, (asks.1, asks.2))))
      (both (place_or_not cluster.part_power at place right is_place) (both (cases_eq claim.stamp stamp) (of_or_not index claim.what)))
  asks_or_not msg right = inr (λ asks. asks)

  -- and that of a handoff, or not
  pub away_or_not : (msg : Msg) → IsPlaceOf cluster (place_in msg) → OrNot (IsAway cluster device place claim msg)
  away_or_not msg right = both (handoff_or_not (is_primary cluster device place)) (asks_or_not msg right)

  -- ---- mounts and crashes

  -- the claim is borne
  abbrev Borne : Folders → Type 0
  Borne = Bears cluster device place claim

  abbrev DiskBorne : Disk → Type 0
  DiskBorne = DiskBears cluster device place claim

  -- a mount changes nothing of what is borne
  pub mounted_bears : (before after : Folders) → IsMounted cluster device before after → Borne before → Borne after
  mounted_bears before after is borne = (normal_bears (is_primary cluster device place) (before (folder_of place)) (after (folder_of place)) (is.normal place is_place) claim).0 borne

  -- what a device works on bears what its disk does
  pub found_bears : (disk : Disk) (found : Folders) → IsFoundOn cluster device disk found → DiskBorne disk → Borne found
  found_bears (Sure folders) found is borne = borne found is
  found_bears (Undecided before after) found (inl mounted) borne = mounted_bears before found mounted (borne before (inl refl))
  found_bears (Undecided before after) found (inr mounted) borne = mounted_bears after found mounted (borne after (inr refl))

  -- so does what a crash leaves
  pub left_bears : (These : Folders → Type 0) (image : Folders) → IsLeftOf cluster device These image → ((these : Folders) → These these → Borne these) → Borne image
  left_bears These image is bear =
      let from = is.normal place is_place in
      crash_bears (is_primary cluster device place) (from.0 (folder_of place)) (image (folder_of place)) claim (λ normal. ((from.2 normal).1, (from.2 normal).0)) (bear from.0 from.1)

  -- ---- what happens within a handling

  module _ (msg : Msg) (right : IsPlaceOf cluster (place_in msg)) (stamped : IsStamped msg) (stays : IsAway cluster device place claim msg → ⊥) where
    -- what is not asked away stays
    pub handled_bears : (reply : Reply) (before after : Folders) → IsDeviceStep cluster device msg reply before after → Borne before → Borne after
    handled_bears reply before after is = step_keeps cluster device is.room msg before after reply claim stamped place right is_place is.step (λ handoff asks. stays (handoff, asks))

    -- whatever a disk may hold within the handling
    pub held_bears : (disk : Disk) → DiskBorne disk → (these : Folders) → IsHeldWithin cluster device msg disk these → Borne these
    held_bears disk borne these (inl side) = borne these side
    held_bears disk borne these (inr (found, reply, is_found, step)) = handled_bears reply found these step (found_bears disk found is_found borne)

    -- and once it failed
    pub failed_bears : (before after : Disk) → IsFailedBy cluster device msg before after → DiskBorne before → DiskBorne after
    failed_bears (Sure folders) failed (reply, after, step, same) borne =
        subst DiskBorne (sym same) (undecided_bears cluster device place claim folders after (borne folders refl) (handled_bears reply folders after step (borne folders refl)))
    failed_bears (Undecided before after) failed (inl same) borne = subst DiskBorne (sym same) borne
    failed_bears (Undecided before after) failed (inr (found, later, reply, is_found, step, same)) borne =
        let here = found_bears (Undecided before after) found is_found borne in
        subst DiskBorne (sym same) (undecided_bears cluster device place claim found later here (handled_bears reply found later step here))
