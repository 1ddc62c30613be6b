-- What a folder bears it holds, or it is a primary's and has a floor above.
use Rattle.std.proofs.Common.{◌≡◌, ◌⊎◌, inl, inr, ⊎_elim, ℕ, ◌≤◌, true, refl, sym, subst, arith}
use Rattle.sw_hashpath.specs.Place.{PlaceModel, folder_of}
use Rattle.sw_hashdir.specs.Directory.{StandsAbove}
use Rattle.sw_hashdir.specs.declared.floor.Floor.{Floor}
use Rattle.sw_hashdir.specs.declared.floor.FloorKind.TheVariants as kind
use Rattle.sw_hashpath.specs.declared.file_name.FileName.{FileName}
use Rattle.sw_hashpath.specs.declared.file_name.FileName.TheVariants.{Tombstone}
use Rattle.sw_diskfile.specs.Normal.{IsObsoleteText}
use Rattle.sw_diskfile.proofs.NormalForms.{normal_form}
use Rattle.sw_ring.specs.Cluster.{ClusterModel}
use Rattle.sw_message.specs.Message.{is_primary}
use Rattle.sw_message.specs.Step.{Folders}
use Rattle.sw_law_claim.specs.Claim.{ATombstone, Claim, IsBorneBy, ShowsFloor}
use Rattle.sw_law_claim.proofs.Normal.{normal_bears}
use Rattle.sw_law_owed.specs.Duties.{HasFloorOf, Holds}
use Rattle.sw_law_claim.proofs.Normal.{left_before}
use Rattle.sw_law_owed.proofs.Dates.{stands_least}
use Rattle.sw_law_owed.proofs.Floors.{has_floor, top_reaches, top_stands}

-- a tombstone shows its own floor
tombstone_shows : (stamp : ℕ) (name : FileName) → name ≡ Tombstone stamp → ShowsFloor name (record { stamp = stamp; kind = kind.Tombstone })
tombstone_shows stamp name is = subst (λ (one : FileName). ShowsFloor one (record { stamp = stamp; kind = kind.Tombstone })) (sym is) refl

module _ (cluster : ClusterModel) (device : ℕ) (place : PlaceModel) where
  -- an entry or a tombstone that is borne is held, or a primary has a floor above
  pub held : (claim : Claim) (folders : Folders) → IsBorneBy (is_primary cluster device place) claim (folders (folder_of place))
      → Holds cluster device place claim.stamp claim.what folders ⊎ ((is_primary cluster device place ≡ true) × HasFloorOf place (λ floor. StandsAbove floor claim.stamp) folders)
  held claim folders borne =
      let primary = is_primary cluster device place in
      let files = folders (folder_of place) in
      let normal = normal_form primary files in
      let left = (normal_bears primary files normal.0 normal.1 claim).0 borne in
      ⊎_elim
      (λ what. inl (normal.0, normal.1, left.name, left.spelt, left.there, what))
      (λ shown. inr (
        shown.0,
        has_floor place folders left.name shown.1 (λ floor. StandsAbove floor claim.stamp) left.spelt
            (left_before (IsObsoleteText primary normal.1.names) files normal.0 normal.1.left _ left.there) shown.2
            (λ floor top. top_stands shown.1 floor top claim.stamp shown.3),
      ))
      left.bearing

  -- where a tombstone is borne the folder's floor has no lesser stamp
  pub buried : (stamp : ℕ) (folders : Folders) → IsBorneBy (is_primary cluster device place) (record { stamp = stamp; what = ATombstone }) (folders (folder_of place)) → HasFloorOf place (λ floor. stamp ≤ floor.stamp) folders
  buried stamp folders borne =
      let floor_by : (shown : Floor) → ShowsFloor borne.name shown → stamp ≤ shown.stamp → HasFloorOf place (λ floor. stamp ≤ floor.stamp) folders =
      λ shown shows reaches. has_floor place folders borne.name shown (λ floor. stamp ≤ floor.stamp) borne.spelt borne.there shows (λ floor top. omega (arith, reaches, top_reaches shown floor top)) in
      ⊎_elim
      (λ what. floor_by (record { stamp = stamp; kind = kind.Tombstone }) (tombstone_shows stamp borne.name what) (omega arith))
      (λ shown. floor_by shown.1 shown.2 (stands_least shown.1 stamp shown.3))
      borne.bearing
