-- Floors of folders: where a name shows a floor, the folder has one that no other is above.
use Rattle.std.proofs.Common.{◌≡◌, inl, inr, ⊎_elim, ℕ, ◌≤◌, true, false, Contains, List, Option, Some, None, refl, sym, subst, ◌∙◌, arith}
use Rattle.std.proofs.lemmas.Bool.{cases_eq, cases_lt}
use Rattle.sw_disk.specs.Answers.{names_of}
use Rattle.sw_hashpath.specs.FileName.{IsFileName, file_name_text}
use Rattle.sw_hashpath.specs.Place.{PlaceModel, folder_of}
use Rattle.sw_hashpath.specs.declared.file_name.FileName.{FileName}
use Rattle.sw_hashpath.specs.declared.file_name.FileName.TheVariants.{Data, Tombstone}
use Rattle.sw_hashdir.specs.Directory.{HasFloor, IsAbove, IsFloor, StandsAbove}
use Rattle.sw_hashdir.specs.declared.floor.Floor.{Floor}
use Rattle.sw_hashdir.specs.declared.floor.FloorKind.{FloorKind}
use Rattle.sw_hashdir.specs.declared.floor.FloorKind.TheVariants as kind
use Rattle.sw_diskfile.proofs.Floors.{floor_of}
use Rattle.sw_diskfile.proofs.Spelt.{directory_of}
use Rattle.sw_message.specs.Step.{Folders}
use Rattle.sw_law_claim.specs.Claim.{ShowsFloor}
use Rattle.sw_law_owed.specs.Duties.{HasFloorOf}

-- ---- a floor that another is not above

module _ (shown floor : Floor) (top : IsAbove shown floor → ⊥) where
  -- its stamp is no less
  pub top_reaches : shown.stamp ≤ floor.stamp
  top_reaches = ⊎_elim (λ less. absurd (top (inl less))) (λ reaches. reaches) (cases_lt floor.stamp shown.stamp)

  -- of one stamp it is a tombstone if the other is
  top_kind : (k : FloorKind) → floor.kind ≡ k → shown.stamp ≡ floor.stamp → shown.kind ≡ kind.Tombstone → floor.kind ≡ kind.Tombstone
  top_kind kind.Tombstone is same tombstone = is
  top_kind kind.Durable is same tombstone = absurd (top (inr (same, tombstone, is)))

  -- it stands above what the other does
  pub top_stands : (stamp : ℕ) → StandsAbove shown stamp → StandsAbove floor stamp
  top_stands stamp (inl more) = inl (omega (arith, more, top_reaches))
  top_stands stamp (inr level) = ⊎_elim
      (λ same. inr (sym same ∙ level.0, top_kind floor.kind refl same level.1))
      (λ differ. inl (omega (arith, level.0, top_reaches, differ)))
      (cases_eq shown.stamp floor.stamp)

-- ---- a name that shows one

-- the names have it
shown_there : (names : List FileName) (name : FileName) (shown : Floor) → Contains names name → ShowsFloor name shown → HasFloor names shown
shown_there names (Data stamp index true) shown has shows = subst (HasFloor names) (sym shows) (index, has)
shown_there names (Data stamp index false) shown has shows = absurd shows
shown_there names (Tombstone stamp) shown has shows = subst (HasFloor names) (sym shows) has

-- so there is one above which it is not
top_of : (names : List FileName) (shown : Floor) → HasFloor names shown → (floor : Option Floor) → IsFloor names floor → (top : Floor) × IsFloor names (Some top) × (IsAbove shown top → ⊥)
top_of names shown has None none = absurd (none shown has)
top_of names shown has (Some floor) is = (floor, is, is.1 shown has)

-- and what this brings about is true of the folder's floor
pub has_floor : (place : PlaceModel) (folders : Folders) (name : FileName) (shown : Floor) (P : Floor → Type 0) → IsFileName name → Contains (names_of (folders (folder_of place))) (file_name_text name) → ShowsFloor name shown
    → ((floor : Floor) → (IsAbove shown floor → ⊥) → P floor) → HasFloorOf place P folders
has_floor place folders name shown P spelt there shows then_is =
    let directory = directory_of (names_of (folders (folder_of place))) in
    let floor = floor_of directory.0 in
    let top = top_of directory.0 shown (shown_there directory.0 name shown ((directory.1 name).1 (spelt, there)) shows) floor.0 floor.1 in
    (directory.0, directory.1, top.0, top.1, then_is top.0 top.2)
