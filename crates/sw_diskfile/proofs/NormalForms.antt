-- Each folder has a normal form.
use Rattle.std.proofs.Common.{◌≡◌, inl, inr, ⊎_elim, ℕ, Bool, true, false, List, [], ◌∷◌, Option, Some, None, refl, sym, ◌∙◌, subst}
use Rattle.std.proofs.lemmas.Bool.{cases_eq}
use Rattle.sw_disk.specs.Answers.{names_of}
use Rattle.sw_disk.specs.Folder.{File}
use Rattle.sw_hashpath.specs.FileName.{IsFileName}
use Rattle.sw_hashpath.specs.declared.file_name.FileName.{FileName}
use Rattle.sw_hashpath.specs.declared.file_name.FileName.TheVariants.{Data, Tombstone}
use Rattle.sw_hashdir.specs.Directory.{IsDirectory, IsFloor}
use Rattle.sw_hashdir.proofs.Laws.{one_floor}
use Rattle.sw_hashdir.specs.Obsolete.{IsBelow, IsBelowFloor, IsObsolete, IsTwin}
use Rattle.sw_hashdir.specs.declared.floor.Floor.{Floor}
use Rattle.sw_hashdir.proofs.Texts.{one_text}
use Rattle.sw_diskfile.specs.Normal.{AreThoseLeft, IsNormalForm, IsObsoleteText}
use Rattle.sw_diskfile.proofs.Decisions.{OrNot, both, either, less_or_not}
use Rattle.sw_diskfile.proofs.Floors.{floor_of, tombstone_or_not}
use Rattle.sw_diskfile.proofs.Spelt.{directory_of, spelt_or_not, there_or_not}

-- ---- what is below a floor

-- a name is below a floor, or not
below_or_not : (floor : Floor) (name : FileName) → OrNot (IsBelow floor name)
below_or_not floor (Data stamp index durable) = either (less_or_not stamp floor.stamp) (both (cases_eq stamp floor.stamp) (tombstone_or_not floor.kind))
below_or_not floor (Tombstone stamp) = less_or_not stamp floor.stamp

-- or below that of the names
pub below_floor_or_not : (names : List FileName) (name : FileName) (floor : Option Floor) → IsFloor names floor → OrNot (IsBelowFloor names name)
below_floor_or_not names name None none = inr (λ below. none below.0 below.1.0)
below_floor_or_not names name (Some floor) is = ⊎_elim
    (λ below. inl (floor, is, below))
    (λ not. inr (λ below. not (subst (λ (f : Floor). IsBelow f name) (one_floor names below.0 floor below.1 is) below.2)))
    (below_or_not floor name)

-- ---- what is obsolete

-- a device is a primary, or not
pub primary_or_not : (primary : Bool) → OrNot (primary ≡ true)
primary_or_not true = inl refl
primary_or_not false = inr (λ same. absurd (cc))

module _ (primary : Bool) (texts : List (List ℕ)) (names : List FileName) (directory : IsDirectory texts names) where
  -- a name is a twin, or not
  twin_or_not : (name : FileName) → IsFileName name → OrNot (IsTwin names name)
  twin_or_not (Data stamp index false) spelt = there_or_not texts names directory (Data stamp index true) spelt
  twin_or_not (Data stamp index true) spelt = inr (λ twin. twin)
  twin_or_not (Tombstone stamp) spelt = inr (λ twin. twin)

  -- it is obsolete, or not
  obsolete_or_not : (name : FileName) → IsFileName name → OrNot (IsObsolete primary names name)
  obsolete_or_not name spelt =
      let floor = floor_of names in
      both (there_or_not texts names directory name spelt) (either (twin_or_not name spelt) (both (primary_or_not primary) (below_floor_or_not names name floor.0 floor.1)))

  -- a text is that of an obsolete name, or not
  goes_or_not : (text : List ℕ) → OrNot (IsObsoleteText primary names text)
  goes_or_not text = ⊎_elim
      (λ is. ⊎_elim
      (λ obsolete. inl (is.0, obsolete, is.2))
      (λ not. inr (λ other. not (subst (IsObsolete primary names) (one_text other.0 is.0 ((directory other.0).0 other.1.0).0 is.1 (sym other.2 ∙ is.2)) other.1)))
      (obsolete_or_not is.0 is.1))
      (λ none. inr (λ other. none (other.0, ((directory other.0).0 other.1.0).0, other.2)))
      (spelt_or_not text)

-- ---- normal forms

-- where each text goes or not, those are left that do not
left_of : (Goes : List ℕ → Type 0) → ((text : List ℕ) → OrNot (Goes text)) → (files : List File) → (left : List File) × AreThoseLeft Goes files left
left_of Goes or_not [] = ([], refl)
left_of Goes or_not (file ∷ files) =
    let rest = left_of Goes or_not files in
    ⊎_elim (λ goes. (rest.0, inl (goes, rest.1))) (λ stays. (file ∷ rest.0, inr (stays, rest.0, refl, rest.1))) (or_not file.name)

-- what is not obsolete
pub normal_form : (primary : Bool) (files : List File) → (normal : List File) × IsNormalForm primary files normal
normal_form primary files =
    let directory = directory_of (names_of files) in
    let left = left_of (IsObsoleteText primary directory.0) (goes_or_not primary (names_of files) directory.0 directory.1) files in
    (left.0, record { names = directory.0; directory = directory.1; left = left.1 })
