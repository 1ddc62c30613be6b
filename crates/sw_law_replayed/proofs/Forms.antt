-- Nothing is obsolete in the normal form of a folder, so that it is its own normal form, and the folder and it have one.
use Rattle.std.proofs.Common.{inl, inr, ⊎_elim, ℕ, ◌<◌, Bool, true, Contains, List, [], ◌∷◌, Option, Some, None, refl, subst, ◌∙◌, arith}
use Rattle.std.proofs.lemmas.Bool.{cases_eq}
use Rattle.sw_disk.specs.Answers.{names_of}
use Rattle.sw_disk.specs.Folder.{File}
use Rattle.sw_hashpath.specs.FileName.{file_name_text}
use Rattle.sw_hashpath.specs.declared.file_name.FileName.{FileName}
use Rattle.sw_hashpath.specs.declared.file_name.FileName.TheVariants.{Data, Tombstone}
use Rattle.sw_hashdir.specs.Directory.{HasFloorAt, IsAbove, IsDirectory, IsFloor}
use Rattle.sw_hashdir.specs.Obsolete.{IsBelow, IsBelowFloor, IsObsolete}
use Rattle.sw_hashdir.specs.declared.floor.Floor.{Floor}
use Rattle.sw_hashdir.specs.declared.floor.FloorKind.{FloorKind}
use Rattle.sw_hashdir.specs.declared.floor.FloorKind.TheVariants as kind
use Rattle.sw_hashdir.proofs.Directories.{kind_either}
use Rattle.sw_hashdir.proofs.Laws.{twin_more}
use Rattle.sw_diskfile.specs.Normal.{AreThoseLeft, HaveOneNormalForm, IsNormalForm, IsObsoleteText}
use Rattle.sw_diskfile.proofs.Floors.{floor_of}
use Rattle.sw_diskfile.proofs.Lists.{Contains-cases, Contains-first, Contains-later, Contains-none}
use Rattle.sw_diskfile.proofs.Normal.{one_normal}
use Rattle.sw_diskfile.proofs.Removals.{all_left}
use Rattle.sw_diskfile.proofs.Spelt.{directory_of}

-- ---- the files that are left

-- the names of those that are left were there, and do not go
left_there : (Goes : List ℕ → Type 0) (files left : List File) → AreThoseLeft Goes files left → (text : List ℕ) → Contains (names_of left) text → Contains (names_of files) text × (Goes text → ⊥)
left_there Goes [] left none text has = absurd (Contains-none text (subst (λ (fs : List File). Contains (names_of fs) text) none has))
left_there Goes (file ∷ files) left (inl gone) text has =
    let rest = left_there Goes files left gone.1 text has in
    (Contains-later file.name (names_of files) text rest.0, rest.1)
left_there Goes (file ∷ files) left (inr stays) text has = ⊎_elim
    (λ here. (subst (Contains (file.name ∷ names_of files)) here (Contains-first file.name (names_of files)), subst (λ (t : List ℕ). Goes t → ⊥) here stays.0))
    (λ later. let rest = left_there Goes files stays.1 stays.3 text later in (Contains-later file.name (names_of files) text rest.0, rest.1))
    (Contains-cases file.name (names_of stays.1) text (subst (λ (fs : List File). Contains (names_of fs) text) stays.2 has))

-- ---- floors of more names

-- what is below a floor is below each one that it is not above
below_too : (floor other : Floor) (name : FileName) → (IsAbove floor other → ⊥) → IsBelow floor name → IsBelow other name
below_too floor other (Tombstone stamp) not below = let upto : other.stamp < floor.stamp → ⊥ = λ above. not (inl above) in omega (arith, below, upto)
below_too floor other (Data stamp index durable) not (inl less) = let upto : other.stamp < floor.stamp → ⊥ = λ above. not (inl above) in inl (omega (arith, less, upto))
below_too floor other (Data stamp index durable) not (inr level) = elim (cases_eq floor.stamp other.stamp) [
  | inl same ↦ ⊎_elim (λ tombstone. inr (level.0 ∙ same, tombstone)) (λ plain. absurd (not (inr (same, level.1, plain)))) (kind_either other.kind)
  | inr differ ↦ let upto : other.stamp < floor.stamp → ⊥ = λ above. not (inl above) in inl (omega (arith, level.0, differ, upto))
]

module _ (names rest : List FileName) (more : (name : FileName) → Contains rest name → Contains names name) where
  floor_more : (stamp : ℕ) (k : FloorKind) → HasFloorAt rest stamp k → HasFloorAt names stamp k
  floor_more stamp kind.Durable has = (has.0, more (Data stamp has.0 true) has.1)
  floor_more stamp kind.Tombstone has = more (Tombstone stamp) has

  -- what is below the floor of some names is below that of more names, and what was obsolete among the first is so among these
  below_more : (name : FileName) → IsBelowFloor rest name → (highest : Option Floor) → IsFloor names highest → IsBelowFloor names name
  below_more name below None none = absurd (none below.0 (floor_more below.0.stamp below.0.kind below.1.0))
  below_more name below (Some floor) is = (floor, is, below_too below.0 floor name (is.1 below.0 (floor_more below.0.stamp below.0.kind below.1.0)) below.2)

  obsolete_more : (primary : Bool) (name : FileName) → IsObsolete primary rest name → IsObsolete primary names name
  obsolete_more primary name is = (
    more name is.0,
    ⊎_elim
        (λ twin. inl (twin_more names rest (λ stamp index. more (Data stamp index true)) name twin))
        (λ below. let highest = floor_of names in inr (below.0, below_more name below.1 highest.0 highest.1))
        is.1,
  )

-- ---- normal forms

module _ (primary : Bool) (files normal : List File) (is : IsNormalForm primary files normal) where
  -- a name that is left was there, and was not obsolete
  was_there : (names : List FileName) → IsDirectory (names_of normal) names → (name : FileName) → Contains names name → Contains is.names name × (IsObsolete primary is.names name → ⊥)
  was_there names directory name has =
      let spelt = (directory name).0 has in
      let left = left_there (IsObsoleteText primary is.names) files normal is.left (file_name_text name) spelt.1 in
      ((is.directory name).1 (spelt.0, left.0), λ obsolete. left.1 (name, obsolete, refl))

  normal_itself : IsNormalForm primary normal normal
  normal_itself =
      let directory = directory_of (names_of normal) in
      record {
        names = directory.0;
        directory = directory.1;
        left = all_left (IsObsoleteText primary directory.0)
            (λ text goes. (was_there directory.0 directory.1 goes.0 goes.1.0).1 (obsolete_more is.names directory.0 (λ name has. (was_there directory.0 directory.1 name has).0) primary goes.0 goes.1)) normal;
      }

  pub one_form : HaveOneNormalForm primary normal files
  one_form form = (
    λ other. subst (IsNormalForm primary files) (one_normal primary normal normal form normal_itself other) is,
    λ other. subst (IsNormalForm primary normal) (one_normal primary files normal form is other) normal_itself,
  )
