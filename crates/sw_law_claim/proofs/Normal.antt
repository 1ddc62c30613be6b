-- A folder bears what its normal form does.
use Rattle.std.proofs.Common.{◌≡◌, ◌⊎◌, inl, inr, ⊎_elim, ◌↔◌, ℕ, Bool, true, false, Contains, List, [], ◌∷◌, Some, sym, subst}
use Rattle.sw_disk.specs.Answers.{names_of}
use Rattle.sw_disk.specs.Folder.{File}
use Rattle.sw_hashpath.specs.FileName.{file_name_text}
use Rattle.sw_hashpath.specs.declared.file_name.FileName.{FileName}
use Rattle.sw_hashpath.specs.declared.file_name.FileName.TheVariants.{Data, Tombstone}
use Rattle.sw_hashdir.specs.Directory.{IsFloor, StandsAbove}
use Rattle.sw_hashdir.specs.Obsolete.{IsBelowFloor, IsObsolete, IsTwin}
use Rattle.sw_hashdir.specs.declared.floor.Floor.{Floor}
use Rattle.sw_hashdir.proofs.Texts.{one_text}
use Rattle.sw_diskfile.specs.Normal.{AreThoseLeft, IsNormalForm}
use Rattle.sw_diskfile.proofs.Lists.{Contains-cases, Contains-first, Contains-later, Contains-none}
use Rattle.sw_law_claim.specs.Claim.{Claim, IsBearing, IsBorneBy}
use Rattle.sw_law_claim.proofs.Bearing.{bearing_below, plain_bears, shows_below, shows_no_twin}
use Rattle.sw_law_claim.proofs.Floors.{floor_name}

-- ---- the names that are left

module _ (Goes : List ℕ → Type 0) where
  -- a name is left, or it goes
  left_or_goes : (files left : List File) → AreThoseLeft Goes files left → (text : List ℕ) → Contains (names_of files) text → Contains (names_of left) text ⊎ Goes text
  left_or_goes [] left are text has = absurd (Contains-none text has)
  left_or_goes (file ∷ files) left (inl gone) text has = ⊎_elim
      (λ here. inr (subst Goes here gone.0))
      (λ later. left_or_goes files left gone.1 text later)
      (Contains-cases file.name (names_of files) text has)
  left_or_goes (file ∷ files) left (inr stays) text has =
      subst (λ (fs : List File). Contains (names_of fs) text ⊎ Goes text) (sym stays.2) (⊎_elim
      (λ here. inl (subst (Contains (file.name ∷ names_of stays.1)) here (Contains-first file.name (names_of stays.1))))
      (λ later. ⊎_elim (λ left. inl (Contains-later file.name (names_of stays.1) text left)) (λ goes. inr goes) (left_or_goes files stays.1 stays.3 text later))
      (Contains-cases file.name (names_of files) text has))

  -- each that is left was there
  pub left_before : (files left : List File) → AreThoseLeft Goes files left → (text : List ℕ) → Contains (names_of left) text → Contains (names_of files) text
  left_before [] left are text has = subst (λ (fs : List File). Contains (names_of fs) text) are has
  left_before (file ∷ files) left (inl gone) text has = Contains-later file.name (names_of files) text (left_before files left gone.1 text has)
  left_before (file ∷ files) left (inr stays) text has = ⊎_elim
      (λ here. subst (Contains (file.name ∷ names_of files)) here (Contains-first file.name (names_of files)))
      (λ later. Contains-later file.name (names_of files) text (left_before files stays.1 stays.3 text later))
      (Contains-cases file.name (names_of stays.1) text (subst (λ (fs : List File). Contains (names_of fs) text) stays.2 has))

-- ---- what they bear

module _ (primary : Bool) (files normal : List File) (form : IsNormalForm primary files normal) (claim : Claim) where
  -- a name is left, or it is obsolete
  left_or_obsolete : (name : FileName) → Contains form.names name → Contains (names_of normal) (file_name_text name) ⊎ IsObsolete primary form.names name
  left_or_obsolete name has =
      let spelt = (form.directory name).0 has in
      ⊎_elim
      (λ left. inl left)
      (λ goes. inr (subst (IsObsolete primary form.names) (one_text goes.0 name ((form.directory goes.0).0 goes.1.0).0 spelt.0 (sym goes.2)) goes.1))
      (left_or_goes _ files normal form.left (file_name_text name) spelt.1)

  -- a name that is left bears what it bore
  left_bears : (name : FileName) → Contains form.names name → IsBearing primary claim name → Contains (names_of normal) (file_name_text name) → IsBorneBy primary claim normal
  left_bears name has bearing left = record { name = name; spelt = ((form.directory name).0 has).0; there = left; bearing = bearing }

  -- a primary bears what its floor stands above: the floor's own name is not obsolete
  floor_bears : primary ≡ true → (floor : Floor) → IsFloor form.names (Some floor) → StandsAbove floor claim.stamp → IsBorneBy primary claim normal
  floor_bears at_primary floor is stands =
      let shown = floor_name form.names floor.stamp floor.kind is.0 in
      ⊎_elim
      (left_bears shown.0 shown.1 (inr (at_primary, floor, shown.2, stands)))
      (λ obsolete. ⊎_elim
      (λ twin. absurd (shows_no_twin form.names shown.0 floor shown.2 twin))
      (λ below. absurd (is.1 below.1.0 below.1.1.0 (shows_below shown.0 floor below.1.0 shown.2 below.1.2)))
      obsolete.1)
      (left_or_obsolete shown.0 shown.1)

  -- what a name below the floor bears
  below_bears : (name : FileName) → IsBearing primary claim name → (primary ≡ true) × IsBelowFloor form.names name → IsBorneBy primary claim normal
  below_bears name bearing below = floor_bears below.0 below.1.0 below.1.1 (bearing_below primary claim name below.1.0 bearing below.1.2)

  -- a durable name is left, or the floor is above it
  durable_bears : (stamp index : ℕ) → Contains form.names (Data stamp index true) → IsBearing primary claim (Data stamp index true) → IsBorneBy primary claim normal
  durable_bears stamp index has bearing = ⊎_elim
      (left_bears (Data stamp index true) has bearing)
      (λ obsolete. ⊎_elim (λ twin. absurd twin) (below_bears (Data stamp index true) bearing) obsolete.1)
      (left_or_obsolete (Data stamp index true) has)

  -- that of a twin bears what the twin does
  twin_bears : (name : FileName) → IsTwin form.names name → IsBearing primary claim name → IsBorneBy primary claim normal
  twin_bears (Data stamp index false) twin bearing = durable_bears stamp index twin (plain_bears primary claim stamp index bearing)
  twin_bears (Data stamp index true) twin bearing = absurd twin
  twin_bears (Tombstone stamp) twin bearing = absurd twin

  -- what any name bears
  name_bears : (name : FileName) → Contains form.names name → IsBearing primary claim name → IsBorneBy primary claim normal
  name_bears name has bearing = ⊎_elim
      (left_bears name has bearing)
      (λ obsolete. ⊎_elim (λ twin. twin_bears name twin bearing) (below_bears name bearing) obsolete.1)
      (left_or_obsolete name has)

  -- the normal form bears the same
  pub normal_bears : IsBorneBy primary claim files ↔ IsBorneBy primary claim normal
  normal_bears = (
    λ borne. name_bears borne.name ((form.directory borne.name).1 (borne.spelt, borne.there)) borne.bearing,
    λ borne. record { name = borne.name; spelt = borne.spelt; there = left_before _ files normal form.left (file_name_text borne.name) borne.there; bearing = borne.bearing },
  )
