-- Floors and obsolete names, in other lists of the same names and once an obsolete name is gone.
use Rattle.std.proofs.Common.{◌≡◌, ◌≢◌, ◌⊎◌, inl, inr, ⊎_elim, ◌↔◌, ℕ, ◌<◌, Bool, true, false, Contains, List, Option, Some, None, refl, sym, ap, subst, ◌∙◌, arith}
use Rattle.std.proofs.lemmas.Bool.{cases_eq, cases_order}
use Rattle.sw_hashpath.specs.declared.file_name.FileName.{FileName}
use Rattle.sw_hashpath.specs.declared.file_name.FileName.TheVariants.{Data, Tombstone}
use Rattle.sw_hashdir.specs.Directory.{HasFloor, HasFloorAt, IsAbove, IsDirectory, IsFloor}
use Rattle.sw_hashdir.proofs.Laws.{twin_more}
use Rattle.sw_hashdir.specs.Obsolete.{IsBelow, IsBelowFloor, IsObsolete, IsTwin, IsWithout}
use Rattle.sw_hashdir.specs.declared.floor.Floor.{Floor}
use Rattle.sw_hashdir.specs.declared.floor.FloorKind.{FloorKind}
use Rattle.sw_hashdir.specs.declared.floor.FloorKind.TheVariants as kind
use Rattle.sw_hashdir.proofs.Directories.{kind_either}

-- ---- fewer names

module _ (names rest : List FileName) (more : (name : FileName) → Contains rest name → Contains names name) where
  has_floor_more : (stamp : ℕ) (k : FloorKind) → HasFloorAt rest stamp k → HasFloorAt names stamp k
  has_floor_more stamp kind.Durable has = (has.0, more (Data stamp has.0 true) has.1)
  has_floor_more stamp kind.Tombstone has = more (Tombstone stamp) has

  twin_before : (name : FileName) → IsTwin rest name → IsTwin names name
  twin_before = twin_more names rest (λ stamp index. more (Data stamp index true))

-- a floor stays where none comes to be, and it is still there
floor_moves : (names rest : List FileName) → ((floor : Floor) → HasFloor rest floor → HasFloor names floor) → ((floor : Floor) → IsFloor names (Some floor) → HasFloor rest floor)
    → (floor : Option Floor) → IsFloor names floor → IsFloor rest floor
floor_moves names rest more stays None is = λ other has. is other (more other has)
floor_moves names rest more stays (Some floor) is = (stays floor is, λ other has. is.1 other (more other has))

-- ---- other lists of the same names

abbrev pub AreSame : (names others : List FileName) → Type 0
AreSame names others = (name : FileName) → Contains names name ↔ Contains others name

pub one_directory : (texts : List (List ℕ)) (names others : List FileName) → IsDirectory texts names → IsDirectory texts others → AreSame names others
one_directory texts names others first second = λ name. (λ has. (second name).1 ((first name).0 has), λ has. (first name).1 ((second name).0 has))

module _ (names others : List FileName) (same : AreSame names others) where
  pub floor_same : (floor : Option Floor) → IsFloor names floor → IsFloor others floor
  floor_same floor is = floor_moves names others
      (λ other has. has_floor_more names others (λ name. (same name).1) other.stamp other.kind has)
      (λ here is_here. has_floor_more others names (λ name. (same name).0) here.stamp here.kind is_here.0)
      floor is

  pub obsolete_same : (is_primary : Bool) (name : FileName) → IsObsolete is_primary names name → IsObsolete is_primary others name
  obsolete_same is_primary name obsolete = (
    (same name).0 obsolete.0,
    ⊎_elim
        (λ twin. inl (twin_before others names (λ n. (same n).0) name twin))
        (λ below. inr (below.0, (below.1.0, floor_same (Some below.1.0) below.1.1, below.1.2)))
        obsolete.1,
  )

-- ---- once an obsolete name is gone

-- the name makes this floor
abbrev pub Makes : ℕ → FloorKind → FileName → Type 0
Makes stamp kind.Durable name = (index : ℕ) × (Data stamp index true ≡ name)
Makes stamp kind.Tombstone name = Tombstone stamp ≡ name

makes_no_twin : (names : List FileName) (stamp : ℕ) (k : FloorKind) (name : FileName) → Makes stamp k name → IsTwin names name → ⊥
makes_no_twin names stamp kind.Durable name makes twin = subst (IsTwin names) (sym makes.1) twin
makes_no_twin names stamp kind.Tombstone name makes twin = subst (IsTwin names) (sym makes) twin

makes_lower : (stamp : ℕ) (k : FloorKind) (name : FileName) (floor : Floor) → Makes stamp k name → IsBelow floor name → IsAbove floor (record { stamp = stamp; kind = k })
makes_lower stamp kind.Durable name floor makes below = ⊎_elim
    (λ less. inl less)
    (λ level. inr (sym level.0, level.1, refl))
    (subst (IsBelow floor) (sym makes.1) below)
makes_lower stamp kind.Tombstone name floor makes below = inl (subst (IsBelow floor) (sym makes) below)

-- what is below a floor is below each one that it is not above
level_below : (floor other : Floor) (stamp : ℕ) → (IsAbove floor other → ⊥) → stamp ≡ floor.stamp → floor.kind ≡ kind.Tombstone
    → (stamp < other.stamp) ⊎ ((stamp ≡ other.stamp) × (other.kind ≡ kind.Tombstone))
level_below floor other stamp not level tombstone = elim (cases_order floor.stamp other.stamp) [
  | inl same ↦ ⊎_elim (λ also. inr (level ∙ same, also)) (λ durable. absurd (not (inr (same, tombstone, durable)))) (kind_either other.kind)
  | inr (inl less) ↦ inl (omega arith)
  | inr (inr more) ↦ absurd (not (inl more))
]

below_too : (floor other : Floor) (name : FileName) → (IsAbove floor other → ⊥) → IsBelow floor name → IsBelow other name
below_too floor other (Data stamp index durable) not below = ⊎_elim
    (λ less. let upto : other.stamp < floor.stamp → ⊥ = λ above. not (inl above) in inl (omega (arith, less, upto)))
    (λ level. level_below floor other stamp not level.0 level.1)
    below
below_too floor other (Tombstone stamp) not below = let upto : other.stamp < floor.stamp → ⊥ = λ above. not (inl above) in omega (arith, below, upto)

durable_or_other : (stamp index : ℕ) (name : FileName) → (Data stamp index true ≡ name) ⊎ (Data stamp index true ≢ name)
durable_or_other stamp index (Data s i true) = ⊎_elim
    (λ first. ⊎_elim (λ second. inl (ap (λ t. Data t index true) first ∙ ap (λ k. Data s k true) second)) (λ differ. inr (λ same. differ (cc))) (cases_eq index i))
    (λ differ. inr (λ same. differ (cc)))
    (cases_eq stamp s)
durable_or_other stamp index (Data s i false) = inr (λ same. absurd (cc))
durable_or_other stamp index (Tombstone s) = inr (λ same. absurd (cc))

module _ (is_primary : Bool) (gone : FileName) (names rest : List FileName) (without : IsWithout gone names rest) (obsolete : IsObsolete is_primary names gone) where
  before : (name : FileName) → Contains rest name → Contains names name
  before name has = ((without name).0 has).0

  has_floor_still : (stamp : ℕ) (k : FloorKind) → (Makes stamp k gone → ⊥) → HasFloorAt names stamp k → HasFloorAt rest stamp k
  has_floor_still stamp kind.Durable none has = (has.0, (without (Data stamp has.0 true)).1 (has.1, λ same. none (has.0, same)))
  has_floor_still stamp kind.Tombstone none has = (without (Tombstone stamp)).1 (has, none)

  -- the name of the floor is not obsolete
  no_floor : (floor : Floor) → IsFloor names (Some floor) → Makes floor.stamp floor.kind gone → ⊥
  no_floor floor is makes = ⊎_elim
      (makes_no_twin names floor.stamp floor.kind gone makes)
      (λ below. is.1 below.1.0 below.1.1.0 (makes_lower floor.stamp floor.kind gone below.1.0 makes below.1.2))
      obsolete.1

  pub floor_still : (floor : Option Floor) → IsFloor names floor → IsFloor rest floor
  floor_still floor is = floor_moves names rest
      (λ other has. has_floor_more names rest before other.stamp other.kind has)
      (λ here is_here. has_floor_still here.stamp here.kind (no_floor here is_here) is_here.0)
      floor is

  below_floor_before : (name : FileName) → IsBelowFloor rest name → IsBelowFloor names name
  below_floor_before name below = ⊎_elim
      (λ twin. (
        below.0,
        floor_moves rest names
            (λ other has. has_floor_still other.stamp other.kind (λ makes. makes_no_twin names other.stamp other.kind gone makes twin) has)
            (λ here is_here. has_floor_more names rest before here.stamp here.kind is_here.0)
            (Some below.0) below.1,
        below.2,
      ))
      (λ under.
      let floor = under.1 in
      (floor.0, floor.1, below_too below.0 floor.0 name (floor.1.1 below.0 (has_floor_more names rest before below.0.stamp below.0.kind below.1.0)) below.2))
      obsolete.1

  -- the plain name whose durable one is gone as one below the floor is itself below it
  twin_still : (name : FileName) → IsTwin names name → IsTwin rest name ⊎ ((is_primary ≡ true) × IsBelowFloor rest name)
  twin_still (Data stamp index true) twin = absurd twin
  twin_still (Tombstone stamp) twin = absurd twin
  twin_still (Data stamp index false) twin = ⊎_elim
      (λ same. ⊎_elim
      (λ twin_too. absurd (subst (IsTwin names) (sym same) twin_too))
      (λ under. inr (under.0, (under.1.0, floor_still (Some under.1.0) under.1.1, subst (IsBelow under.1.0) (sym same) under.1.2)))
      obsolete.1)
      (λ differ. inl ((without (Data stamp index true)).1 (twin, differ)))
      (durable_or_other stamp index gone)

  -- what else is obsolete stays so, and nothing comes to be
  pub obsolete_before : (name : FileName) → IsObsolete is_primary rest name → IsObsolete is_primary names name × (name ≢ gone)
  obsolete_before name is =
      let was = (without name).0 is.0 in
      ((was.0, ⊎_elim (λ twin. inl (twin_before names rest before name twin)) (λ below. inr (below.0, below_floor_before name below.1)) is.1), was.1)

  pub obsolete_still : (name : FileName) → IsObsolete is_primary names name → name ≢ gone → IsObsolete is_primary rest name
  obsolete_still name is other = (
    (without name).1 (is.0, other),
    ⊎_elim
        (twin_still name)
        (λ below. inr (below.0, (below.1.0, floor_still (Some below.1.0) below.1.1, below.1.2)))
        is.1,
  )
