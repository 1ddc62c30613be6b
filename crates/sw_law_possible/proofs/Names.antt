-- What is so of the names of a folder, or not: which it has, its entries, and what its floor does.
use Rattle.std.proofs.Common.{◌≡◌, ◌⊎◌, ◌↔◌, inl, inr, ⊎_elim, ℕ, ◌<◌, Bool, true, false, Contains, List, Option, Some, None, refl, subst}
use Rattle.std.proofs.lemmas.Bool.{cases_eq}
use Rattle.sw_hashpath.specs.declared.file_name.FileName.{FileName}
use Rattle.sw_hashpath.specs.declared.file_name.FileName.TheVariants.{Data, Tombstone}
use Rattle.sw_hashdir.specs.Directory.{HasEntryAt, IsFloor, StandsAbove}
use Rattle.sw_hashdir.proofs.Laws.{one_floor}
use Rattle.sw_hashdir.specs.Obsolete.{IsObsolete, IsTwin, Replaces}
use Rattle.sw_hashdir.specs.declared.floor.Floor.{Floor}
use Rattle.sw_hashdir.specs.declared.floor.FloorKind.{FloorKind}
use Rattle.sw_hashdir.specs.declared.floor.FloorKind.TheVariants as kind
use Rattle.sw_message.specs.Table.{Allows, HasDurableFloor, IsCovered, IsUncovered, LacksEntry, Refuses}
use Rattle.sw_diskfile.proofs.Decisions.{OrNot, both, either, less_or_not}
use Rattle.sw_diskfile.proofs.Floors.{floor_of, tombstone_or_not}
use Rattle.sw_diskfile.proofs.NormalForms.{below_floor_or_not, primary_or_not}
use Rattle.sw_law_possible.proofs.Chosen.{has_or_not}

-- ---- names

-- a test answers as another, or not
truth_or_not : (a b : Bool) → OrNot (a ≡ b)
truth_or_not true true = inl refl
truth_or_not true false = inr (λ same. absurd (cc))
truth_or_not false true = inr (λ same. absurd (cc))
truth_or_not false false = inl refl

-- two names are the same, or not
pub name_or_not : (a b : FileName) → OrNot (a ≡ b)
name_or_not (Data stamp index durable) (Data other at d) = ⊎_elim
    (λ same. inl (λ i. Data (same.0 i) (same.1.0 i) (same.1.1 i)))
    (λ differ. inr (λ same.
    let stamps : stamp ≡ other = cc same in
    let indices : index ≡ at = cc same in
    let durables : durable ≡ d = cc same in
    differ (stamps, (indices, durables))))
    (both (cases_eq stamp other) (both (cases_eq index at) (truth_or_not durable d)))
name_or_not (Data stamp index durable) (Tombstone other) = inr (λ same. absurd (cc same))
name_or_not (Tombstone stamp) (Data other at d) = inr (λ same. absurd (cc same))
name_or_not (Tombstone stamp) (Tombstone other) = ⊎_elim
    (λ same. inl (λ i. Tombstone (same i)))
    (λ differ. inr (λ same. let stamps : stamp ≡ other = cc same in differ stamps))
    (cases_eq stamp other)

-- a name is among these, or not
pub among_or_not : (names : List FileName) (name : FileName) → OrNot (Contains names name)
among_or_not names name = has_or_not name_or_not names name

-- a name takes the place of another, or not
pub replaces_or_not : (made other : FileName) → OrNot (Replaces made other)
replaces_or_not (Data stamp index true) other = name_or_not other (Data stamp index false)
replaces_or_not (Data stamp index false) other = inr (λ none. none)
replaces_or_not (Tombstone stamp) other = inr (λ none. none)

module _ (names : List FileName) where
  twin_or_not : (name : FileName) → OrNot (IsTwin names name)
  twin_or_not (Data stamp index false) = among_or_not names (Data stamp index true)
  twin_or_not (Data stamp index true) = inr (λ none. none)
  twin_or_not (Tombstone stamp) = inr (λ none. none)

  -- a name is obsolete among them, or not
  pub obsolete_or_not : (primary : Bool) (name : FileName) → OrNot (IsObsolete primary names name)
  obsolete_or_not primary name =
      let floor = floor_of names in
      both (among_or_not names name) (either (twin_or_not name) (both (primary_or_not primary) (below_floor_or_not names name floor.0 floor.1)))

  -- ---- entries

  -- an entry is there, or lacks
  abbrev HasOrLacks : (stamp index : ℕ) → Type 0
  HasOrLacks stamp index = ((durable : Bool) × HasEntryAt names stamp index durable) ⊎ LacksEntry names stamp index

  entry_by : (stamp index : ℕ) → OrNot (Contains names (Data stamp index true)) → OrNot (Contains names (Data stamp index false)) → HasOrLacks stamp index
  entry_by stamp index (inl durable) plain = inl (true, durable)
  entry_by stamp index (inr not) (inl plain) = inl (false, (plain, not))
  entry_by stamp index (inr not) (inr nor) = inr neither
    where
      neither : LacksEntry names stamp index
      neither true has = not has
      neither false has = nor has

  pub entry_or_lacks : (stamp index : ℕ) → HasOrLacks stamp index
  entry_or_lacks stamp index = entry_by stamp index (among_or_not names (Data stamp index true)) (among_or_not names (Data stamp index false))

  -- ---- the floor

  -- of the floor something holds, or of none
  abbrev pub OfFloorOrNone : (Floor → Type 0) → Type 0
  OfFloorOrNone P = ((floor : Floor) × IsFloor names (Some floor) × P floor) ⊎ ((floor : Floor) → IsFloor names (Some floor) × P floor → ⊥)

  floor_by : (P : Floor → Type 0) → ((floor : Floor) → OrNot (P floor)) → (floor : Option Floor) → IsFloor names floor → OfFloorOrNone P
  floor_by P or_not None none = inr (λ floor is. none floor is.0.0)
  floor_by P or_not (Some floor) is = ⊎_elim (λ p. inl (floor, is, p)) (λ not. inr (λ other has. not (subst P (one_floor names other floor has.0 is) has.1))) (or_not floor)

  of_floor : (P : Floor → Type 0) → ((floor : Floor) → OrNot (P floor)) → OfFloorOrNone P
  of_floor P or_not = let floor = floor_of names in floor_by P or_not floor.0 floor.1

  -- it stands above a stamp
  pub covered_or_not : (stamp : ℕ) → ((floor : Floor) × IsCovered names stamp floor) ⊎ IsUncovered names stamp
  covered_or_not stamp = ⊎_elim
      (λ is. inl (is.0, (is.1, is.2)))
      (λ none. inr none)
      (of_floor (λ floor. StandsAbove floor stamp) (λ floor. either (less_or_not stamp floor.stamp) (both (cases_eq floor.stamp stamp) (tombstone_or_not floor.kind))))

  durable_or_not : (k : FloorKind) → OrNot (k ≡ kind.Durable)
  durable_or_not kind.Durable = inl refl
  durable_or_not kind.Tombstone = inr (λ same. absurd (cc))

  -- it refuses a tombstone
  pub refused_or_not : (stamp : ℕ) → ((floor : Floor) × Refuses names stamp floor) ⊎ Allows names stamp
  refused_or_not stamp = ⊎_elim
      (λ is. inl (is.0, (is.1, is.2)))
      (λ none. inr none)
      (of_floor (λ floor. (stamp < floor.stamp) ⊎ ((floor.stamp ≡ stamp) × (floor.kind ≡ kind.Durable))) (λ floor. either (less_or_not stamp floor.stamp) (both (cases_eq floor.stamp stamp) (durable_or_not floor.kind))))

  -- it is durable
  pub existed_or_not : (existed : Bool) × ((existed ≡ true) ↔ HasDurableFloor names)
  existed_or_not = ⊎_elim
      (λ has. (true, ((λ same. has), (λ durable. refl))))
      (λ none. (false, ((λ same. absurd (cc)), (λ durable. absurd (none durable.0 (durable.1, durable.2))))))
      (of_floor (λ floor. floor.kind ≡ kind.Durable) (λ floor. durable_or_not floor.kind))
