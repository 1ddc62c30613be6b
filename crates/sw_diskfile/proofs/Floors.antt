-- Each list of names has a floor or none.
use Rattle.std.proofs.Common.{◌≡◌, inl, inr, ⊎_elim, ℕ, true, false, Contains, List, [], ◌∷◌, Option, Some, None, refl, sym, ◌∙◌, arith}
use Rattle.std.proofs.lemmas.Bool.{cases_eq}
use Rattle.sw_hashpath.specs.declared.file_name.FileName.{FileName}
use Rattle.sw_hashpath.specs.declared.file_name.FileName.TheVariants.{Data, Tombstone}
use Rattle.sw_hashdir.specs.Directory.{HasFloor, HasFloorAt, IsAbove, IsFloor}
use Rattle.sw_hashdir.specs.declared.floor.Floor.{Floor}
use Rattle.sw_hashdir.specs.declared.floor.FloorKind.{FloorKind}
use Rattle.sw_hashdir.specs.declared.floor.FloorKind.TheVariants as kind
use Rattle.sw_hashdir.proofs.Directories.{first_above, first_alone, second_above, second_alone}
use Rattle.sw_diskfile.proofs.Decisions.{OrNot, all_three, either, less_or_not}
use Rattle.sw_diskfile.proofs.Lists.{Contains-cases, Contains-first, Contains-none}
use Rattle.sw_diskfile.proofs.Obsoletes.{Makes}

-- the names have a floor or none
abbrev pub KnowsFloor : List FileName → Type 0
KnowsFloor names = (floor : Option Floor) × IsFloor names floor

-- ---- one name

-- it alone is there
only : (name other : FileName) → Contains (name ∷ []) other → other ≡ name
only name other has = ⊎_elim (λ here. sym here) (λ none. absurd (Contains-none other none)) (Contains-cases name [] other has)

-- so it makes each floor that there is
makes : (name : FileName) (stamp : ℕ) (k : FloorKind) → HasFloorAt (name ∷ []) stamp k → Makes stamp k name
makes name stamp kind.Durable has = (has.0, only name (Data stamp has.0 true) has.1)
makes name stamp kind.Tombstone has = only name (Tombstone stamp) has

-- a plain name makes none
makes_none : (stamp index other : ℕ) (k : FloorKind) → Makes other k (Data stamp index false) → ⊥
makes_none stamp index other kind.Durable is = let same = is.1 in absurd (cc)
makes_none stamp index other kind.Tombstone is = absurd (cc)

-- each other one makes one alone
makes_one : (name : FileName) (s t : ℕ) (k l : FloorKind) → Makes s k name → Makes t l name → (s ≡ t) × (k ≡ l)
makes_one name s t kind.Durable kind.Durable first second =
    let same = first.1 ∙ sym second.1 in
    let stamp : s ≡ t = cc in
    (stamp, refl)
makes_one name s t kind.Durable kind.Tombstone first second = let same = first.1 ∙ sym second in absurd (cc)
makes_one name s t kind.Tombstone kind.Durable first second = let same = first ∙ sym second.1 in absurd (cc)
makes_one name s t kind.Tombstone kind.Tombstone first second =
    let same = first ∙ sym second in
    let stamp : s ≡ t = cc in
    (stamp, refl)

-- of which none is above itself
none_above : (floor other : Floor) → (other.stamp ≡ floor.stamp) × (other.kind ≡ floor.kind) → IsAbove other floor → ⊥
none_above floor other same (inl less) = omega (arith, less, same.0)
none_above floor other same (inr level) = let tombstone = level.1 in let durable = level.2 in let kinds = same.1 in absurd (cc)

own_is : (name : FileName) (floor : Floor) → HasFloor (name ∷ []) floor → KnowsFloor (name ∷ [])
own_is name floor has = (
  Some floor,
  (has, λ other has_other. none_above floor other (makes_one name other.stamp floor.stamp other.kind floor.kind (makes name other.stamp other.kind has_other) (makes name floor.stamp floor.kind has))),
)

own : (name : FileName) → KnowsFloor (name ∷ [])
own (Data stamp index true) = own_is (Data stamp index true) (record { stamp = stamp; kind = kind.Durable }) (index, Contains-first (Data stamp index true) [])
own (Data stamp index false) = (None, λ other has. makes_none stamp index other.stamp other.kind (makes (Data stamp index false) other.stamp other.kind has))
own (Tombstone stamp) = own_is (Tombstone stamp) (record { stamp = stamp; kind = kind.Tombstone }) (Contains-first (Tombstone stamp) [])

-- ---- which of two is above

-- a floor is a tombstone, or not, and durable, or not
pub tombstone_or_not : (k : FloorKind) → OrNot (k ≡ kind.Tombstone)
tombstone_or_not kind.Tombstone = inl refl
tombstone_or_not kind.Durable = inr (λ same. absurd (cc))

durable_or_not : (k : FloorKind) → OrNot (k ≡ kind.Durable)
durable_or_not kind.Durable = inl refl
durable_or_not kind.Tombstone = inr (λ same. absurd (cc))

-- it is above another, or not
above_or_not : (floor other : Floor) → OrNot (IsAbove floor other)
above_or_not floor other = either (less_or_not other.stamp floor.stamp) (all_three (cases_eq floor.stamp other.stamp) (tombstone_or_not floor.kind) (durable_or_not other.kind))

-- ---- all names

-- none has a floor where there is none
none_of : (stamp : ℕ) (k : FloorKind) → HasFloorAt [] stamp k → ⊥
none_of stamp kind.Durable has = Contains-none (Data stamp has.0 true) has.1
none_of stamp kind.Tombstone has = Contains-none (Tombstone stamp) has

-- one name more
joined : (name : FileName) (names : List FileName) (a b : Option Floor) → IsFloor (name ∷ []) a → IsFloor names b → KnowsFloor (name ∷ names)
joined name names None b first second = (b, second_alone (name ∷ []) names b first second)
joined name names (Some a) None first second = (Some a, first_alone (name ∷ []) names (Some a) first second)
joined name names (Some a) (Some b) first second = ⊎_elim
    (λ is. (Some b, second_above (name ∷ []) names a b first second is))
    (λ not. (Some a, first_above (name ∷ []) names a b first second not))
    (above_or_not b a)

-- each list of names has a floor or none
pub floor_of : (names : List FileName) → KnowsFloor names
floor_of [] = (None, λ other has. none_of other.stamp other.kind has)
floor_of (name ∷ names) = let first = own name in let rest = floor_of names in joined name names first.0 rest.0 first.1 rest.1
