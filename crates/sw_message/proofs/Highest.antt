-- The greatest of floors: how those of a listing come to it one by one, that none of the floors is above it, and that it is the one before
-- them or their own.
use Rattle.std.proofs.Common.{◌≡◌, inl, inr, ◌⊎◌, ⊎_elim, ℕ, ◌+◌, ◌<◌, Bool, true, false, not, ◌&&◌, ◌||◌, cond, eqb, ltb, nat_lt, ◌==◌, Contains, List, [], ◌∷◌, ◌++◌, append-nil, append_assoc, length, get_or, map, take, Option, Some, None, refl, sym, ap, subst, ◌∙◌, arith}
use Rattle.std.specs.Prelude.{if◌then◌else◌}
use Rattle.std.specs.List.{filter}
use Rattle.std.proofs.lemmas.Bool.{and_parts, cases_Bool, cond-false, cond-true, eqb-true, ltb-true, or_cases}
use Rattle.std.proofs.lemmas.Bool.Decides.{nat_tests}
use Rattle.std.proofs.lemmas.List.{map-append, take_more}
use Rattle.std.proofs.lemmas.List.Elements.{Contains-append_left, Contains-push, Contains-push_cases, filter-append}
use Rattle.sw_hashdir.specs.Directory.{IsAbove}
use Rattle.sw_hashdir.specs.declared.entry.Entry.{Entry}
use Rattle.sw_hashdir.specs.declared.floor.Floor.{Floor}
use Rattle.sw_hashdir.specs.declared.floor.FloorKind.{FloorKind}
use Rattle.sw_hashdir.specs.declared.floor.FloorKind.TheVariants.{Durable, Tombstone}
use Rattle.sw_message.proofs.FloorLaws.{highest_from-append}
use Rattle.sw_message.specs.Floors.{IsHighest, durable_floor, higher, highest, highest_from, is_above, is_durable, is_tombstone, tombstone_floor}

-- ---- the floors of a listing, one by one

abbrev pub entry_floors : List Entry → List Floor
entry_floors entries = map durable_floor (filter is_durable entries)

next_seen : {X : Type 0} (xs : List X) (n : ℕ) (x : X) → n < length xs → x ≡ get_or xs n x → take (n + 1) xs ≡ take n xs ++ x ∷ []
next_seen xs n x within is = take_more xs n x within ∙ ap (λ y. take n xs ++ y ∷ []) (sym is)

module _ (best : Option Floor) where
  pub next_entry : (entries : List Entry) (n : ℕ) (entry : Entry) (durable : Bool) → n < length entries → entry ≡ get_or entries n entry → is_durable entry ≡ durable
      → highest_from best (entry_floors (take (n + 1) entries)) ≡ highest_from (highest_from best (entry_floors (take n entries))) (map durable_floor (cond durable (entry ∷ []) []))
  next_entry entries n entry durable within is kept =
      let seen = take n entries in
      ap (λ entries. highest_from best (entry_floors entries)) (next_seen entries n entry within is)
      ∙ ap (λ entries. highest_from best (map durable_floor entries)) (filter-append is_durable seen (entry ∷ []) ∙ ap (λ b. filter is_durable seen ++ cond b (entry ∷ []) []) kept)
      ∙ ap (highest_from best) (map-append durable_floor (filter is_durable seen) (cond durable (entry ∷ []) []))
      ∙ highest_from-append best (entry_floors seen) (map durable_floor (cond durable (entry ∷ []) []))

  pub next_stamp : (stamps : List ℕ) (n stamp : ℕ) → n < length stamps → stamp ≡ get_or stamps n stamp
      → highest_from best (map tombstone_floor (take (n + 1) stamps)) ≡ Some (higher (highest_from best (map tombstone_floor (take n stamps))) (tombstone_floor stamp))
  next_stamp stamps n stamp within is =
      ap (λ stamps. highest_from best (map tombstone_floor stamps)) (next_seen stamps n stamp within is)
      ∙ ap (highest_from best) (map-append tombstone_floor (take n stamps) (stamp ∷ []))
      ∙ highest_from-append best (map tombstone_floor (take n stamps)) (tombstone_floor stamp ∷ [])

-- ---- what is above

above_never : (floor : Floor) → IsAbove floor floor → ⊥
above_never floor (inl less) = omega (arith, less)
above_never floor (inr level) = let tombstone = level.1 in let durable = level.2 in absurd (cc)

above_trans : (a b c : Floor) → IsAbove a b → IsAbove b c → IsAbove a c
above_trans a b c (inl f) (inl g) = inl (omega (arith, f, g))
above_trans a b c (inl f) (inr g) = inl (omega (arith, f, g.0))
above_trans a b c (inr f) (inl g) = inl (omega (arith, f.0, g))
above_trans a b c (inr f) (inr g) = let durable = f.2 in let tombstone = g.1 in absurd (cc)

tombstone : (kind : FloorKind) → is_tombstone kind ≡ true → kind ≡ Tombstone
tombstone Durable is = absurd (cc)
tombstone Tombstone is = refl

durable : (kind : FloorKind) → not (is_tombstone kind) ≡ true → kind ≡ Durable
durable Durable is = refl
durable Tombstone is = absurd (cc)

pub above : (a b : Floor) → is_above a b ≡ true → IsAbove a b
above a b is = elim (or_cases (ltb b.stamp a.stamp) (eqb a.stamp b.stamp && (is_tombstone a.kind && not (is_tombstone b.kind))) is) [
  | inl less ↦ inl (ltb-true b.stamp a.stamp less)
  | inr rest ↦
      let level = and_parts (eqb a.stamp b.stamp) (is_tombstone a.kind && not (is_tombstone b.kind)) rest in
      let alone = and_parts (is_tombstone a.kind) (not (is_tombstone b.kind)) level.1 in
      inr (eqb-true a.stamp b.stamp level.0, tombstone a.kind alone.0, durable b.kind alone.1)
]

pub not_above : (a b : Floor) → is_above a b ≡ false → IsAbove a b → ⊥
not_above a b is (inl less) = grind (arith, nat_tests)
not_above a b is (inr level) =
    let first : is_tombstone a.kind ≡ true = ap is_tombstone level.1 in
    let second : is_tombstone b.kind ≡ false = ap is_tombstone level.2 in
    grind (arith, nat_tests)

-- ---- the greatest

module _ (seen : List Floor) (floor : Floor) where
  abbrev more : List Floor
  more = seen ++ floor ∷ []

  -- where it is above those before it
  now_highest : ((other : Floor) → Contains seen other → IsAbove other floor → ⊥) → IsHighest more (Some floor)
  now_highest none = (
    Contains-push seen floor,
    λ other has is. ⊎_elim
        (λ before. none other before is)
        (λ same. above_never floor (subst (λ f. IsAbove f floor) (sym same) is))
        (Contains-push_cases seen floor other has),
  )

  still_highest : (best : Floor) → IsHighest seen (Some best) → (IsAbove floor best → ⊥) → IsHighest more (Some best)
  still_highest best highest lower = (
    Contains-append_left seen (floor ∷ []) best highest.0,
    λ other has is. ⊎_elim
        (λ before. highest.1 other before is)
        (λ same. lower (subst (λ f. IsAbove f best) (sym same) is))
        (Contains-push_cases seen floor other has),
  )

  one_more : (best : Option Floor) → IsHighest seen best → IsHighest more (Some (higher best floor))
  one_more None none = now_highest (λ other has is. let there = subst (λ floors. Contains floors other) none has in absurd (omega (arith, there.1)))
  one_more (Some best) highest = elim (cases_Bool (is_above floor best)) [
    | inl is ↦ subst (λ top. IsHighest more (Some top)) (sym (cond-true (is_above floor best) floor best is))
        (now_highest (λ other has over. highest.1 other has (above_trans other floor best over (above floor best is))))
    | inr is ↦ subst (λ top. IsHighest more (Some top)) (sym (cond-false (is_above floor best) floor best is))
        (still_highest best highest (not_above floor best is))
  ]

highest_of_both : (seen : List Floor) (best : Option Floor) (floors : List Floor) → IsHighest seen best → IsHighest (seen ++ floors) (highest_from best floors)
highest_of_both seen best [] highest = subst (λ floors. IsHighest floors best) (sym (append-nil seen)) highest
highest_of_both seen best (floor ∷ floors) highest = subst (λ all. IsHighest all (highest_from (Some (higher best floor)) floors)) (append_assoc seen (floor ∷ []) floors)
    (highest_of_both (seen ++ floor ∷ []) (Some (higher best floor)) floors (one_more seen floor best highest))

pub is_highest : (floors : List Floor) → IsHighest floors (highest floors)
is_highest floors = highest_of_both [] None floors refl

-- ---- from one before them

-- what is above one, where another isn't, is above that other
by_parts : (a b c : ℕ) (one two three : Bool) → (nat_lt b a || (a == b && (one && not two))) ≡ true → (nat_lt b c || (c == b && (three && not two))) ≡ false
    → (nat_lt c a || (a == c && (one && not three))) ≡ true
by_parts a b c one two three above lower = grind (arith, nat_tests)

pub above_lower : (a b c : Floor) → is_above a b ≡ true → is_above c b ≡ false → is_above a c ≡ true
above_lower a b c = by_parts a.stamp b.stamp c.stamp (is_tombstone a.kind) (is_tombstone b.kind) (is_tombstone c.kind)

abbrev floor_of : ℕ → FloorKind → Floor
floor_of stamp kind = record { stamp = stamp; kind = kind }

-- of two floors, where neither is above the other, each is the other
by_kind : (m n : ℕ) (k l : FloorKind) → (nat_lt n m || (m == n && (is_tombstone k && not (is_tombstone l)))) ≡ false → (nat_lt m n || (n == m && (is_tombstone l && not (is_tombstone k)))) ≡ false
    → floor_of m k ≡ floor_of n l
by_kind m n Durable Durable one other = let same : m ≡ n = grind (arith, nat_tests) in ap (λ stamp. floor_of stamp Durable) same
by_kind m n Tombstone Tombstone one other = let same : m ≡ n = grind (arith, nat_tests) in ap (λ stamp. floor_of stamp Tombstone) same
by_kind m n Durable Tombstone one other = absurd (grind (arith, nat_tests))
by_kind m n Tombstone Durable one other = absurd (grind (arith, nat_tests))

pub neither_above : (a b : Floor) → is_above a b ≡ false → is_above b a ≡ false → a ≡ b
neither_above a b = by_kind a.stamp b.stamp a.kind b.kind

-- where another isn't above it, the greatest is it, or the greatest from that other
from_lower : (best other : Floor) (floors : List Floor) → is_above other best ≡ false
    → (highest_from (Some best) floors ≡ Some best) ⊎ (highest_from (Some best) floors ≡ highest_from (Some other) floors)
from_lower best other [] lower = inl refl
from_lower best other (floor ∷ floors) lower = elim (cases_Bool (is_above floor best)) [
  | inl is ↦ inr (first is ∙ sym (ap (λ b. highest_from (Some (if b then floor else other)) floors) (above_lower floor best other is lower)))
  | inr is ↦ elim (from_lower best (higher (Some other) floor) floors (still is (is_above floor other))) [ inl same ↦ inl (first is ∙ same) | inr same ↦ inr (first is ∙ same) ]
]
  where
    first : {b : Bool} → is_above floor best ≡ b → highest_from (Some (higher (Some best) floor)) floors ≡ highest_from (Some (if b then floor else best)) floors
    first is = ap (λ b. highest_from (Some (if b then floor else best)) floors) is

    still : is_above floor best ≡ false → (b : Bool) → is_above (if b then floor else other) best ≡ false
    still is true = is
    still is false = lower

pub highest_either : (best : Option Floor) (floors : List Floor) → (highest_from best floors ≡ best) ⊎ (highest_from best floors ≡ highest floors)
highest_either None floors = inr refl
highest_either (Some best) [] = inl refl
highest_either (Some best) (floor ∷ floors) = elim (cases_Bool (is_above floor best)) [
  | inl is ↦ inr (first is)
  | inr is ↦ elim (from_lower best floor floors is) [ inl same ↦ inl (first is ∙ same) | inr same ↦ inr (first is ∙ same) ]
]
  where
    first : {b : Bool} → is_above floor best ≡ b → highest_from (Some (higher (Some best) floor)) floors ≡ highest_from (Some (if b then floor else best)) floors
    first is = ap (λ b. highest_from (Some (if b then floor else best)) floors) is
