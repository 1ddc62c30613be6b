-- The small cluster keeps the rules, and each place there has both devices as primaries and no handoff.
use Rattle.std.proofs.Common.{◌≡◌, ◌≢◌, ℕ, zero, suc, ◌+◌, ◌^◌, ◌<◌, true, not, filter, List, [], ◌∷◌, length, refl, sym, ap, subst, arith}
use Rattle.std.specs.List.{All, AllPairs, slice_index}
use Rattle.std.proofs.lemmas.List.Elements.{All-cons, All-nil}
use Rattle.std.proofs.lemmas.List.Kept.{AllPairs-cons}
use Rattle.sw_types.specs.Name.{NameModel}
use Rattle.sw_ring.specs.Cluster.{KeepsRules, column_of, handoffs_of, ids_of, place_of_name}
use Rattle.sw_ring.specs.Ring.{is_among}
use Rattle.sw_quorum.proofs.Places.{part_small}
use Rattle.sw_law_example.specs.Pair.{pair}

abbrev pub both : List ℕ
both = 0 ∷ 1 ∷ []

-- ---- rules

column : (part : ℕ) → part < 1 → column_of pair part ≡ both
column part below = let first : part ≡ 0 = omega (arith, below) in ap (column_of pair) first

known : All (λ id. is_among (ids_of pair) id ≡ true) both
known = All-cons (λ id. is_among (ids_of pair) id ≡ true) 0 (1 ∷ []) refl (All-cons (λ id. is_among (ids_of pair) id ≡ true) 1 [] refl (All-nil (λ id. is_among (ids_of pair) id ≡ true)))

apart : AllPairs (λ one other. one ≢ other) both
apart = AllPairs-cons (λ one other. one ≢ other) 0 (1 ∷ []) (All-cons (λ (other : ℕ). 0 ≢ other) 1 [] (λ same. absurd (omega (arith, same))) (All-nil (λ (other : ℕ). 0 ≢ other))) (λ i j d less within. absurd (omega (arith, less, within)))

one_long : All (λ (row : List ℕ). length row ≡ 2 ^ 0) ((0 ∷ []) ∷ (1 ∷ []) ∷ [])
one_long = All-cons (λ (row : List ℕ). length row ≡ 2 ^ 0) (0 ∷ []) ((1 ∷ []) ∷ []) refl (All-cons (λ (row : List ℕ). length row ≡ 2 ^ 0) (1 ∷ []) [] refl (All-nil (λ (row : List ℕ). length row ≡ 2 ^ 0)))

rises : (i : ℕ) → i + 1 < 2 → slice_index both i < slice_index both (i + 1)
rises zero below = omega arith
rises (suc i) below = absurd (omega (arith, below))

pub pair_rules : KeepsRules pair
pair_rules = record {
  part_power = omega arith;
  policy = refl;
  few = omega arith;
  ascending = rises;
  rows = refl;
  lengths = one_long;
  known = λ part below. subst (All (λ id. is_among (ids_of pair) id ≡ true)) (sym (column part below)) known;
  apart = λ part below. subst (AllPairs (λ one other. one ≢ other)) (sym (column part below)) apart;
}

-- ---- places

module _ (name : NameModel) where
  pub primaries_are : column_of pair (place_of_name pair name).part ≡ both
  primaries_are = column (place_of_name pair name).part (part_small pair name)

  pub handoffs_are : handoffs_of pair (place_of_name pair name).part ≡ []
  handoffs_are = ap (λ column. filter (λ id. not (is_among column id)) (ids_of pair)) primaries_are
