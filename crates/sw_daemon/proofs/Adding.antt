-- Suffixes at which another list differs are added to those that differ.
use Rattle.std.proofs.Common.{◌≡◌, ◌≢◌, ◌⊎◌, inl, inr, ℕ, ◌==◌, ◌||◌, Bool, true, false, List, ◌++◌, refl, sym, subst, ◌∙◌}
use Rattle.std.specs.List.{list_any}
use Rattle.std.proofs.lemmas.Bool.{eq-eqb, eqb-true, or_cases}
use Rattle.std.proofs.lemmas.List.Folds.{list_any-append}
use Rattle.sw_gather.proofs.Lists.{any_passes, some_passes}
use Rattle.sw_suffix.specs.Table.{AreDiffering, Hashed, hash_at}
use Rattle.sw_daemon.specs.Comparing.{Differing, HasSuffix, MoreDiffer}

or-left : (a b : Bool) → a ≡ true → (a || b) ≡ true
or-left true b is = refl
or-left false b is = absurd (cc)

or-right : (a b : Bool) → b ≡ true → (a || b) ≡ true
or-right true b is = refl
or-right false b is = is

module _ (is_all : Bool) (old more : List ℕ) (own hashes : List Hashed) (differ : AreDiffering own hashes more) where
  abbrev before : Differing
  before = record { is_all = is_all; suffixes = old }

  abbrev after : Differing
  after = record { is_all = is_all; suffixes = old ++ more }

  abbrev has : ℕ → List ℕ → Bool
  has suffix suffixes = list_any (λ other. other == suffix) suffixes

  of_more : (suffix : ℕ) → has suffix more ≡ true → hash_at suffix own ≢ hash_at suffix hashes
  of_more suffix any =
      let one = some_passes (λ other. other == suffix) more any in
      subst (λ n. hash_at n own ≢ hash_at n hashes) (eqb-true one.0 suffix one.2) ((differ.all one.0).0 one.1)

  from_after : (suffix : ℕ) → HasSuffix after suffix → HasSuffix before suffix ⊎ (hash_at suffix own ≢ hash_at suffix hashes)
  from_after suffix there = by_list (or_cases is_all (has suffix (old ++ more)) there)
    where
      by_part : has suffix old ≡ true ⊎ has suffix more ≡ true → HasSuffix before suffix ⊎ (hash_at suffix own ≢ hash_at suffix hashes)
      by_part (inl was) = inl (or-right is_all (has suffix old) was)
      by_part (inr added) = inr (of_more suffix added)

      by_list : is_all ≡ true ⊎ has suffix (old ++ more) ≡ true → HasSuffix before suffix ⊎ (hash_at suffix own ≢ hash_at suffix hashes)
      by_list (inl all) = inl (or-left is_all (has suffix old) all)
      by_list (inr listed) = by_part (or_cases (has suffix old) (has suffix more) (sym (list_any-append (λ other. other == suffix) old more) ∙ listed))

  to_after : (suffix : ℕ) → HasSuffix before suffix ⊎ (hash_at suffix own ≢ hash_at suffix hashes) → HasSuffix after suffix
  to_after suffix (inr differs) =
      or-right is_all (has suffix (old ++ more)) (list_any-append (λ other. other == suffix) old more ∙ or-right (has suffix old) (has suffix more)
      (any_passes (λ other. other == suffix) more suffix ((differ.all suffix).1 differs) (eq-eqb suffix suffix refl)))
  to_after suffix (inl there) = by_list (or_cases is_all (has suffix old) there)
    where
      by_list : is_all ≡ true ⊎ has suffix old ≡ true → HasSuffix after suffix
      by_list (inl all) = or-left is_all (has suffix (old ++ more)) all
      by_list (inr listed) = or-right is_all (has suffix (old ++ more)) (list_any-append (λ other. other == suffix) old more ∙ or-left (has suffix old) (has suffix more) listed)

  pub more_differ : MoreDiffer before own hashes after
  more_differ suffix = (from_after suffix, to_after suffix)
