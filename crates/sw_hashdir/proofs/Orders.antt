-- The order of names: it is total and tells all names different, and a search in it finds each name that is there.
use Rattle.std.proofs.Common.{◌≡◌, ◌≢◌, ◌↔◌, inl, inr, ℕ, ◌+◌, Bool, true, false, List, Contains, Option, Some, None, Result, Ok, Err, IsTrue, get_or, length, refl, sym, ap, ◌∙◌, subst, arith, rules}
use Rattle.std.specs.Bool.{Decides}
use Rattle.std.specs.Cmp.{IsTotalOrder, bool_cmp_total}
use Rattle.std.specs.Cmp.Lexicographic.{options_total}
use Rattle.std.specs.List.{AllPairs, dedup}
use Rattle.std.specs.List.Sorted.{IsBinarySearchResult, IsPartitionPoint, IsPermutation, IsSearchInRange, IsSortedBy}
use Rattle.std.specs.Option.{option_cmp}
use Rattle.std.specs.Ordering.{bool_cmp, eq_by_cmp, is_eq, is_lt, nat_cmp, ordering_reverse}
use Rattle.std.specs.Result.{is_ok}
use Rattle.std.specs.declared.cmp.Ordering.{Ordering}
use Rattle.std.specs.declared.cmp.Ordering.TheVariants.{Less, Equal, Greater}
use Rattle.std.proofs.lemmas.Bool.{cases_lt}
use Rattle.std.proofs.lemmas.Bool.Decides.{same_from_decides}
use Rattle.std.proofs.lemmas.Cmp.{eq_by_cmp_equiv, nat_cmp_total, on_total, then_total, tied_itself}
use Rattle.std.proofs.lemmas.List.Kept.{Contains-dedup, Contains-from_dedup, IsStrictlySortedBy-dedup}
use Rattle.std.proofs.lemmas.List.Sorted.{Contains-permutation, IsPermutation-sym, searchable_from_sorted}
use Rattle.std.proofs.lemmas.Map.Keys.{Less-from_sorted}
use Rattle.std.proofs.lemmas.Map.Lookups.{CmpEqualImpliesEq, exact_pairs, exact_unsigned}
use Rattle.sw_hashpath.specs.declared.file_name.FileName.{FileName}
use Rattle.sw_hashpath.specs.declared.file_name.FileName.TheVariants.{Data, Tombstone}
use Rattle.sw_hashdir.specs.Order.{Ascend, NameKey, entry_key_cmp, key_cmp, name_cmp, name_key}

-- ---- a total order, in which no two names tie

entry_key_total : IsTotalOrder entry_key_cmp
entry_key_total = then_total (on_total (λ (k : ℕ × Bool). k.0) nat_cmp_total) (on_total (λ (k : ℕ × Bool). k.1) bool_cmp_total)

key_total : IsTotalOrder key_cmp
key_total = then_total (on_total (λ (k : NameKey). k.0) nat_cmp_total) (on_total (λ (k : NameKey). k.1) (options_total entry_key_total))

pub name_total : IsTotalOrder name_cmp
name_total = on_total name_key key_total

exact_bool : CmpEqualImpliesEq bool_cmp
exact_bool false false tie = refl
exact_bool false true tie = absurd (cc)
exact_bool true false tie = absurd (cc)
exact_bool true true tie = refl

exact_option : CmpEqualImpliesEq (option_cmp entry_key_cmp)
exact_option None None tie = refl
exact_option None (Some q) tie = absurd (cc)
exact_option (Some p) None tie = absurd (cc)
exact_option (Some p) (Some q) tie = ap (λ k. Some k) (exact_pairs nat_cmp bool_cmp exact_unsigned exact_bool p q tie)

name_at : ℕ → Option (ℕ × Bool) → FileName
name_at stamp (Some entry) = Data stamp entry.0 entry.1
name_at stamp None = Tombstone stamp

name_back : (name : FileName) → name_at (name_key name).0 (name_key name).1 ≡ name
unfolding name_at
name_back (Data stamp index durable) = refl
name_back (Tombstone stamp) = refl

one_key : (a b : FileName) → name_key a ≡ name_key b → a ≡ b
one_key a b same = sym (name_back a) ∙ ap (λ (k : NameKey). name_at k.0 k.1) same ∙ name_back b

pub one_name : (a b : FileName) → name_cmp a b ≡ Equal → a ≡ b
one_name a b tie = one_key a b (exact_pairs nat_cmp (option_cmp entry_key_cmp) exact_unsigned exact_option (name_key a) (name_key b) tie)

-- ---- names in their order

not_less : (o p : Ordering) → o ≡ ordering_reverse p → p ≡ Less → is_lt o ≡ false
not_less o p turned less = ap is_lt (turned ∙ ap ordering_reverse less)

pub never_falls : (names : List FileName) → Ascend names → IsSortedBy (λ a b. is_lt (name_cmp a b)) names
never_falls names up k d low within = not_less _ _ (name_total.antisymm (get_or names (k + 1) d) (get_or names k d)) (up k (k + 1) d (omega arith) within)

pub different : (names : List FileName) → Ascend names → AllPairs (λ a b. a ≢ b) names
different names up i j d lt within same =
    let less = up i j d lt within in
    let tie : name_cmp (get_or names i d) (get_or names j d) ≡ Equal = subst (λ b. name_cmp (get_or names i d) b ≡ Equal) same (tied_itself name_total (get_or names i d)) in
    absurd (cc)

-- names that were sorted, and of which each then stayed once
pub record AreInOrder (names sorted : List FileName) : Type 0 where
  pub same : (name : FileName) → Contains sorted name ↔ Contains names name
  pub ascend : Ascend sorted

tied : (a b : FileName) → Decides (eq_by_cmp name_cmp a b) (a ≡ b)
tied a b = (
  λ tie. one_name a b (equal_from (name_cmp a b) tie),
  λ same. ap is_eq (subst (λ other. name_cmp a other ≡ Equal) same (tied_itself name_total a)),
)
  where
    equal_from : (o : Ordering) → is_eq o ≡ true → o ≡ Equal
    equal_from Less tie = absurd (cc)
    equal_from Equal tie = refl
    equal_from Greater tie = absurd (cc)

pub in_order : (eq : FileName → FileName → Bool) → ((a b : FileName) → Decides (eq a b) (a ≡ b)) → (names sorted kept : List FileName) → IsPermutation names sorted → IsSortedBy (λ a b. is_lt (name_cmp a b)) sorted → kept ≡ dedup eq sorted → AreInOrder names kept
in_order eq decides names sorted kept moved up is =
    let ties : eq ≡ eq_by_cmp name_cmp = λ i a b. same_from_decides (eq a b) (eq_by_cmp name_cmp a b) (decides a b) (tied a b) i in
    subst (AreInOrder names) (sym (is ∙ ap (λ test. dedup test sorted) ties)) (record {
      same = λ name. (
        λ has. Contains-permutation sorted names name (IsPermutation-sym names sorted moved) (Contains-from_dedup (eq_by_cmp name_cmp) sorted name has),
        λ has. Contains-dedup (eq_by_cmp_equiv name_total) (λ a b. (tied a b).0) sorted name (Contains-permutation names sorted name moved has),
      );
      ascend = λ i j d. Less-from_sorted name_cmp (dedup (eq_by_cmp name_cmp) sorted) i j d (IsStrictlySortedBy-dedup name_total (λ a b. refl) sorted up);
    })

-- what a binary search answers
pub found : (names : List FileName) (name : FileName) (answer : Result ℕ ℕ) → Ascend names → IsSearchInRange answer (length names) → IsBinarySearchResult (λ other. name_cmp other name) names answer → IsTrue (is_ok answer) ↔ Contains names name
found names name (Ok i) up bound at = (λ is. (i, bound, one_name (get_or names i name) name (at name)), λ there. search rules)
found names name (Err i) up bound at = (
  λ is. absurd (search rules),
  λ there. absurd (none_at there (at (searchable_from_sorted key_total name_key names (name_key name) (never_falls names up)))),
)
  where
    none_at : Contains names name → IsPartitionPoint (λ other. name_cmp other name ≡ Less) (λ other. name_cmp other name ≡ Greater) names i → ⊥
    none_at there parted =
        let tie : name_cmp (get_or names there.0 name) name ≡ Equal = subst (λ other. name_cmp other name ≡ Equal) (sym there.2) (tied_itself name_total name) in
        elim (cases_lt there.0 i) [
          | inl below ↦ let less = parted.0 there.0 name (omega arith) below in cc
          | inr above ↦ let more = parted.1 there.0 name above there.1 in cc
        ]
