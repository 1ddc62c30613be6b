-- Suffixes at which two lists differ, gathered from the suffixes of both.
use Rattle.std.proofs.Common.{◌≡◌, ◌≢◌, ◌⊎◌, inl, inr, ℕ, ◌+◌, ◌<◌, ◌≤◌, Bool, true, false, true≢false, cond, Option, List, length, get_or, take, refl, sym, subst, ◌∙◌}
use Rattle.std.specs.List.{All, list_any}
use Rattle.std.specs.List.Sorted.{IsStrictlySortedBy}
use Rattle.std.specs.Bool.{Decides}
use Rattle.std.specs.Cmp.{Equal-is, eq_by_cmp_equiv}
use Rattle.std.specs.Ordering.{eq_by_cmp, is_eq, nat_cmp}
use Rattle.std.proofs.lemmas.Cmp.{nat_cmp_total}
use Rattle.std.proofs.lemmas.List.{take_all}
use Rattle.std.proofs.lemmas.List.Elements.{All-more, All-weaker}
use Rattle.std.proofs.lemmas.Map.Keys.{below_from_sorted}
use Rattle.std.proofs.lemmas.Map.Lookups.{exact_unsigned}
use Rattle.std.proofs.lemmas.Map.Made.{is_member-Decides}
use Rattle.sw_suffix.specs.Table.{AreDiffering, Hashed, hash_at}
use Rattle.sw_suffix.proofs.Lists.{differ_somewhere}

-- the suffixes of a list at which something holds were added
pub record Adds (D : ℕ → Type 0) (entry now : ℕ → Bool) (hashes : List Hashed) : Type 0 where
  pub kept : (suffix : ℕ) → entry suffix ≡ true → now suffix ≡ true
  pub added : (suffix : ℕ) → now suffix ≡ true → (entry suffix ≡ true) ⊎ D suffix
  pub all : All (λ hash. D hash.0 → now hash.0 ≡ true) hashes

same_number : (a b : ℕ) → Decides (is_eq (nat_cmp a b)) (a ≡ b)
same_number a b = (λ is. exact_unsigned a b ((Equal-is (nat_cmp a b)).0 is), λ is. subst (λ (n : ℕ). is_eq (nat_cmp a n) ≡ true) is ((eq_by_cmp_equiv nat_cmp_total).refl a))

with_true : (b t : Bool) → t ≡ true → cond b true t ≡ true
with_true true t is = refl
with_true false t is = is

at_last : (b t : Bool) → b ≡ true → cond b true t ≡ true
at_last true t is = refl
at_last false t is = absurd (cc)

which : (b t : Bool) → cond b true t ≡ true → (b ≡ true) ⊎ (t ≡ true)
which true t is = inl refl
which false t is = inr is

module _ (D : ℕ → Type 0) (entry old : ℕ → Bool) (hashes : List Hashed) (i : ℕ) (d : Hashed) (within : i < length hashes) (before : Adds D entry old (take i hashes)) where
  -- one at which it holds
  pub adds_here : (new : ℕ → Bool) → ((suffix : ℕ) → new suffix ≡ cond (is_eq (nat_cmp (get_or hashes i d).0 suffix)) true (old suffix)) → D (get_or hashes i d).0 → Adds D entry new (take (i + 1) hashes)
  adds_here new is holds =
      let suffix = (get_or hashes i d).0 in
      let kept : (other : ℕ) → old other ≡ true → new other ≡ true = λ other has. is other ∙ with_true (is_eq (nat_cmp suffix other)) (old other) has in
      record {
        kept = λ other has. kept other (before.kept other has);
        added = λ other has. elim (which (is_eq (nat_cmp suffix other)) (old other) (sym (is other) ∙ has)) [
          | inl same ↦ inr (subst D ((same_number suffix other).0 same) holds)
          | inr there ↦ before.added other there
        ];
        all = All-more (λ hash. D hash.0 → new hash.0 ≡ true) hashes i d within
            (All-weaker (λ hash. D hash.0 → old hash.0 ≡ true) (λ hash. D hash.0 → new hash.0 ≡ true) (λ hash has differs. kept hash.0 (has differs)) (take i hashes) before.all)
            (λ differs. is suffix ∙ at_last (is_eq (nat_cmp suffix suffix)) (old suffix) ((same_number suffix suffix).1 refl));
      }

  -- one at which it does not
  pub adds_past : (new : ℕ → Bool) → ((suffix : ℕ) → new suffix ≡ old suffix) → (D (get_or hashes i d).0 → ⊥) → Adds D entry new (take (i + 1) hashes)
  adds_past new is never = record {
    kept = λ other has. is other ∙ before.kept other has;
    added = λ other has. before.added other (sym (is other) ∙ has);
    all = All-more (λ hash. D hash.0 → new hash.0 ≡ true) hashes i d within
        (All-weaker (λ hash. D hash.0 → old hash.0 ≡ true) (λ hash. D hash.0 → new hash.0 ≡ true) (λ hash has differs. is hash.0 ∙ has differs) (take i hashes) before.all)
        (λ differs. absurd (never differs));
  }

-- the whole list
pub adds_whole : (D : ℕ → Type 0) (entry now : ℕ → Bool) (hashes : List Hashed) (i : ℕ) → length hashes ≤ i → Adds D entry now (take i hashes) → Adds D entry now hashes
adds_whole D entry now hashes i past adds = subst (λ list. Adds D entry now list) (take_all i hashes past) adds

or_false : (b : Bool) → (b ≡ false → ⊥) → b ≡ true
or_false true never = refl
or_false false never = absurd (never refl)

module _ (a b : List Hashed) (first second : ℕ → Option (List ℕ)) (left : (suffix : ℕ) → first suffix ≡ hash_at suffix a) (right : (suffix : ℕ) → second suffix ≡ hash_at suffix b)
    (none one two : ℕ → Bool) (empty : (suffix : ℕ) → none suffix ≡ true → ⊥) (once : Adds (λ suffix. first suffix ≢ second suffix) none one a) (again : Adds (λ suffix. first suffix ≢ second suffix) one two b) where
  abbrev Differs : ℕ → Type 0
  Differs suffix = first suffix ≢ second suffix

  differ : (suffix : ℕ) → Differs suffix → hash_at suffix a ≢ hash_at suffix b
  differ suffix differs same = differs (left suffix ∙ same ∙ sym (right suffix))

  found : (suffix : ℕ) → two suffix ≡ true → hash_at suffix a ≢ hash_at suffix b
  found suffix has = elim (again.added suffix has) [
    | inl before ↦ elim (once.added suffix before) [ inl none ↦ absurd (empty suffix none) | inr differs ↦ differ suffix differs ]
    | inr differs ↦ differ suffix differs
  ]

  all_there : (suffix : ℕ) → hash_at suffix a ≢ hash_at suffix b → two suffix ≡ true
  all_there suffix differs =
      let apart : Differs suffix = λ same. differs (sym (left suffix) ∙ same ∙ right suffix) in
      or_false (two suffix) (λ lacks. differs (differ_somewhere (λ s. Differs s → two s ≡ true) suffix a b
      (λ has. true≢false (sym (has apart) ∙ lacks))
      (All-weaker (λ hash. Differs hash.0 → one hash.0 ≡ true) (λ hash. Differs hash.0 → two hash.0 ≡ true) (λ hash has d. again.kept hash.0 (has d)) a once.all)
      again.all))

  -- the suffixes that were gathered, ascending
  pub are_differing : (keys : List ℕ) → ((suffix : ℕ) → two suffix ≡ list_any (eq_by_cmp nat_cmp suffix) keys) → IsStrictlySortedBy nat_cmp keys → AreDiffering a b keys
  are_differing keys is sorted = record {
    all = λ suffix.
        let decides = is_member-Decides same_number keys suffix in
        (λ has. found suffix (is suffix ∙ decides.1 has), λ differs. decides.0 (sym (is suffix) ∙ all_there suffix differs));
    ascend = λ i j d lt within. below_from_sorted keys i j d sorted lt within;
  }
