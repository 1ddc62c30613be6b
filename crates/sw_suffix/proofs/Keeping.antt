-- Hashes that are kept, once one more is or one was forgotten.
use Rattle.std.proofs.Common.{◌≡◌, ℕ, Bool, true, false, cond, Option, Some, None, List, arith, refl, sym, ap, subst, ◌∙◌}
use Rattle.std.specs.BTreeMap.{is_at}
use Rattle.std.specs.Cmp.{Equal-is}
use Rattle.std.specs.Map.{lookup}
use Rattle.std.specs.Option.{IfSome}
use Rattle.std.specs.Ordering.{is_eq, nat_cmp}
use Rattle.std.proofs.lemmas.Bool.Decides.{nat_tests}
use Rattle.std.proofs.lemmas.Map.Lookups.{exact_pairs, exact_unsigned}
use Rattle.md5.specs.Md5.{md5}
use Rattle.sw_hashpath.specs.Place.{PlaceModel}
use Rattle.sw_hashdir.specs.declared.floor.Floor.{Floor}
use Rattle.sw_suffix.specs.Entries.{AreKept, suffix_cmp}
use Rattle.sw_suffix.specs.Suffix.{suffix_text}
use Rattle.sw_suffix.specs.Table.{in_suffix}

abbrev pub Kept : Type 0
Kept = List ((ℕ × ℕ) × List ℕ)

abbrev pub Floors : Type 0
Floors = List (PlaceModel × Floor)

same_suffix : (a b : ℕ × ℕ) → is_eq (suffix_cmp a b) ≡ true → a ≡ b
same_suffix a b is = exact_pairs nat_cmp nat_cmp exact_unsigned exact_unsigned a b ((Equal-is (suffix_cmp a b)).0 is)

-- a hash from scratch was kept
pub kept_more : (floors : Floors) (old new : Kept) (part suffix : ℕ) (hash : List ℕ) → AreKept floors old → hash ≡ md5 (suffix_text (in_suffix part suffix floors))
    → ((q : ℕ × ℕ) → lookup (is_at (suffix_cmp q)) new ≡ cond (is_at (suffix_cmp (part, suffix)) q) (Some hash) (lookup (is_at (suffix_cmp q)) old)) → AreKept floors new
kept_more floors old new part suffix hash kept scratch is = record {
  scratch = λ p s.
      let Right = λ (h : List ℕ). h ≡ md5 (suffix_text (in_suffix p s floors)) in
      let same = same_suffix (part, suffix) (p, s) in
      subst (λ (o : Option (List ℕ)). IfSome o Right) (sym (is (p, s)))
      (either (is_eq (suffix_cmp (part, suffix) (p, s))) (Some hash) (lookup (is_at (suffix_cmp (p, s))) old) Right
      (λ here. scratch ∙ ap (λ (q : ℕ × ℕ). md5 (suffix_text (in_suffix q.0 q.1 floors))) (same here)) (kept.scratch p s));
}
  where
    either : (b : Bool) (x y : Option (List ℕ)) (P : List ℕ → Type 0) → (b ≡ true → IfSome x P) → IfSome y P → IfSome (cond b x y) P
    either true x y P first second = first refl
    either false x y P first second = second

-- the hash of the one suffix whose floors changed was forgotten
pub kept_less : (before after : Floors) (old new : Kept) (part suffix : ℕ) → AreKept before old
    → ((p s : ℕ) → (p ≡ part → s ≡ suffix → ⊥) → in_suffix p s after ≡ in_suffix p s before)
    → ((q : ℕ × ℕ) → lookup (is_at (suffix_cmp q)) new ≡ cond (is_at (suffix_cmp (part, suffix)) q) None (lookup (is_at (suffix_cmp q)) old)) → AreKept after new
kept_less before after old new part suffix kept others is = record {
  scratch = λ p s.
      let Right = λ (h : List ℕ). h ≡ md5 (suffix_text (in_suffix p s after)) in
      subst (λ (o : Option (List ℕ)). IfSome o Right) (sym (is (p, s)))
      (left (is_eq (suffix_cmp (part, suffix) (p, s))) (lookup (is_at (suffix_cmp (p, s))) old) Right
      (λ other. subst (λ (floors : Floors). IfSome (lookup (is_at (suffix_cmp (p, s))) old) (λ h. h ≡ md5 (suffix_text floors))) (sym (others p s (λ a b. apart p s other a b))) (kept.scratch p s)));
}
  where
    left : (b : Bool) (y : Option (List ℕ)) (P : List ℕ → Type 0) → (b ≡ false → IfSome y P) → IfSome (cond b None y) P
    left true y P rest = tt
    left false y P rest = rest refl

    apart : (p s : ℕ) → is_eq (suffix_cmp (part, suffix) (p, s)) ≡ false → p ≡ part → s ≡ suffix → ⊥
    apart p s differs a b = grind (arith, nat_tests)
