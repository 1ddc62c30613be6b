-- The order of keys, and the places that they stand for.
use Rattle.std.proofs.Common.{◌≡◌, ◌<◌, ℕ, zero, suc, Bool, true, false, ◌&&◌, nat_eq, Option, Some, cond, List, [], ◌∷◌, length, replicate, refl, sym, ap, subst, ◌∙◌, arith}
use Rattle.std.specs.Bool.{Decides, one_answer}
use Rattle.std.specs.BTreeMap.{is_at}
use Rattle.std.specs.Cmp.{Equal-is, IsTotalOrder}
use Rattle.std.specs.Cmp.Lexicographic.{nat_list_eq_equiv, pointwise, same_text, slice_cmp}
use Rattle.std.specs.Map.{lookup}
use Rattle.std.specs.Ordering.{is_eq, is_gt, nat_cmp, ordering_then}
use Rattle.std.specs.declared.cmp.Ordering.{Ordering}
use Rattle.std.specs.declared.cmp.Ordering.TheVariants.{Equal, Greater, Less}
use Rattle.std.proofs.lemmas.Bool.{eq-eqb, eqb-true}
use Rattle.std.proofs.lemmas.Bool.Decides.{nat_tests}
use Rattle.std.proofs.lemmas.Cmp.{eq_by_cmp_equiv, nat_cmp_total, nat_list_cmp_total, on_total, then_total}
use Rattle.std.proofs.lemmas.List.Elements.{All-head, All-tail}
use Rattle.std.proofs.lemmas.Map.Lookups.{exact_bytes, exact_pairs, exact_unsigned}
use Rattle.sw_hashpath.specs.Place.{PlaceModel}
use Rattle.sw_hashdir.specs.declared.floor.Floor.{Floor}
use Rattle.sw_suffix.specs.Entries.{AreSound, Entries, IsKey, floors_of, key_cmp, key_of, key_place}
use Rattle.sw_suffix.specs.Suffix.{suffix_number}
use Rattle.sw_suffix.specs.Table.{floor_at, same_place}
use Rattle.sw_suffix.specs.declared.key.Key.{Key}

pub key_total : IsTotalOrder key_cmp
key_total = then_total (on_total (λ (k : Key). k.part) nat_cmp_total) (then_total (on_total (λ (k : Key). k.suffix) nat_cmp_total) (on_total (λ (k : Key). k.hash) nat_list_cmp_total))

exact_keys : (a b : Key) → key_cmp a b ≡ Equal → a ≡ b
exact_keys a b tie =
    ap (λ (p : ℕ × (ℕ × List ℕ)). record { part = p.0; suffix = p.1.0; hash = p.1.1 })
    (exact_pairs nat_cmp (λ (x y : ℕ × List ℕ). ordering_then (nat_cmp x.0 y.0) (slice_cmp nat_cmp x.1 y.1)) exact_unsigned (exact_pairs nat_cmp (slice_cmp nat_cmp) exact_unsigned exact_bytes) (a.part, (a.suffix, a.hash)) (b.part, (b.suffix, b.hash)) tie)

pub same_key : (a b : Key) → Decides (is_eq (key_cmp a b)) (a ≡ b)
same_key a b = (λ is. exact_keys a b ((Equal-is (key_cmp a b)).0 is), λ is. subst (λ (k : Key). is_eq (key_cmp a k) ≡ true) is ((eq_by_cmp_equiv key_total).refl a))

both : (a b : Bool) → a && b ≡ true → (a ≡ true) × (b ≡ true)
both true b is = (refl, is)
both false b is = absurd (cc)

and_both : (a b : Bool) → a ≡ true → b ≡ true → a && b ≡ true
and_both true b first second = second
and_both false b first second = absurd (cc)

pub same_places : (a b : PlaceModel) → Decides (same_place a b) (a ≡ b)
same_places a b = (
  λ is.
      let parts = both (nat_eq a.part b.part) (pointwise nat_eq a.hash b.hash) is in
      ap (λ (part : ℕ). record { part = part; hash = a.hash }) (eqb-true a.part b.part parts.0) ∙ ap (λ (hash : List ℕ). record { part = b.part; hash = hash }) (same_text a.hash b.hash (sym parts.1)),
  λ is. subst (λ (p : PlaceModel). same_place a p ≡ true) is (and_both (nat_eq a.part a.part) (pointwise nat_eq a.hash a.hash) (eq-eqb a.part a.part refl) (nat_list_eq_equiv.refl a.hash)),
)

-- the key of its own place
pub key_again : (key : Key) → IsKey key → key_of (key_place key) ≡ key
key_again key sound = ap (λ (suffix : ℕ). record { part = key.part; suffix = suffix; hash = key.hash }) (sym sound.suffix)

at_place : (place : PlaceModel) (key : Key) → IsKey key → same_place (key_place key) place ≡ is_eq (key_cmp (key_of place) key)
at_place place key sound = one_answer (same_place (key_place key) place) (is_eq (key_cmp (key_of place) key)) (same_places (key_place key) place) (
  λ is. ap key_place (sym ((same_key (key_of place) key).0 is)),
  λ is. (same_key (key_of place) key).1 (ap key_of (sym is) ∙ key_again key sound),
)

-- the floor of a place is what is looked up by its key
pub floor_found : (place : PlaceModel) (entries : Entries) → AreSound entries → floor_at place (floors_of entries) ≡ lookup (is_at (key_cmp (key_of place))) entries
floor_found place [] sound = refl
floor_found place (entry ∷ entries) sound =
    ap (λ (b : Bool). cond b (Some entry.1) (floor_at place (floors_of entries))) (at_place place entry.0 (All-head (λ e. IsKey e.0) entry entries sound))
    ∙ ap (λ (floor : Option Floor). cond (is_eq (key_cmp (key_of place) entry.0)) (Some entry.1) floor) (floor_found place entries (All-tail (λ e. IsKey e.0) entry entries sound))

not_after : (first second : Ordering) → is_gt first ≡ false → is_gt second ≡ false → is_gt (ordering_then first second) ≡ false
not_after Less second a b = refl
not_after Equal second a b = b
not_after Greater second a b = a

least : (n : ℕ) → is_gt (nat_cmp 0 n) ≡ false
least n = grind (arith, nat_tests)

-- no hash is before the zeros
pub zeros_first : (n : ℕ) (hash : List ℕ) → length hash ≡ n → is_gt (slice_cmp nat_cmp (replicate n 0) hash) ≡ false
zeros_first zero [] same = refl
zeros_first zero (byte ∷ hash) same = absurd (omega (arith, same))
zeros_first (suc n) [] same = absurd (omega (arith, same))
zeros_first (suc n) (byte ∷ hash) same = not_after (nat_cmp 0 byte) (slice_cmp nat_cmp (replicate n 0) hash) (least byte) (zeros_first n hash (omega (arith, same)))

-- a suffix is of twelve bits
pub suffix_small : (key : Key) → IsKey key → key.suffix < 4096
suffix_small key sound = omega (arith, sound.suffix, sound.hash.bytes 15)

not_both : (a b : Bool) → (a ≡ true → b ≡ true → ⊥) → a && b ≡ false
not_both true true never = absurd (never refl refl)
not_both true false never = refl
not_both false b never = refl

-- a key that is not in a suffix
pub in_another : (key : Key) → IsKey key → (part suffix : ℕ) → (part ≡ key.part → suffix ≡ key.suffix → ⊥) → nat_eq key.part part && nat_eq (suffix_number key.hash) suffix ≡ false
in_another key sound part suffix apart =
    not_both (nat_eq key.part part) (nat_eq (suffix_number key.hash) suffix) (λ p s. apart (sym (eqb-true key.part part p)) (sym (sound.suffix ∙ eqb-true (suffix_number key.hash) suffix s)))

-- and one that is
pub is_in : (key : Key) → IsKey key → (part suffix : ℕ) → key.part ≡ part → key.suffix ≡ suffix → nat_eq key.part part && nat_eq (suffix_number key.hash) suffix ≡ true
is_in key sound part suffix p s = and_both (nat_eq key.part part) (nat_eq (suffix_number key.hash) suffix) (eq-eqb key.part part p) (eq-eqb (suffix_number key.hash) suffix (sym sound.suffix ∙ s))
