-- Entries of a suffix, which stand together.
use Rattle.std.proofs.Common.{◌≡◌, ◌≢◌, ◌⊎◌, inl, inr, ◌+◌, ◌<◌, ◌≤◌, ℕ, Bool, true, false, ◌&&◌, nat_eq, not, Some, cond, List, [], ◌∷◌, length, get_or, replicate, refl, sym, ap, subst, ◌∙◌, arith}
use Rattle.std.specs.BTreeMap.{is_at}
use Rattle.std.specs.BTreeMap.Range.{entries_between, range_contains}
use Rattle.std.specs.Cmp.Lexicographic.{slice_cmp}
use Rattle.std.specs.List.{All, AllPairs, slice_get}
use Rattle.std.specs.List.Sorted.{IsStrictlySortedBy}
use Rattle.std.specs.Map.{keys_of, lookup}
use Rattle.std.specs.Option.{IfSome}
use Rattle.std.specs.Ordering.{is_eq, is_gt, is_le, nat_cmp, ordering_then}
use Rattle.std.specs.declared.cmp.Ordering.{Ordering}
use Rattle.std.specs.declared.cmp.Ordering.TheVariants.{Equal, Greater, Less}
use Rattle.std.specs.declared.ops.Bound.TheVariants.{Excluded, Included}
use Rattle.std.proofs.lemmas.Bool.Decides.{nat_tests}
use Rattle.std.proofs.lemmas.List.{get_or-map, length-map}
use Rattle.std.proofs.lemmas.List.Elements.{All-head, All-tail}
use Rattle.std.proofs.lemmas.Cmp.{eq_by_cmp_equiv}
use Rattle.std.proofs.lemmas.Map.Entries.{lookup_from_place}
use Rattle.std.proofs.lemmas.Map.Keys.{IsDistinct-from_sorted, Less-from_sorted}
use Rattle.std.proofs.lemmas.Map.Lookups.{exact_unsigned}
use Rattle.std.proofs.lemmas.Option.{slice_get-get_or}
use Rattle.sw_hashpath.specs.Place.{PlaceModel}
use Rattle.sw_hashdir.specs.declared.floor.Floor.{Floor}
use Rattle.sw_suffix.specs.Entries.{AreSound, Entries, IsKey, floors_of, key_cmp, key_place}
use Rattle.sw_suffix.specs.Suffix.{suffix_number}
use Rattle.sw_suffix.specs.Table.{IsBefore, in_suffix}
use Rattle.sw_suffix.specs.declared.key.Key.{Key}
use Rattle.sw_suffix.proofs.Keys.{in_another, is_in, key_total, same_key, zeros_first}

-- the first key that a suffix may have
abbrev pub low_key : ℕ → ℕ → Key
low_key part suffix = record { part = part; suffix = suffix; hash = replicate 16 0 }

-- a number and another, between a bound and the next one, where the rest is not before
between : (p kp s ks : ℕ) (z : Ordering) → is_gt z ≡ false
    → is_le (ordering_then (nat_cmp p kp) (ordering_then (nat_cmp s ks) z)) && not (is_le (ordering_then (nat_cmp p kp) (ordering_then (nat_cmp (s + 1) ks) z))) ≡ nat_eq kp p && nat_eq ks s
between p kp s ks Less z = grind (arith, nat_tests)
between p kp s ks Equal z = grind (arith, nat_tests)
between p kp s ks Greater z = absurd (cc)

in_range : (part suffix : ℕ) (key : Key) → IsKey key → range_contains key_cmp (Included (low_key part suffix)) (Excluded (low_key part (suffix + 1))) key ≡ nat_eq key.part part && nat_eq (suffix_number key.hash) suffix
in_range part suffix key sound =
    between part key.part suffix key.suffix (slice_cmp nat_cmp (replicate 16 0) key.hash) (zeros_first 16 key.hash sound.hash.sixteen)
    ∙ ap (λ (s : ℕ). nat_eq key.part part && nat_eq s suffix) sound.suffix

step : (entry : Key × Floor) (entries : Entries) (b : Bool) → floors_of (cond b (entry ∷ entries) entries) ≡ cond b ((key_place entry.0, entry.1) ∷ floors_of entries) (floors_of entries)
step entry entries true = refl
step entry entries false = refl

-- what stands between the first key of a suffix and that of the next one are its floors
pub range_is : (part suffix : ℕ) (entries : Entries) → AreSound entries
    → floors_of (entries_between key_cmp (Included (low_key part suffix)) (Excluded (low_key part (suffix + 1))) entries) ≡ in_suffix part suffix (floors_of entries)
range_is part suffix [] sound = refl
range_is part suffix (entry ∷ entries) sound =
    let rest = entries_between key_cmp (Included (low_key part suffix)) (Excluded (low_key part (suffix + 1))) entries in
    let here : PlaceModel × Floor = (key_place entry.0, entry.1) in
    step entry rest (range_contains key_cmp (Included (low_key part suffix)) (Excluded (low_key part (suffix + 1))) entry.0)
    ∙ ap (λ (b : Bool). cond b (here ∷ floors_of rest) (floors_of rest)) (in_range part suffix entry.0 (All-head (λ e. IsKey e.0) entry entries sound))
    ∙ ap (λ (floors : List (PlaceModel × Floor)). cond (nat_eq entry.0.part part && nat_eq (suffix_number entry.0.hash) suffix) (here ∷ floors) floors) (range_is part suffix entries (All-tail (λ e. IsKey e.0) entry entries sound))

pub first_le : (a b : ℕ) (rest : Ordering) → is_gt (ordering_then (nat_cmp a b) rest) ≡ false → a ≤ b
first_le a b rest le = grind (arith, nat_tests)

pub second_le : (a b c d : ℕ) (rest : Ordering) → is_gt (ordering_then (nat_cmp a b) (ordering_then (nat_cmp c d) rest)) ≡ false → a ≡ b → c ≤ d
second_le a b c d rest le same = grind (arith, nat_tests)

pub not_below : (a b c d : ℕ) (rest : Ordering) → a ≡ b → c ≤ d → is_gt rest ≡ false → is_gt (ordering_then (nat_cmp a b) (ordering_then (nat_cmp c d) rest)) ≡ false
not_below a b c d rest same le after = grind (arith, nat_tests)

-- a key of a later suffix is after the first key
pub from_low : (part from : ℕ) (key : Key) → IsKey key → key.part ≡ part → from ≤ key.suffix → is_gt (key_cmp (low_key part from) key) ≡ false
from_low part from key sound same le = not_below part key.part from key.suffix (slice_cmp nat_cmp (replicate 16 0) key.hash) (sym same) le (zeros_first 16 key.hash sound.hash.sixteen)

-- no entry of a suffix is there
pub none_there : (part suffix : ℕ) (entries : Entries) → AreSound entries → All (λ e. e.0.part ≡ part → e.0.suffix ≡ suffix → ⊥) entries → in_suffix part suffix (floors_of entries) ≡ []
none_there part suffix [] sound never = refl
none_there part suffix (entry ∷ entries) sound never =
    let outside = in_another entry.0 (All-head (λ e. IsKey e.0) entry entries sound) part suffix (λ p s. All-head (λ e. e.0.part ≡ part → e.0.suffix ≡ suffix → ⊥) entry entries never (sym p) (sym s)) in
    ap (λ (b : Bool). cond b ((key_place entry.0, entry.1) ∷ in_suffix part suffix (floors_of entries)) (in_suffix part suffix (floors_of entries))) outside
    ∙ none_there part suffix entries (All-tail (λ e. IsKey e.0) entry entries sound) (All-tail (λ e. e.0.part ≡ part → e.0.suffix ≡ suffix → ⊥) entry entries never)

more_than_none : (b : Bool) (floor : PlaceModel × Floor) (floors : List (PlaceModel × Floor)) → floors ≢ [] → cond b (floor ∷ floors) floors ≢ []
more_than_none true floor floors some = λ is. absurd (cc)
more_than_none false floor floors some = some

one_is_some : (b : Bool) (floor : PlaceModel × Floor) (floors : List (PlaceModel × Floor)) → b ≡ true → cond b (floor ∷ floors) floors ≢ []
one_is_some true floor floors is = λ none. absurd (cc)
one_is_some false floor floors is = absurd (cc)

-- a key that is found is one, and its suffix has a floor
pub record IsThere (key : Key) (entries : Entries) : Type 0 where
  pub sound : IsKey key
  pub some : in_suffix key.part key.suffix (floors_of entries) ≢ []

pub is_there : (key : Key) (floor : Floor) (entries : Entries) → AreSound entries → lookup (is_at (key_cmp key)) entries ≡ Some floor → IsThere key entries
is_there key floor [] sound found = absurd (cc)
is_there key floor (entry ∷ entries) sound found =
    let first = All-head (λ e. IsKey e.0) entry entries sound in
    let test : Bool = nat_eq entry.0.part key.part && nat_eq (suffix_number entry.0.hash) key.suffix in
    let rest = in_suffix key.part key.suffix (floors_of entries) in
    elim (is_eq (key_cmp key entry.0)) as (λ b. is_eq (key_cmp key entry.0) ≡ b → cond b (Some entry.1) (lookup (is_at (key_cmp key)) entries) ≡ Some floor → IsThere key (entry ∷ entries)) [
      | true ↦ λ is there.
          let same = (same_key key entry.0).0 is in
          record {
            sound = subst (λ (k : Key). IsKey k) (sym same) first;
            some = one_is_some test (key_place entry.0, entry.1) rest (is_in entry.0 first key.part key.suffix (sym (ap (λ (k : Key). k.part) same)) (sym (ap (λ (k : Key). k.suffix) same)));
          }
      | false ↦ λ is there.
          let later = is_there key floor entries (All-tail (λ e. IsKey e.0) entry entries sound) there in
          record { sound = later.sound; some = more_than_none test (key_place entry.0, entry.1) rest later.some }
    ] refl found

below : (a b : ℕ) → nat_cmp a b ≡ Less → a < b
below a b less = grind (arith, nat_tests)

less_then : (first second : Ordering) → ordering_then first second ≡ Less → (first ≡ Less) ⊎ ((first ≡ Equal) × (second ≡ Less))
less_then Less second less = inl refl
less_then Equal second less = inr (refl, less)
less_then Greater second less = absurd (cc)

-- the order of keys is that of their places
before : (a b : Key) (f g : Floor) → IsKey a → IsKey b → key_cmp a b ≡ Less → IsBefore (key_place a, f) (key_place b, g)
before a b f g first second less =
    let z = slice_cmp nat_cmp a.hash b.hash in
    let numbers : ordering_then (nat_cmp a.part b.part) (ordering_then (nat_cmp (suffix_number a.hash) (suffix_number b.hash)) z) ≡ Less
    = ap (λ (s : ℕ). ordering_then (nat_cmp a.part b.part) (ordering_then (nat_cmp s (suffix_number b.hash)) z)) (sym first.suffix)
    ∙ ap (λ (s : ℕ). ordering_then (nat_cmp a.part b.part) (ordering_then (nat_cmp a.suffix s) z)) (sym second.suffix) ∙ less in
    elim (less_then (nat_cmp a.part b.part) (ordering_then (nat_cmp (suffix_number a.hash) (suffix_number b.hash)) z) numbers) [
      | inl part ↦ inl (below a.part b.part part)
      | inr same ↦ inr (
        exact_unsigned a.part b.part same.0,
        elim (less_then (nat_cmp (suffix_number a.hash) (suffix_number b.hash)) z same.1) [
          | inl suffix ↦ inl (below (suffix_number a.hash) (suffix_number b.hash) suffix)
          | inr tied ↦ inr (exact_unsigned (suffix_number a.hash) (suffix_number b.hash) tied.0, tied.1)
        ],
      )
    ]

pub in_order : (entries : Entries) → AreSound entries → IsStrictlySortedBy key_cmp (keys_of entries) → AllPairs IsBefore (floors_of entries)
in_order [] sound sorted i j d lt within = absurd (omega arith)
in_order (entry ∷ entries) sound sorted i j d lt within =
    let all = entry ∷ entries in
    let short : j < length all = subst (λ (n : ℕ). j < n) (length-map all (λ (e : Key × Floor). (key_place e.0, e.1))) within in
    let at = λ (k : ℕ) (h : k < length all). get_or-map (λ (e : Key × Floor). (key_place e.0, e.1)) all k entry d h in
    let key_at = λ (k : ℕ) (h : k < length all). get_or-map (λ (e : Key × Floor). e.0) all k entry entry.0 h in
    let first : i < length all = omega arith in
    let less = Less-from_sorted key_cmp (keys_of all) i j entry.0 sorted lt (subst (λ (n : ℕ). j < n) (sym (length-map all (λ (e : Key × Floor). e.0))) short) in
    let here : key_cmp (get_or all i entry).0 (get_or all j entry).0 ≡ Less = ap (λ (k : Key). key_cmp k (get_or all j entry).0) (sym (key_at i first)) ∙ ap (λ (k : Key). key_cmp (get_or (keys_of all) i entry.0) k) (sym (key_at j short)) ∙ less in
    subst (λ (f : PlaceModel × Floor). IsBefore f (get_or (floors_of all) j d)) (sym (at i first))
    (subst (λ (f : PlaceModel × Floor). IsBefore (key_place (get_or all i entry).0, (get_or all i entry).1) f) (sym (at j short))
    (before (get_or all i entry).0 (get_or all j entry).0 (get_or all i entry).1 (get_or all j entry).1 (sound i entry first) (sound j entry short) here))

-- an entry is found by its key
found : (entries : Entries) → IsStrictlySortedBy key_cmp (keys_of entries) → (k : ℕ) (d : Key × Floor) → k < length entries → lookup (is_at (key_cmp (get_or entries k d).0)) entries ≡ Some (get_or entries k d).1
found entries sorted k d within =
    lookup_from_place (eq_by_cmp_equiv key_total) entries k (get_or entries k d).0 (get_or entries k d).1 (IsDistinct-from_sorted key_cmp (keys_of entries) sorted) (slice_get-get_or entries k d within)

-- a suffix has no floor where no key from the first one on is in it
pub clear : (part from suffix : ℕ) (entries : Entries) → AreSound entries → IsStrictlySortedBy key_cmp (keys_of entries) → from ≤ suffix
    → ((q : Key) (floor : Floor) → is_gt (key_cmp (low_key part from) q) ≡ false → lookup (is_at (key_cmp q)) entries ≡ Some floor → q.part ≡ part → q.suffix ≡ suffix → ⊥) → in_suffix part suffix (floors_of entries) ≡ []
clear part from suffix entries sound sorted le never =
    none_there part suffix entries sound (λ k d within p s.
    never (get_or entries k d).0 (get_or entries k d).1 (from_low part from (get_or entries k d).0 (sound k d within) p (subst (λ (n : ℕ). from ≤ n) (sym s) le)) (found entries sorted k d within) p s)

pub first_of : (P : Key × Floor → Type 0) (range rest : Entries) (entry : Key × Floor) → range ≡ entry ∷ rest → IfSome (slice_get range 0) P → P entry
first_of P range rest entry is holds = subst (λ (es : Entries). IfSome (slice_get es 0) P) is holds

-- the first entry from the first key of a suffix on
pub record IsFirst (part start : ℕ) (entries : Entries) (key : Key) (floor : Floor) : Type 0 where
  pub after : is_gt (key_cmp (low_key part start) key) ≡ false
  pub there : lookup (is_at (key_cmp key)) entries ≡ Some floor
  pub least : (q : Key) (other : Floor) → is_gt (key_cmp (low_key part start) q) ≡ false → lookup (is_at (key_cmp q)) entries ≡ Some other → is_gt (key_cmp key q) ≡ false

module _ (part start : ℕ) (entries : Entries) (key : Key) (floor : Floor) (sound : AreSound entries) (sorted : IsStrictlySortedBy key_cmp (keys_of entries)) (first : IsFirst part start entries key floor) where
  pub first_sound : IsKey key
  first_sound = (is_there key floor entries sound first.there).sound

  pub first_some : key.part ≡ part → in_suffix part key.suffix (floors_of entries) ≢ []
  first_some same = subst (λ (p : ℕ). in_suffix p key.suffix (floors_of entries) ≢ []) same (is_there key floor entries sound first.there).some

  pub first_from : key.part ≡ part → start ≤ key.suffix
  first_from same = second_le part key.part start key.suffix (slice_cmp nat_cmp (replicate 16 0) key.hash) first.after (sym same)

  -- none before it in its partition
  pub first_least : key.part ≡ part → (suffix : ℕ) → start ≤ suffix → suffix < key.suffix → in_suffix part suffix (floors_of entries) ≡ []
  first_least same suffix le less = clear part start suffix entries sound sorted le (λ q other from there p s.
      let up : key.suffix ≤ q.suffix = second_le key.part q.part key.suffix q.suffix (slice_cmp nat_cmp key.hash q.hash) (first.least q other from there) (same ∙ sym p) in
      absurd (omega (arith, up, s, less)))

  -- none in the partition where it is in another
  pub first_past : (key.part ≡ part → ⊥) → (suffix : ℕ) → start ≤ suffix → in_suffix part suffix (floors_of entries) ≡ []
  first_past other_part suffix le = clear part start suffix entries sound sorted le (λ q other from there p s.
      let low : part ≤ key.part = first_le part key.part (ordering_then (nat_cmp start key.suffix) (slice_cmp nat_cmp (replicate 16 0) key.hash)) first.after in
      let up : key.part ≤ q.part = first_le key.part q.part (ordering_then (nat_cmp key.suffix q.suffix) (slice_cmp nat_cmp key.hash q.hash)) (first.least q other from there) in
      let same : key.part ≡ part = omega (arith, low, up, p) in
      other_part same)
