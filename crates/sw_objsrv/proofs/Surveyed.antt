-- Partitions and places in order, each once.
use Rattle.std.proofs.Common.{◌≡◌, ℕ, Bool, true, cond, eqb, List, [], ◌∷◌, Contains, filter, get_or, map, refl, sym, ap, subst, ◌∙◌}
use Rattle.std.specs.Cmp.Lexicographic.{bytes_decides, on_texts, on_texts_equal, pointwise, slice_cmp, texts_ties}
use Rattle.std.specs.List.{All, dedup, dedup_from}
use Rattle.std.specs.List.Sorted.{IsPermutation, IsSorted}
use Rattle.std.specs.Ordering.{nat_cmp}
use Rattle.std.specs.Prelude.{◌&&◌, nat_eq}
use Rattle.std.specs.declared.cmp.Ordering.{Ordering}
use Rattle.std.proofs.lemmas.Bool.{eq-eqb, eqb-true}
use Rattle.std.proofs.lemmas.List.Elements.{All-head, All-tail, Contains-get_or}
use Rattle.std.proofs.lemmas.List.Kept.{AllPairs-from_increasing, Any-dedup, Contains-dedup_nat, Contains-from_dedup, IsStrictlySortedBy-dedup}
use Rattle.std.proofs.lemmas.List.Sorted.{Contains-permutation, IsPermutation-sym}
use Rattle.std.proofs.lemmas.Map.Keys.{IsStrictlyIncreasing-dedup, Less-from_sorted}
use Rattle.sw_hashpath.specs.Place.{IsPlace, PlaceModel, folder_of, part_of}
use Rattle.sw_suffix.specs.Table.{same_place}
use Rattle.sw_diskfile.proofs.Lists.{Contains-map, keeps, kept, mapped}
use Rattle.sw_message.specs.Survey.{AreParts, ArePlaces}
use Rattle.sw_objsrv.proofs.ReadTexts.{AreRead}

abbrev pub part_in : PlaceModel → ℕ
part_in place = place.part

abbrev pub is_in : ℕ → PlaceModel → Bool
is_in part place = eqb place.part part

abbrev pub hash_in : PlaceModel → List ℕ
hash_in place = place.hash

abbrev pub hash_cmp : PlaceModel → PlaceModel → Ordering
hash_cmp a b = slice_cmp nat_cmp (hash_in a) (hash_in b)

abbrev pub same_hash : PlaceModel → PlaceModel → Bool
same_hash a b = pointwise nat_eq (hash_in a) (hash_in b)

-- a hash is in one partition
one_place : (power : ℕ) (a b : PlaceModel) → IsPlace power a → IsPlace power b → same_hash a b ≡ true → b ≡ a
one_place power a b first second same =
    let hash : b.hash ≡ a.hash = sym ((bytes_decides a.hash b.hash).0 same) in
    let part : b.part ≡ a.part = second.part ∙ ap (λ h. part_of h power) hash ∙ sym first.part in
    λ i. record { part = part i; hash = hash i }

module _ (power : ℕ) (folders : List (List ℕ)) (places : List PlaceModel) (read : AreRead (IsPlace power) folder_of folders places) where
  -- their partitions
  pub parts_are : (sorted : List ℕ) → IsPermutation (map part_in places) sorted → IsSorted nat_cmp sorted → AreParts power (Contains folders) (dedup eqb sorted)
  parts_are sorted moved up = record {
    all = λ part. (
      λ has.
          let from = mapped part_in places part (Contains-permutation sorted (map part_in places) part (IsPermutation-sym (map part_in places) sorted moved) (Contains-from_dedup eqb sorted part has)) in
          let both = (read.all from.0).0 from.1 in
          (from.0, both.0, both.1, from.2),
      λ of. subst (Contains (dedup eqb sorted)) of.3
          (Contains-dedup_nat sorted (part_in of.0) (Contains-permutation (map part_in places) sorted (part_in of.0) moved (Contains-map part_in places of.0 ((read.all of.0).1 (of.1, of.2))))),
    );
    ascend = AllPairs-from_increasing (dedup eqb sorted) (IsStrictlyIncreasing-dedup sorted up);
  }

  -- those in one partition
  module _ (part : ℕ) (sorted : List PlaceModel) (moved : IsPermutation (filter (is_in part) places) sorted) where
    from_sorted : (place : PlaceModel) → Contains sorted place → IsPlace power place × Contains folders (folder_of place) × (place.part ≡ part)
    from_sorted place has =
        let both = kept (is_in part) places place (Contains-permutation sorted (filter (is_in part) places) place (IsPermutation-sym (filter (is_in part) places) sorted moved) has) in
        let of = (read.all place).0 both.0 in
        (of.0, of.1, eqb-true place.part part both.1)

    once : (place : PlaceModel) → IsPlace power place → Contains sorted place → Contains (dedup same_hash sorted) place
    once place is has =
        let found = Any-dedup (on_texts_equal hash_in) sorted place has in
        let other = found.1 in
        let there : Contains (dedup same_hash sorted) other = (found.0, found.2, found.3) in
        let sound = from_sorted other (Contains-from_dedup same_hash sorted other there) in
        subst (Contains (dedup same_hash sorted)) (one_place power place other is sound.0 found.4) there

    -- so places with one hash are the same
    from_one : (first : PlaceModel) (places : List PlaceModel) → part_in first ≡ part → All (λ place. part_in place ≡ part) places → dedup_from same_place first places ≡ dedup_from same_hash first places
    from_one first [] here all = refl
    from_one first (place ∷ places) here all =
        let there = All-head (λ other. part_in other ≡ part) place places all in
        let later = All-tail (λ other. part_in other ≡ part) place places all in
        let same : same_place place first ≡ same_hash place first = ap (λ both. both && same_hash place first) (eq-eqb (part_in place) (part_in first) (there ∙ sym here)) in
        λ i. cond (same i) (from_one first places here later i) (first ∷ from_one place places there later i)

    pub one_hash : (places : List PlaceModel) → All (λ place. part_in place ≡ part) places → dedup same_place places ≡ dedup same_hash places
    one_hash [] all = refl
    one_hash (place ∷ places) all = from_one place places (All-head (λ other. part_in other ≡ part) place places all) (All-tail (λ other. part_in other ≡ part) place places all)

    hashes_are : IsSorted hash_cmp sorted → ArePlaces power part (Contains folders) (dedup same_hash sorted)
    hashes_are up = record {
      all = λ place. (
        λ has. from_sorted place (Contains-from_dedup same_hash sorted place has),
        λ of. once place of.0 (Contains-permutation (filter (is_in part) places) sorted place moved (keeps (is_in part) places place ((read.all place).1 (of.0, of.1)) (eq-eqb place.part part of.2))),
      );
      ascend = λ i j d lt within. Less-from_sorted hash_cmp (dedup same_hash sorted) i j d (IsStrictlySortedBy-dedup (on_texts hash_in) (λ a b. texts_ties (hash_in a) (hash_in b)) sorted up) lt within;
    }

    pub places_are : IsSorted hash_cmp sorted → ArePlaces power part (Contains folders) (dedup same_place sorted)
    places_are up = subst (ArePlaces power part (Contains folders)) (sym (one_hash sorted (λ k d within. (from_sorted (get_or sorted k d) (Contains-get_or sorted k d within)).2))) (hashes_are up)
