-- Each message about no place has an answer: partitions and places whose folders have a file, and hashes of the floors that there are.
use Rattle.std.proofs.Common.{◌≡◌, ◌≢◌, ◌⊎◌, ◌↔◌, inl, inr, ⊎_elim, ℕ, ◌<◌, ◌&&◌, Bool, true, AllPairs, Contains, List, [], ◌∷◌, filter, map, nat_eq, Less, nat_cmp, Option, Some, None, refl, sym, ap, subst, ◌∙◌, arith}
use Rattle.std.specs.Cmp.Lexicographic.{slice_cmp}
use Rattle.std.proofs.lemmas.Bool.{and_from, and_parts, cases_eq, eq-eqb, eqb-true}
use Rattle.std.proofs.lemmas.Cmp.{nat_list_cmp_total}
use Rattle.std.proofs.lemmas.List.Elements.{All-contains_itself, All-weaker}
use Rattle.std.proofs.lemmas.List.Kept.{AllPairs-cons}
use Rattle.md5.specs.Md5.{md5}
use Rattle.sw_disk.specs.Answers.{names_of}
use Rattle.sw_hashpath.specs.Place.{IsPlace, PlaceModel, folder_of, part_of}
use Rattle.sw_hashpath.specs.declared.file_name.FileName.{FileName}
use Rattle.sw_hashdir.specs.Directory.{HasFloorAt, IsDirectory, IsFloor}
use Rattle.sw_hashdir.proofs.Laws.{one_floor}
use Rattle.sw_hashdir.specs.declared.floor.Floor.{Floor}
use Rattle.sw_hashdir.specs.declared.floor.FloorKind.{FloorKind}
use Rattle.sw_hashdir.specs.declared.floor.FloorKind.TheVariants as kind
use Rattle.sw_suffix.specs.Suffix.{suffix_number, suffix_text}
use Rattle.sw_suffix.specs.Table.{AreHashes, Hashed, IsBefore as IsFloorBefore, in_suffix}
use Rattle.sw_diskfile.proofs.Lists.{Contains-cases, Contains-first, Contains-later, Contains-map, Contains-none, IsBefore, first_before, kept, keeps, mapped, rest_ascend}
use Rattle.sw_message.specs.Step.{AreFloors, Folders}
use Rattle.sw_message.specs.Survey.{AreParts, ArePlaces}
use Rattle.sw_diskfile.proofs.Decisions.{OrNot, both}
use Rattle.sw_diskfile.proofs.Spelt.{directory_of}
use Rattle.sw_diskfile.proofs.Floors.{floor_of}
use Rattle.sw_law_possible.proofs.Chosen.{chosen, negated}
use Rattle.sw_law_possible.proofs.Orders.{InOrder, ascending, ascending_numbers, number_order, text_order}
use Rattle.sw_law_possible.proofs.Places.{all_places}

-- a list has no item, or some
empty_or_not : {A : Type 0} (xs : List A) → OrNot (xs ≡ [])
empty_or_not [] = inl refl
empty_or_not (x ∷ xs) = inr (λ same. absurd (cc))

-- places of one hash are one
one_hash : (power : ℕ) (a b : PlaceModel) → IsPlace power a → IsPlace power b → a.hash ≡ b.hash → a ≡ b
one_hash power a b first second hashes =
    let parts : a.part ≡ b.part = first.part ∙ ap (λ (hash : List ℕ). part_of hash power) hashes ∙ sym second.part in
    λ i. record { part = parts i; hash = hashes i }

module _ (power : ℕ) (folders : Folders) where
  -- ---- folders that have a file

  abbrev HasAFile : List ℕ → Type 0
  HasAFile name = folders name ≢ []

  file_or_not : (name : List ℕ) → OrNot (HasAFile name)
  file_or_not name = negated (empty_or_not (folders name))

  pub parts_are : (parts : List ℕ) × AreParts power HasAFile parts
  parts_are =
      let all = all_places power in
      let those = chosen (λ (place : PlaceModel). HasAFile (folder_of place)) (λ place. file_or_not (folder_of place)) all.0 in
      let sorted = ascending_numbers (map (λ (place : PlaceModel). place.part) those.0) in (
        sorted.0,
        record {
          all = λ part. (
            λ has.
                let from = mapped (λ (place : PlaceModel). place.part) those.0 part ((sorted.1.same part).0 has) in
                let is = (those.1 from.0).0 from.1 in
                (from.0, (all.1 from.0).0 is.0, is.1, from.2),
            λ is. (sorted.1.same part).1
                (subst (Contains (map (λ (place : PlaceModel). place.part) those.0)) is.3 (Contains-map (λ (place : PlaceModel). place.part) those.0 is.0 ((those.1 is.0).1 ((all.1 is.0).1 is.1, is.2)))),
          );
          ascend = sorted.1.ascend;
        },
      )

  hash_order : (a b : PlaceModel) → IsPlace power a → IsPlace power b → InOrder (λ x y. slice_cmp nat_cmp x.hash y.hash ≡ Less) a b
  hash_order a b first second = ⊎_elim (λ same. inl (one_hash power a b first second same)) (λ differ. inr differ) (text_order a.hash b.hash)

  pub places_are : (part : ℕ) → (places : List PlaceModel) × ArePlaces power part HasAFile places
  places_are part =
      let all = all_places power in
      let P : PlaceModel → Type 0 = λ place. HasAFile (folder_of place) × (place.part ≡ part) in
      let those = chosen P (λ place. both (file_or_not (folder_of place)) (cases_eq place.part part)) all.0 in
      let sorted = ascending (λ (x y : PlaceModel). slice_cmp nat_cmp x.hash y.hash ≡ Less) (IsPlace power) hash_order (λ a b c. nat_list_cmp_total.trans a.hash b.hash c.hash) those.0
      (λ place has. (all.1 place).0 ((those.1 place).0 has).0) in (
        sorted.0,
        record {
          all = λ place. (
            λ has. let is = (those.1 place).0 ((sorted.1.same place).0 has) in ((all.1 place).0 is.0, is.1.0, is.1.1),
            λ is. (sorted.1.same place).1 ((those.1 place).1 ((all.1 place).1 is.0, (is.1, is.2))),
          );
          ascend = sorted.1.ascend;
        },
      )

  -- ---- floors

  -- the folder of a place has this floor
  abbrev HasIt : PlaceModel → Floor → Type 0
  HasIt place floor = (names : List FileName) × IsDirectory (names_of (folders (folder_of place))) names × IsFloor names (Some floor)

  has_as_well : (texts : List (List ℕ)) (names others : List FileName) → IsDirectory texts names → IsDirectory texts others → (stamp : ℕ) (k : FloorKind) → HasFloorAt names stamp k → HasFloorAt others stamp k
  has_as_well texts names others first second stamp kind.Durable has = (has.0, (second _).1 ((first _).0 has.1))
  has_as_well texts names others first second stamp kind.Tombstone has = (second _).1 ((first _).0 has)

  -- it has one at most
  one_it : (place : PlaceModel) (a b : Floor) → HasIt place a → HasIt place b → a ≡ b
  one_it place a b (names, directory, is) (others, also, other_is) =
      let texts = names_of (folders (folder_of place)) in
      one_floor names a b is (
        has_as_well texts others names also directory b.stamp b.kind other_is.0,
        λ other has above. other_is.1 other (has_as_well texts names others directory also other.stamp other.kind has) above,
      )

  abbrev AreFloorsOf : List PlaceModel → List (PlaceModel × Floor) → Type 0
  AreFloorsOf places floors = (place : PlaceModel) (floor : Floor) → Contains floors (place, floor) ↔ (Contains places place × HasIt place floor)

  abbrev HasFloors : List PlaceModel → Type 0
  HasFloors places = (floors : List (PlaceModel × Floor)) × AreFloorsOf places floors

  floors_by : (first : PlaceModel) (places : List PlaceModel) → (names : List FileName) → IsDirectory (names_of (folders (folder_of first))) names → (floor : Option Floor) → IsFloor names floor → HasFloors places → HasFloors (first ∷ places)
  floors_by first places names directory None none rest = (
    rest.0,
    λ place floor. (
      λ has. let is = (rest.1 place floor).0 has in (Contains-later first places place is.0, is.1),
      λ is. ⊎_elim
          (λ here.
          let has = subst (λ (p : PlaceModel). HasIt p floor) (sym here) is.1 in
          absurd (none floor (has_as_well (names_of (folders (folder_of first))) has.0 names has.1 directory floor.stamp floor.kind has.2.0)))
          (λ later. (rest.1 place floor).1 (later, is.1))
          (Contains-cases first places place is.0),
    ),
  )
  floors_by first places names directory (Some own) is_own rest = (
    (first, own) ∷ rest.0,
    λ place floor. (
      λ has. ⊎_elim
          (λ here.
          let at : first ≡ place = ap (λ (one : PlaceModel × Floor). one.0) here in
          let of : own ≡ floor = ap (λ (one : PlaceModel × Floor). one.1) here in
          subst (λ (p : PlaceModel). Contains (first ∷ places) p × HasIt p floor) at (Contains-first first places, subst (HasIt first) of (names, directory, is_own)))
          (λ later. let is = (rest.1 place floor).0 later in (Contains-later first places place is.0, is.1))
          (Contains-cases (first, own) rest.0 (place, floor) has),
      λ is. ⊎_elim
          (λ here.
          let has = subst (λ (p : PlaceModel). HasIt p floor) (sym here) is.1 in
          let of = one_it first own floor (names, directory, is_own) has in
          let same : (first, own) ≡ (place, floor) = λ i. (here i, of i) in
          subst (Contains ((first, own) ∷ rest.0)) same (Contains-first (first, own) rest.0))
          (λ later. Contains-later (first, own) rest.0 (place, floor) ((rest.1 place floor).1 (later, is.1)))
          (Contains-cases first places place is.0),
    ),
  )

  floors_of : (places : List PlaceModel) → HasFloors places
  floors_of [] = ([], λ place floor. ((λ has. absurd (Contains-none _ has)), (λ is. absurd (Contains-none place is.0))))
  floors_of (first ∷ places) =
      let directory = directory_of (names_of (folders (folder_of first))) in
      let floor = floor_of directory.0 in
      floors_by first places directory.0 directory.1 floor.0 floor.1 (floors_of places)

  -- ---- in the order of their suffixes

  abbrev OfPlace : PlaceModel × Floor → Type 0
  OfPlace one = IsPlace power one.0 × HasIt one.0 one.1

  floor_order : (a b : PlaceModel × Floor) → OfPlace a → OfPlace b → InOrder IsFloorBefore a b
  floor_order a b first second = ⊎_elim
      (λ parts. ⊎_elim
      (λ suffixes. ⊎_elim
      (λ hashes.
      let places = one_hash power a.0 b.0 first.0 second.0 hashes in
      let floors = one_it a.0 a.1 b.1 first.1 (subst (λ (p : PlaceModel). HasIt p b.1) (sym places) second.1) in
      inl (λ i. (places i, floors i)))
      (λ differ. inr (⊎_elim (λ less. inl (inr (parts, inr (suffixes, less)))) (λ more. inr (inr (sym parts, inr (sym suffixes, more)))) differ))
      (text_order a.0.hash b.0.hash))
      (λ differ. inr (⊎_elim (λ less. inl (inr (parts, inl less))) (λ more. inr (inr (sym parts, inl more))) differ))
      (number_order (suffix_number a.0.hash) (suffix_number b.0.hash)))
      (λ differ. inr (⊎_elim (λ less. inl (inl less)) (λ more. inr (inl more)) differ))
      (number_order a.0.part b.0.part)

-- the order is transitive
within_part : (a b c : PlaceModel × Floor) → IsFloorBefore a b → IsFloorBefore b c → a.0.part ≡ b.0.part → b.0.part ≡ c.0.part
    → (suffix_number a.0.hash < suffix_number b.0.hash) ⊎ ((suffix_number a.0.hash ≡ suffix_number b.0.hash) × IsBefore a.0.hash b.0.hash)
    → (suffix_number b.0.hash < suffix_number c.0.hash) ⊎ ((suffix_number b.0.hash ≡ suffix_number c.0.hash) × IsBefore b.0.hash c.0.hash) → IsFloorBefore a c
within_part a b c one other first second (inl less) (inl more) = inr (first ∙ second, inl (omega (arith, less, more)))
within_part a b c one other first second (inl less) (inr level) = inr (first ∙ second, inl (omega (arith, less, level.0)))
within_part a b c one other first second (inr level) (inl more) = inr (first ∙ second, inl (omega (arith, level.0, more)))
within_part a b c one other first second (inr level) (inr also) = inr (first ∙ second, inr (level.0 ∙ also.0, nat_list_cmp_total.trans a.0.hash b.0.hash c.0.hash level.1 also.1))

before_both : (a b c : PlaceModel × Floor) → IsFloorBefore a b → IsFloorBefore b c → IsFloorBefore a c
before_both a b c (inl less) (inl more) = inl (omega (arith, less, more))
before_both a b c (inl less) (inr level) = inl (omega (arith, less, level.0))
before_both a b c (inr level) (inl more) = inl (omega (arith, level.0, more))
before_both a b c (inr level) (inr also) = within_part a b c (inr level) (inr also) level.0 also.0 level.1 also.1

-- the floors of all places that have one
pub floors_are : (power : ℕ) (folders : Folders) → (floors : List (PlaceModel × Floor)) × AreFloors power folders floors
floors_are power folders =
    let all = all_places power in
    let those = floors_of power folders all.0 in
    let sorted = ascending IsFloorBefore (OfPlace power folders) (floor_order power folders) before_both those.0 (λ one has. let is = (those.1 one.0 one.1).0 has in ((all.1 one.0).0 is.0, is.1)) in (
      sorted.0,
      record {
        all = λ place floor. (
          λ has. let is = (those.1 place floor).0 ((sorted.1.same (place, floor)).0 has) in ((all.1 place).0 is.0, is.1.0, is.1.1, is.1.2),
          λ is. (sorted.1.same (place, floor)).1 ((those.1 place floor).1 ((all.1 place).1 is.0, (is.1, is.2, is.3))),
        );
        ordered = sorted.1.ascend;
      },
    )

-- ---- hashes

module _ (part : ℕ) (floors : List (PlaceModel × Floor)) where
  abbrev in_part : PlaceModel × Floor → Bool
  in_part one = nat_eq one.0.part part

  abbrev number_of : PlaceModel × Floor → ℕ
  number_of one = suffix_number one.0.hash

  abbrev hashed : ℕ → Hashed
  hashed suffix = (suffix, md5 (suffix_text (in_suffix part suffix floors)))

  -- a suffix that some floor has has floors
  some_in : (suffix : ℕ) (one : PlaceModel × Floor) → Contains floors one → in_part one ≡ true → number_of one ≡ suffix → in_suffix part suffix floors ≢ []
  some_in suffix one has at number none =
      let test : PlaceModel × Floor → Bool = λ floor. nat_eq floor.0.part part && nat_eq (suffix_number floor.0.hash) suffix in
      Contains-none one (subst (λ these. Contains these one) none (keeps test floors one has (and_from (in_part one) (nat_eq (number_of one) suffix) at (eq-eqb (number_of one) suffix number))))

  first_in : (suffix : ℕ) (those : List (PlaceModel × Floor)) → in_suffix part suffix floors ≡ those → those ≢ [] → (one : PlaceModel × Floor) × Contains floors one × (in_part one ≡ true) × (number_of one ≡ suffix)
  first_in suffix [] same some = absurd (some refl)
  first_in suffix (one ∷ those) same some =
      let test : PlaceModel × Floor → Bool = λ floor. nat_eq floor.0.part part && nat_eq (suffix_number floor.0.hash) suffix in
      let is = kept test floors one (subst (λ these. Contains these one) (sym same) (Contains-first one those)) in
      let parts = and_parts (in_part one) (nat_eq (number_of one) suffix) is.1 in
      (one, is.0, parts.0, eqb-true (number_of one) suffix parts.1)

  pub hashes_are : (hashes : List Hashed) × AreHashes part floors hashes
  hashes_are =
      let those = filter in_part floors in
      let suffixes = ascending_numbers (map number_of those) in (
        map hashed suffixes.0,
        record {
          suffixes = λ suffix. (
            λ has.
                let hash = mapped (λ (one : Hashed). one.0) (map hashed suffixes.0) suffix has in
                let from = mapped hashed suffixes.0 hash.0 hash.1 in
                let same : from.0 ≡ suffix = ap (λ (one : Hashed). one.0) from.2 ∙ hash.2 in
                let one = mapped number_of those from.0 ((suffixes.1.same from.0).0 from.1) in
                let is = kept in_part floors one.0 one.1 in
                some_in suffix one.0 is.0 is.1 (one.2 ∙ same),
            λ some.
                let one = first_in suffix (in_suffix part suffix floors) refl some in
                let there = (suffixes.1.same suffix).1 (subst (Contains (map number_of those)) one.3 (Contains-map number_of those one.0 (keeps in_part floors one.0 one.1 one.2))) in
                Contains-map (λ (hash : Hashed). hash.0) (map hashed suffixes.0) (hashed suffix) (Contains-map hashed suffixes.0 suffix there),
          );
          ascend = pairs suffixes.0 suffixes.1.ascend;
          scratch = All-weaker (Contains (map hashed suffixes.0)) (λ (hash : Hashed). hash.1 ≡ md5 (suffix_text (in_suffix part hash.0 floors)))
              (λ hash has. let from = mapped hashed suffixes.0 hash has in subst (λ (one : Hashed). one.1 ≡ md5 (suffix_text (in_suffix part one.0 floors))) from.2 refl) (map hashed suffixes.0) (All-contains_itself (map hashed suffixes.0));
        },
      )
    where
      pairs : (numbers : List ℕ) → AllPairs (λ a b. a < b) numbers → AllPairs (λ a b. a.0 < b.0) (map hashed numbers)
      pairs [] up = λ i j d less within. absurd (omega (arith, within))
      pairs (first ∷ numbers) up = AllPairs-cons (λ a b. a.0 < b.0) (hashed first) (map hashed numbers)
          (All-weaker (Contains (map hashed numbers)) (λ (hash : Hashed). first < hash.0)
          (λ hash has. let from = mapped hashed numbers hash has in subst (λ (one : Hashed). first < one.0) from.2 (first_before (λ a b. a < b) first numbers up from.0 from.1)) (map hashed numbers) (All-contains_itself (map hashed numbers)))
          (pairs numbers (rest_ascend (λ a b. a < b) first numbers up))
