-- A listing or a refusal that covers an entry shows it durable, or a floor above it.
use Rattle.std.proofs.Common.{◌≡◌, ◌⊎◌, inl, inr, ℕ, zero, suc, ◌==◌, ◌≤◌, ◌&&◌, ◌||◌, Bool, true, false, List, [], ◌∷◌, Contains, refl, sym, ap, subst, ◌∙◌, arith}
use Rattle.std.specs.Prelude.{nat_le, nat_lt}
use Rattle.std.specs.List.{list_any}
use Rattle.std.proofs.lemmas.Bool.{and_parts, cases_Bool, cases_lt, eq-eqb, eqb-true, le-leb, leb-true, lt-ltb, ltb-true, or_cases}
use Rattle.sw_hashpath.specs.Place.{PlaceModel}
use Rattle.sw_hashdir.specs.Directory.{StandsAbove}
use Rattle.sw_hashdir.specs.Listing.{ListingModel}
use Rattle.sw_hashdir.specs.declared.entry.Entry.{Entry}
use Rattle.sw_hashdir.specs.declared.floor.Floor.{Floor}
use Rattle.sw_hashdir.specs.declared.floor.FloorKind.{FloorKind}
use Rattle.sw_hashdir.specs.declared.floor.FloorKind.TheVariants as kind
use Rattle.sw_ring.proofs.Among.{Contains-cons}
use Rattle.sw_message.specs.Floors.{is_tombstone, stands_above}
use Rattle.sw_message.specs.Warrant.{ListsFloor, ShowsAbove, ShowsDurable}
use Rattle.sw_message.specs.declared.message.Msg.TheVariants as message
use Rattle.sw_message.specs.declared.reply.Reply.TheVariants as reply
use Rattle.sw_recon.specs.Revert.{covers, is_durable_one, is_newer}

some-listed : {A : Type 0} (test : A → Bool) (xs : List A) → list_any test xs ≡ true → (x : A) × Contains xs x × (test x ≡ true)
some-listed test [] is = absurd (cc)
some-listed test (x ∷ xs) is = elim (cases_Bool (test x)) [
  | inl passes ↦ (x, (0, omega arith, refl), passes)
  | inr fails ↦
      let later = some-listed test xs (sym (ap (λ b. b || list_any test xs) fails) ∙ is) in
      (later.0, Contains-cons later.0 x xs later.1, later.2)
]

pub above_shown : (floor : Floor) (stamp : ℕ) → stands_above floor stamp ≡ true → StandsAbove floor stamp
above_shown floor stamp is = elim (or_cases (nat_lt stamp floor.stamp) (floor.stamp == stamp && is_tombstone floor.kind) is) [
  | inl less ↦ inl (ltb-true stamp floor.stamp less)
  | inr same ↦ let both = and_parts (floor.stamp == stamp) (is_tombstone floor.kind) same in inr (eqb-true floor.stamp stamp both.0, tombstone_is floor.kind both.1)
]
  where
    tombstone_is : (of : FloorKind) → is_tombstone of ≡ true → of ≡ kind.Tombstone
    tombstone_is kind.Durable is = absurd (cc)
    tombstone_is kind.Tombstone is = refl

any-passes : {A : Type 0} (test : A → Bool) (xs : List A) (x : A) → Contains xs x → test x ≡ true → list_any test xs ≡ true
any-passes test [] x has is = absurd (omega (arith, has.1))
any-passes test (first ∷ xs) x (zero, within, same) is = ap (λ b. b || list_any test xs) (ap test same ∙ is)
any-passes test (first ∷ xs) x (suc i, within, same) is = by_test (test first) (any-passes test xs x (i, omega (arith, within), same) is)
  where
    by_test : (b : Bool) → list_any test xs ≡ true → (b || list_any test xs) ≡ true
    by_test true later = refl
    by_test false later = later

either_true : (a b : Bool) → b ≡ true → (a || b) ≡ true
either_true true b is = refl
either_true false b is = is

-- what a listing shows, it covers
module _ (listing : ListingModel) (entry : Entry) where
  abbrev of_entry : Entry → Bool
  of_entry other = is_durable_one entry other || is_newer entry other

  listed_covers : (other : Entry) → Contains listing.entries other → of_entry other ≡ true → covers listing entry ≡ true
  listed_covers other has is = ap (λ b. b || list_any (λ stamp. nat_le entry.stamp stamp) listing.tombstones) (any-passes of_entry listing.entries other has is)

  durable_covers : (shown : ListingModel) → listing ≡ shown → Contains shown.entries (record { stamp = entry.stamp; index = entry.index; durable = true }) → covers listing entry ≡ true
  durable_covers shown same has =
      let one : Entry = record { stamp = entry.stamp; index = entry.index; durable = true } in
      let first = eq-eqb entry.stamp entry.stamp refl in
      let second = eq-eqb entry.index entry.index refl in
      listed_covers one (subst (λ (these : ListingModel). Contains these.entries one) (sym same) has) (rw (first, second) refl)

  floor_covers : (shown : ListingModel) → listing ≡ shown → (floor : Floor) → ListsFloor shown entry.stamp floor → covers listing entry ≡ true
  floor_covers shown same floor (inl less, inl (durable, index, has)) =
      let one : Entry = record { stamp = floor.stamp; index = index; durable = true } in
      listed_covers one (subst (λ (these : ListingModel). Contains these.entries one) (sym same) has) (either_true (is_durable_one entry one) (is_newer entry one) (lt-ltb entry.stamp floor.stamp less))
  floor_covers shown same floor (inr level, inl (durable, index, has)) = absurd (cc (level.1, durable))
  floor_covers shown same floor (above, inr (buried, has)) =
      either_true (list_any of_entry listing.entries) (list_any (λ stamp. nat_le entry.stamp stamp) listing.tombstones)
      (any-passes (λ stamp. nat_le entry.stamp stamp) listing.tombstones floor.stamp (subst (λ (these : ListingModel). Contains these.tombstones floor.stamp) (sym same) has) (le-leb entry.stamp floor.stamp (at_least above)))
    where
      at_least : StandsAbove floor entry.stamp → entry.stamp ≤ floor.stamp
      at_least (inl less) = omega (arith, less)
      at_least (inr level) = omega (arith, level.0)

  pub shown_covers : (place : PlaceModel) → ShowsDurable entry.stamp entry.index (message.Ask place) (reply.Held listing) ⊎ ShowsAbove entry.stamp (reply.Held listing) → covers listing entry ≡ true
  shown_covers place (inl (shown, same, has)) = durable_covers shown same has
  shown_covers place (inr (shown, same, floor, is)) = floor_covers shown same floor is

module _ (listing : ListingModel) (entry : Entry) where
  -- it is listed as durable
  same_shown : (other : Entry) → Contains listing.entries other → is_durable_one entry other ≡ true → Contains listing.entries (record { stamp = entry.stamp; index = entry.index; durable = true })
  same_shown other there is =
      let durable = and_parts other.durable (other.stamp == entry.stamp && other.index == entry.index) is in
      let numbers = and_parts (other.stamp == entry.stamp) (other.index == entry.index) durable.1 in
      let same : other ≡ record { stamp = entry.stamp; index = entry.index; durable = true } =
      ap (λ b. record { stamp = other.stamp; index = other.index; durable = b }) durable.0
      ∙ ap (λ n. record { stamp = n; index = other.index; durable = true }) (eqb-true other.stamp entry.stamp numbers.0)
      ∙ ap (λ n. record { stamp = entry.stamp; index = n; durable = true }) (eqb-true other.index entry.index numbers.1) in
      subst (Contains listing.entries) same there

  -- or a durable one above it
  newer_shown : (other : Entry) → Contains listing.entries other → is_newer entry other ≡ true → (floor : Floor) × ListsFloor listing entry.stamp floor
  newer_shown other there is =
      let both = and_parts other.durable (nat_lt entry.stamp other.stamp) is in
      let same : other ≡ record { stamp = other.stamp; index = other.index; durable = true } = ap (λ b. record { stamp = other.stamp; index = other.index; durable = b }) both.0 in
      (record { stamp = other.stamp; kind = kind.Durable }, (inl (ltb-true entry.stamp other.stamp both.1), inl (refl, other.index, subst (Contains listing.entries) same there)))

  -- or a tombstone
  buried_shown : (stamp : ℕ) → Contains listing.tombstones stamp → nat_le entry.stamp stamp ≡ true → (floor : Floor) × ListsFloor listing entry.stamp floor
  buried_shown stamp there is = (record { stamp = stamp; kind = kind.Tombstone }, (above, inr (refl, there)))
    where
      above : StandsAbove (record { stamp = stamp; kind = kind.Tombstone }) entry.stamp
      above = elim (cases_lt entry.stamp stamp) [
        | inl less ↦ inl less
        | inr no_less ↦ inr (omega (arith, no_less, leb-true entry.stamp stamp is), refl)
      ]

  pub covers_shown : (place : PlaceModel) → covers listing entry ≡ true → ShowsDurable entry.stamp entry.index (message.Ask place) (reply.Held listing) ⊎ ShowsAbove entry.stamp (reply.Held listing)
  covers_shown place is =
      elim (or_cases (list_any (λ other. is_durable_one entry other || is_newer entry other) listing.entries) (list_any (λ stamp. nat_le entry.stamp stamp) listing.tombstones) is) [
        | inl listed ↦
            let one = some-listed (λ other. is_durable_one entry other || is_newer entry other) listing.entries listed in
            elim (or_cases (is_durable_one entry one.0) (is_newer entry one.0) one.2) [
              | inl same ↦ inl (listing, refl, same_shown one.0 one.1 same)
              | inr newer ↦ let shown = newer_shown one.0 one.1 newer in inr (listing, refl, shown.0, shown.1)
            ]
        | inr buried ↦
            let one = some-listed (λ stamp. nat_le entry.stamp stamp) listing.tombstones buried in
            let shown = buried_shown one.0 one.1 one.2 in
            inr (listing, refl, shown.0, shown.1)
      ]
