-- The floors and the entries that a listing shows are those of its directory.
use Rattle.std.proofs.Common.{◌≡◌, inl, inr, ℕ, ◌==◌, Bool, true, false, ◌&&◌, Contains, List, map, refl, sym, ap, subst, ◌∙◌}
use Rattle.std.specs.List.{filter, list_any}
use Rattle.std.proofs.lemmas.Bool.{and_parts, cases_Bool, eq-eqb, eqb-true, true≢false}
use Rattle.std.proofs.lemmas.List.Elements.{Contains-append_cases, Contains-append_left, Contains-append_right}
use Rattle.sw_hashpath.specs.declared.file_name.FileName.{FileName}
use Rattle.sw_hashpath.specs.declared.file_name.FileName.TheVariants.{Data}
use Rattle.sw_hashdir.specs.Directory.{HasEntryAt, HasFloor, HasFloorAt}
use Rattle.sw_hashdir.specs.Listing.{IsListingOf, ListingModel}
use Rattle.sw_hashdir.specs.declared.entry.Entry.{Entry}
use Rattle.sw_hashdir.specs.declared.floor.Floor.{Floor}
use Rattle.sw_hashdir.specs.declared.floor.FloorKind.{FloorKind}
use Rattle.sw_hashdir.specs.declared.floor.FloorKind.TheVariants.{Durable, Tombstone}
use Rattle.sw_diskfile.proofs.Lists.{Contains-map, keeps, kept, mapped}
use Rattle.sw_gather.proofs.Lists.{any_passes, some_passes}
use Rattle.sw_message.specs.Floors.{durable_floor, floors_in, is_durable, tombstone_floor}

module _ (names : List FileName) (listing : ListingModel) (is : IsListingOf names listing) where
  -- ---- floors

  -- a floor that is shown is there
  pub floor_there : (floor : Floor) → Contains (floors_in listing) floor → HasFloor names floor
  floor_there floor has = elim (Contains-append_cases (map durable_floor (filter is_durable listing.entries)) (map tombstone_floor listing.tombstones) floor has) [
    | inl durable ↦
        let from = mapped durable_floor (filter is_durable listing.entries) floor durable in
        let entry = from.0 in
        let both = kept is_durable listing.entries entry from.1 in
        subst (HasFloor names) from.2 (entry.index, subst (HasEntryAt names entry.stamp entry.index) both.1 ((is.entries entry).0 both.0))
    | inr buried ↦ let from = mapped tombstone_floor listing.tombstones floor buried in subst (HasFloor names) from.2 ((is.tombstones from.0).0 from.1)
  ]

  -- by its kind
  listed_by : (stamp : ℕ) (kind : FloorKind) → HasFloorAt names stamp kind → Contains (floors_in listing) (record { stamp = stamp; kind = kind })
  listed_by stamp Durable has =
      let entry : Entry = record { stamp = stamp; index = has.0; durable = true } in
      Contains-append_left (map durable_floor (filter is_durable listing.entries)) (map tombstone_floor listing.tombstones) _
      (Contains-map durable_floor (filter is_durable listing.entries) entry (keeps is_durable listing.entries entry ((is.entries entry).1 has.1) refl))
  listed_by stamp Tombstone has =
      Contains-append_right (map durable_floor (filter is_durable listing.entries)) (map tombstone_floor listing.tombstones) _ (Contains-map tombstone_floor listing.tombstones stamp ((is.tombstones stamp).1 has))

  -- and one that is there is shown
  pub floor_listed : (floor : Floor) → HasFloor names floor → Contains (floors_in listing) floor
  floor_listed floor has = listed_by floor.stamp floor.kind has

  -- ---- entries

  -- an entry is durable and has the stamp and the index
  abbrev is_one : (stamp index : ℕ) → Entry → Bool
  is_one stamp index entry = entry.stamp == stamp && (entry.index == index && entry.durable)

  passes : (stamp index : ℕ) → is_one stamp index (record { stamp = stamp; index = index; durable = true }) ≡ true
  passes stamp index = let stamps = eq-eqb stamp stamp refl in let indices = eq-eqb index index refl in rw (stamps, indices) refl

  -- a name of an archive is that of an entry that is listed, durable or not
  pub entry_listed : (stamp index : ℕ) (durable : Bool) → Contains names (Data stamp index durable) → (shown : Bool) × Contains listing.entries (record { stamp = stamp; index = index; durable = shown })
  entry_listed stamp index true has = (true, (is.entries (record { stamp = stamp; index = index; durable = true })).1 has)
  entry_listed stamp index false has = elim (cases_Bool (list_any (is_one stamp index) listing.entries)) [
    | inl some ↦
        let one = some_passes (is_one stamp index) listing.entries some in
        let entry = one.0 in
        let first = and_parts (entry.stamp == stamp) (entry.index == index && entry.durable) one.2 in
        let second = and_parts (entry.index == index) entry.durable first.1 in
        let same : entry ≡ record { stamp = stamp; index = index; durable = true } =
        ap (λ n. record { stamp = n; index = entry.index; durable = entry.durable }) (eqb-true entry.stamp stamp first.0)
        ∙ ap (λ n. record { stamp = stamp; index = n; durable = entry.durable }) (eqb-true entry.index index second.0) ∙ ap (λ b. record { stamp = stamp; index = index; durable = b }) second.1 in
        (true, subst (Contains listing.entries) same one.1)
    | inr none ↦ (
      false,
      (is.entries (record { stamp = stamp; index = index; durable = false })).1 (
        has,
        λ also.
            let entry : Entry = record { stamp = stamp; index = index; durable = true } in
            true≢false (sym (any_passes (is_one stamp index) listing.entries entry ((is.entries entry).1 also) (passes stamp index)) ∙ none),
      ),
    )
  ]
