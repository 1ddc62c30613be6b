-- The floors that a listing shows are those of its durable entries and its tombstones.
use Rattle.std.proofs.Common.{⊎_elim, ℕ, true, Contains, filter, map, refl, sym, subst}
use Rattle.std.proofs.lemmas.List.Elements.{Contains-append_left, Contains-append_right}
use Rattle.sw_diskfile.proofs.Lists.{Contains-map, keeps}
use Rattle.sw_hashdir.specs.Listing.{ListingModel}
use Rattle.sw_hashdir.specs.declared.entry.Entry.{Entry}
use Rattle.sw_hashdir.specs.declared.floor.Floor.{Floor}
use Rattle.sw_hashdir.specs.declared.floor.FloorKind.{FloorKind}
use Rattle.sw_message.specs.Floors.{durable_at, durable_floor, floors_in, is_durable, tombstone_floor}
use Rattle.sw_message.specs.Warrant.{ListsFloor}

module _ (listing : ListingModel) where
  -- that of a durable entry
  pub durable_in : (stamp index : ℕ) → Contains listing.entries (record { stamp = stamp; index = index; durable = true }) → Contains (floors_in listing) (durable_at stamp)
  durable_in stamp index has =
      let entry : Entry = record { stamp = stamp; index = index; durable = true } in
      Contains-append_left (map durable_floor (filter is_durable listing.entries)) (map tombstone_floor listing.tombstones) (durable_at stamp)
      (Contains-map durable_floor (filter is_durable listing.entries) entry (keeps is_durable listing.entries entry has refl))

  -- that of a tombstone
  pub tombstone_in : (stamp : ℕ) → Contains listing.tombstones stamp → Contains (floors_in listing) (tombstone_floor stamp)
  tombstone_in stamp has =
      Contains-append_right (map durable_floor (filter is_durable listing.entries)) (map tombstone_floor listing.tombstones) (tombstone_floor stamp) (Contains-map tombstone_floor listing.tombstones stamp has)

  -- one that stands above a stamp
  pub above_in : (stamp : ℕ) (floor : Floor) → ListsFloor listing stamp floor → Contains (floors_in listing) floor
  above_in stamp floor lists =
      let of : FloorKind → Type 0 = λ which. Contains (floors_in listing) (record { stamp = floor.stamp; kind = which }) in
      ⊎_elim
      (λ durable. subst of (sym durable.0) (durable_in floor.stamp durable.1 durable.2))
      (λ tombstone. subst of (sym tombstone.0) (tombstone_in floor.stamp tombstone.1))
      lists.1
