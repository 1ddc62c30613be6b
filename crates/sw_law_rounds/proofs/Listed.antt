-- Floors and listings that answers show: a floor is that of a durable entry or of a tombstone that is listed.
use Rattle.std.proofs.Common.{◌≡◌, ⊎_elim, ℕ, true, Contains, map, ap, subst}
use Rattle.std.specs.List.{filter}
use Rattle.std.proofs.lemmas.List.Elements.{Contains-append_cases}
use Rattle.sw_hashdir.specs.Listing.{ListingModel}
use Rattle.sw_hashdir.specs.declared.floor.Floor.{Floor}
use Rattle.sw_diskfile.proofs.Lists.{kept, mapped}
use Rattle.sw_message.specs.Floors.{durable_at, durable_floor, floors_in, is_durable, tombstone_floor}
use Rattle.sw_message.specs.Warrant.{HasListing}
use Rattle.sw_message.specs.declared.message.Msg.{Msg}
use Rattle.sw_message.specs.declared.message.Msg.TheVariants as message
use Rattle.sw_message.specs.declared.reply.Reply.{Reply}
use Rattle.sw_message.specs.declared.reply.Reply.TheVariants as reply
use Rattle.sw_get.specs.Causes.{Shows}

-- ---- floors of a listing

module _ (listing : ListingModel) (stamp : ℕ) where
  -- a durable floor is that of a durable entry
  pub durable_entry : Contains (floors_in listing) (durable_at stamp) → (index : ℕ) × Contains listing.entries (record { stamp = stamp; index = index; durable = true })
  durable_entry has = ⊎_elim
      (λ durable.
      let from = mapped durable_floor (filter is_durable listing.entries) (durable_at stamp) durable in
      let entry = kept is_durable listing.entries from.0 from.1 in
      let stamps : from.0.stamp ≡ stamp = ap (λ (floor : Floor). floor.stamp) from.2 in (
        from.0.index,
        subst (λ s. Contains listing.entries (record { stamp = s; index = from.0.index; durable = true })) stamps
            (subst (λ d. Contains listing.entries (record { stamp = from.0.stamp; index = from.0.index; durable = d })) entry.1 entry.0),
      ))
      (λ tombstone. let from = mapped tombstone_floor listing.tombstones (durable_at stamp) tombstone in let kinds = ap (λ (floor : Floor). floor.kind) from.2 in absurd (cc kinds))
      (Contains-append_cases (map durable_floor (filter is_durable listing.entries)) (map tombstone_floor listing.tombstones) (durable_at stamp) has)

  -- and that of a tombstone is of one that is listed
  pub tombstone_there : Contains (floors_in listing) (tombstone_floor stamp) → Contains listing.tombstones stamp
  tombstone_there has = ⊎_elim
      (λ durable. let from = mapped durable_floor (filter is_durable listing.entries) (tombstone_floor stamp) durable in let kinds = ap (λ (floor : Floor). floor.kind) from.2 in absurd (cc kinds))
      (λ tombstone.
      let from = mapped tombstone_floor listing.tombstones (tombstone_floor stamp) tombstone in
      subst (Contains listing.tombstones) (ap (λ (floor : Floor). floor.stamp) from.2) from.1)
      (Contains-append_cases (map durable_floor (filter is_durable listing.entries)) (map tombstone_floor listing.tombstones) (tombstone_floor stamp) has)

-- what an answer shows is a listing of its
pub has_listing : (msg : Msg) (given : Reply) (listing : ListingModel) → Shows msg given listing → HasListing given listing
has_listing (message.Ask place) (reply.Held held) listing is = is
has_listing (message.Fetch place stamp index) (reply.Gone held) listing is = is
has_listing msg other listing is = absurd is
