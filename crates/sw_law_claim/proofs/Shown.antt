-- What a folder bears by what a reply shows of it, and what a listing of it bears.
use Rattle.std.proofs.Common.{◌≡◌, ◌⊎◌, inl, inr, ⊎_elim, ℕ, Bool, true, false, Contains, List, refl, sym, ap, subst}
use Rattle.sw_disk.specs.Answers.{names_of}
use Rattle.sw_disk.specs.Folder.{File}
use Rattle.sw_hashpath.specs.FileName.{IsFileName}
use Rattle.sw_hashpath.specs.declared.file_name.FileName.{FileName}
use Rattle.sw_hashpath.specs.declared.file_name.FileName.TheVariants.{Data, Tombstone}
use Rattle.sw_hashdir.specs.Directory.{HasFloor, HasFloorAt, IsDirectory, StandsAbove}
use Rattle.sw_hashdir.specs.Listing.{IsListingOf, ListingModel}
use Rattle.sw_hashdir.specs.declared.floor.Floor.{Floor}
use Rattle.sw_diskfile.proofs.Spelt.{there_or_not}
use Rattle.sw_message.specs.Warrant.{HasListing, ListsFloor}
use Rattle.sw_message.specs.declared.reply.Reply.{Reply}
use Rattle.sw_message.specs.declared.reply.Reply.TheVariants as reply
use Rattle.sw_law_claim.specs.Claim.{ADurableEntry, ATombstone, AnEntry, Claim, IsBorneBy, IsListedIn, IsWhat, ListsWhat, ShowsFloor, What}
use Rattle.sw_law_claim.proofs.Floors.{floor_name}
use Rattle.sw_law_claim.proofs.Names.{there_bears}

-- A reply shows a durable entry by a listing, or that a floor stands above it.
abbrev pub IsShownBy : Bool → Claim → Reply → Type 0 → Type 0
IsShownBy primary claim reply IsAbove =
    (primary ≡ true) × ((index : ℕ) × (claim.what ≡ ADurableEntry index) × (((listing : ListingModel) × HasListing reply listing × Contains listing.entries (record { stamp = claim.stamp; index = index; durable = true })) ⊎ IsAbove))

-- that by a listing, too
abbrev pub AboveListed : Claim → Reply → Type 0
AboveListed claim reply = (listing : ListingModel) × HasListing reply listing × (floor : Floor) × ListsFloor listing claim.stamp floor

module _ (primary : Bool) (claim : Claim) (files : List File) (names : List FileName) (directory : IsDirectory (names_of files) names) where
  -- ---- what is shown

  -- a primary bears what its floor stands above
  floor_bears : primary ≡ true → (floor : Floor) → HasFloor names floor → StandsAbove floor claim.stamp → IsBorneBy primary claim files
  floor_bears at_primary floor has stands =
      let shown = floor_name names floor.stamp floor.kind has in
      there_bears primary claim files names directory shown.0 shown.1 (inr (at_primary, floor, shown.2, stands))

  -- a durable entry that is there bears its own claim
  durable_bears : (index : ℕ) → claim.what ≡ ADurableEntry index → Contains names (Data claim.stamp index true) → IsBorneBy primary claim files
  durable_bears index is has =
      there_bears primary claim files names directory (Data claim.stamp index true) has (inl (subst (λ (what : What). IsWhat claim.stamp what (Data claim.stamp index true)) (sym is) refl))

  -- a floor that a listing shows is there
  listed_floor : (listing : ListingModel) → IsListingOf names listing → (floor : Floor) → ListsFloor listing claim.stamp floor → HasFloor names floor
  listed_floor listing is floor lists = ⊎_elim
      (λ durable. subst (HasFloorAt names floor.stamp) (sym durable.0) (durable.1, (is.entries (record { stamp = floor.stamp; index = durable.1; durable = true })).0 durable.2))
      (λ tombstone. subst (HasFloorAt names floor.stamp) (sym tombstone.0) ((is.tombstones floor.stamp).0 tombstone.1))
      lists.1

  -- by the listing in a reply, if there is one
  pub listing_bears : (reply : Reply) → ((listing : ListingModel) → HasListing reply listing → IsListingOf names listing) → IsShownBy primary claim reply (AboveListed claim reply) → IsBorneBy primary claim files
  listing_bears reply lists shown = ⊎_elim
      (λ durable. durable_bears shown.1.0 shown.1.1 (((lists durable.0 durable.1).entries (record { stamp = claim.stamp; index = shown.1.0; durable = true })).0 durable.2))
      (λ above. floor_bears shown.0 above.2 (listed_floor above.0 (lists above.0 above.1) above.2 above.3) above.3.0)
      shown.1.2

  -- or by the floor of a refusal
  pub refusal_bears : (floor : Floor) → HasFloor names floor → IsShownBy primary claim (reply.Superseded floor) (StandsAbove floor claim.stamp) → IsBorneBy primary claim files
  refusal_bears floor has shown = ⊎_elim (λ durable. absurd durable.1) (floor_bears shown.0 floor has) shown.1.2

  -- ---- what a listing bears

  module _ (listing : ListingModel) (is : IsListingOf names listing) where
    -- an entry that is there is listed, durable or not
    listed_entry : (stamp index : ℕ) (durable : Bool) → IsFileName (Data stamp index durable) → Contains names (Data stamp index durable) → ListsWhat listing stamp (AnEntry index)
    listed_entry stamp index true spelt has = (true, (is.entries (record { stamp = stamp; index = index; durable = true })).1 has)
    listed_entry stamp index false spelt has = ⊎_elim
        (λ also. (true, (is.entries (record { stamp = stamp; index = index; durable = true })).1 also))
        (λ none. (false, (is.entries (record { stamp = stamp; index = index; durable = false })).1 (has, none)))
        (there_or_not (names_of files) names directory (Data stamp index true) spelt)

    -- so is whatever is claimed
    listed_what : (stamp : ℕ) (what : What) (name : FileName) → IsFileName name → Contains names name → IsWhat stamp what name → ListsWhat listing stamp what
    listed_what stamp (AnEntry index) name spelt has what = listed_entry stamp index what.0 (subst IsFileName what.1 spelt) (subst (Contains names) what.1 has)
    listed_what stamp (ADurableEntry index) name spelt has what = (is.entries (record { stamp = stamp; index = index; durable = true })).1 (subst (Contains names) what has)
    listed_what stamp ATombstone name spelt has what = (is.tombstones stamp).1 (subst (Contains names) what has)

    -- and a floor above
    floor_listed : (stamp : ℕ) (name : FileName) (floor : Floor) → Contains names name → ShowsFloor name floor → StandsAbove floor stamp → ListsFloor listing stamp floor
    floor_listed s (Data stamp index true) floor has shows stands = (
      stands,
      inl (
        ap (λ (f : Floor). f.kind) shows,
        index,
        subst (λ (f : Floor). Contains listing.entries (record { stamp = f.stamp; index = index; durable = true })) (sym shows) ((is.entries (record { stamp = stamp; index = index; durable = true })).1 has),
      ),
    )
    floor_listed s (Data stamp index false) floor has shows stands = absurd shows
    floor_listed s (Tombstone stamp) floor has shows stands = (
      stands,
      inr (ap (λ (f : Floor). f.kind) shows, subst (λ (f : Floor). Contains listing.tombstones f.stamp) (sym shows) ((is.tombstones stamp).1 has)),
    )

    -- a listing of the folder bears what it does
    pub listing_has : IsBorneBy primary claim files → IsListedIn primary claim listing
    listing_has borne =
        let has = (directory borne.name).1 (borne.spelt, borne.there) in
        ⊎_elim
        (λ what. inl (listed_what claim.stamp claim.what borne.name borne.spelt has what))
        (λ shown. inr (shown.0, shown.1, floor_listed claim.stamp borne.name shown.1 has shown.2 shown.3))
        borne.bearing
