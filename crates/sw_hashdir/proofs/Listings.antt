-- Entries and tombstones of names, and the order in which they are listed.
use Rattle.std.proofs.Common.{◌≡◌, ◌⊎◌, inl, inr, ◌↔◌, ℕ, ◌<◌, false, List, get_or, Contains, refl, ap, subst, arith}
use Rattle.std.specs.Cmp.{bool_cmp_total}
use Rattle.std.specs.List.{AllPairs}
use Rattle.std.specs.Ordering.{bool_cmp, nat_cmp, ordering_then}
use Rattle.std.specs.declared.cmp.Ordering.{Ordering}
use Rattle.std.specs.declared.cmp.Ordering.TheVariants.{Less, Equal, Greater}
use Rattle.std.proofs.lemmas.Bool.Decides.{nat_tests}
use Rattle.std.proofs.lemmas.Cmp.{tied_itself}
use Rattle.std.proofs.lemmas.List.Elements.{Contains-get_or}
use Rattle.std.proofs.lemmas.Map.Lookups.{exact_unsigned}
use Rattle.sw_hashpath.specs.declared.file_name.FileName.{FileName}
use Rattle.sw_hashpath.specs.declared.file_name.FileName.TheVariants.{Data, Tombstone}
use Rattle.sw_hashdir.specs.Directory.{HasEntry, HasEntryAt}
use Rattle.sw_hashdir.proofs.Laws.{entry_there, one_durable}
use Rattle.sw_hashdir.specs.Listing.{IsBefore, IsListingOf, ListingModel}
use Rattle.sw_hashdir.specs.Order.{entry_key_cmp, name_cmp}
use Rattle.sw_hashdir.specs.declared.entry.Entry.{Entry}

-- the name that lists an entry
abbrev pub entry_name : Entry → FileName
entry_name entry = Data entry.stamp entry.index entry.durable

entry_of_name : FileName → Entry
entry_of_name (Data stamp index durable) = record { stamp = stamp; index = index; durable = durable }
entry_of_name (Tombstone stamp) = record { stamp = stamp; index = 0; durable = false }

pub one_entry : (a b : Entry) → entry_name a ≡ entry_name b → a ≡ b
unfolding entry_of_name
one_entry a b same = ap entry_of_name same

pub one_tombstone : (a b : ℕ) → Tombstone a ≡ Tombstone b → a ≡ b
one_tombstone a b same = cc

-- an entry that there is has its name
pub has_name : (names : List FileName) (entry : Entry) → HasEntry names entry → Contains names (entry_name entry)
has_name names entry has = entry_there names entry.stamp entry.index entry.durable has

pub nat_less : (a b : ℕ) → nat_cmp a b ≡ Less → a < b
nat_less a b less = grind (arith, nat_tests)

then_less : (o p : Ordering) → ordering_then o p ≡ Less → (o ≡ Less) ⊎ ((o ≡ Equal) × (p ≡ Less))
then_less Less p less = inl refl
then_less Equal p less = inr (refl, less)
then_less Greater p less = absurd (cc)

-- entries of the same names ascend as their names do
entry_before : (names : List FileName) (a b : Entry) → HasEntry names a → HasEntry names b → name_cmp (entry_name a) (entry_name b) ≡ Less → IsBefore a b
entry_before names a b first second less = elim (then_less (nat_cmp a.stamp b.stamp) (entry_key_cmp (a.index, a.durable) (b.index, b.durable)) less) [
  | inl older ↦ inl (nat_less a.stamp b.stamp older)
  | inr level ↦
      let stamp : a.stamp ≡ b.stamp = exact_unsigned a.stamp b.stamp level.0 in
      elim (then_less (nat_cmp a.index b.index) (bool_cmp a.durable b.durable) level.1) [
        | inl lower ↦ inr (stamp, nat_less a.index b.index lower)
        | inr both ↦
            let index : a.index ≡ b.index = exact_unsigned a.index b.index both.0 in
            let there = subst (λ i. HasEntryAt names b.stamp i a.durable) index (subst (λ s. HasEntryAt names s a.index a.durable) stamp first) in
            let durable : a.durable ≡ b.durable = one_durable names b.stamp b.index a.durable b.durable there second in
            let tie = subst (λ d. bool_cmp a.durable d ≡ Equal) durable (tied_itself bool_cmp_total a.durable) in
            absurd (cc)
      ]
]

pub entries_before : (names : List FileName) (entries : List Entry) → ((entry : Entry) → Contains entries entry → HasEntry names entry) → AllPairs (λ a b. name_cmp (entry_name a) (entry_name b) ≡ Less) entries → AllPairs IsBefore entries
entries_before names entries are up i j d lt within =
    entry_before names (get_or entries i d) (get_or entries j d) (are (get_or entries i d) (Contains-get_or entries i d (omega arith))) (are (get_or entries j d) (Contains-get_or entries j d within)) (up i j d lt within)

pub tombstones_before : (stamps : List ℕ) → AllPairs (λ a b. name_cmp (Tombstone a) (Tombstone b) ≡ Less) stamps → AllPairs (λ a b. a < b) stamps
tombstones_before stamps up i j d lt within = elim (then_less (nat_cmp (get_or stamps i d) (get_or stamps j d)) Equal (up i j d lt within)) [
  | inl less ↦ nat_less (get_or stamps i d) (get_or stamps j d) less
  | inr both ↦ let less = both.1 in absurd (cc)
]

-- a listing by its parts, of which each is of the same names
pub listing_is : (names first second : List FileName) (listing : ListingModel) → first ≡ names → second ≡ names → ((entry : Entry) → Contains listing.entries entry ↔ HasEntry first entry) → AllPairs IsBefore listing.entries → ((stamp : ℕ) → Contains listing.tombstones stamp ↔ Contains second (Tombstone stamp)) → AllPairs (λ a b. a < b) listing.tombstones → IsListingOf names listing
listing_is names first second listing one two entries entries_ascend tombstones tombstones_ascend = record {
  entries = λ entry. subst (λ ns. Contains listing.entries entry ↔ HasEntry ns entry) one (entries entry);
  entries_ascend = entries_ascend;
  tombstones = λ stamp. subst (λ ns. Contains listing.tombstones stamp ↔ Contains ns (Tombstone stamp)) two (tombstones stamp);
  tombstones_ascend = tombstones_ascend;
}
