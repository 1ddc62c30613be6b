-- Each folder has a listing: its entries and its tombstones, ascending.
use Rattle.std.proofs.Common.{◌≡◌, ◌↔◌, inl, inr, ⊎_elim, ℕ, Bool, true, false, Contains, List, [], ◌∷◌, sym, subst, arith}
use Rattle.std.proofs.lemmas.Bool.{cases_eq, cases_lt}
use Rattle.sw_hashpath.specs.declared.file_name.FileName.{FileName}
use Rattle.sw_hashpath.specs.declared.file_name.FileName.TheVariants.{Data, Tombstone}
use Rattle.sw_hashdir.specs.Directory.{HasEntry, HasEntryAt}
use Rattle.sw_hashdir.proofs.Laws.{entry_there, one_durable}
use Rattle.sw_hashdir.specs.Listing.{IsBefore, IsListingOf, ListingModel}
use Rattle.sw_hashdir.specs.declared.entry.Entry.{Entry}
use Rattle.sw_diskfile.proofs.Lists.{Contains-cases, Contains-first, Contains-later, Contains-none}
use Rattle.sw_diskfile.proofs.Decisions.{OrNot, both}
use Rattle.sw_law_possible.proofs.Chosen.{chosen, negated}
use Rattle.sw_law_possible.proofs.Names.{among_or_not}
use Rattle.sw_law_possible.proofs.Orders.{InOrder, ascending, ascending_numbers}

abbrev entry_at : (stamp index : ℕ) → Bool → Entry
entry_at stamp index durable = record { stamp = stamp; index = index; durable = durable }

-- ---- what may be listed

-- the entries that there may be, and the stamps of tombstones
abbrev entries_in : List FileName → List Entry
entries_in [] = []
entries_in (Data stamp index durable ∷ names) = entry_at stamp index true ∷ entry_at stamp index false ∷ entries_in names
entries_in (Tombstone stamp ∷ names) = entries_in names

abbrev tombstones_in : List FileName → List ℕ
tombstones_in [] = []
tombstones_in (Data stamp index durable ∷ names) = tombstones_in names
tombstones_in (Tombstone stamp ∷ names) = stamp ∷ tombstones_in names

either_entry : (stamp index : ℕ) (durable : Bool) (entries : List Entry) → Contains (entry_at stamp index true ∷ entry_at stamp index false ∷ entries) (entry_at stamp index durable)
either_entry stamp index true entries = Contains-first (entry_at stamp index true) (entry_at stamp index false ∷ entries)
either_entry stamp index false entries = Contains-later (entry_at stamp index true) (entry_at stamp index false ∷ entries) (entry_at stamp index false) (Contains-first (entry_at stamp index false) entries)

may_be_entry : (names : List FileName) (stamp index : ℕ) (there durable : Bool) → Contains names (Data stamp index there) → Contains (entries_in names) (entry_at stamp index durable)
may_be_entry [] stamp index there durable has = absurd (Contains-none _ has)
may_be_entry (Data other at d ∷ names) stamp index there durable has = ⊎_elim
    (λ here.
    let stamps : other ≡ stamp = cc here in
    let indices : at ≡ index = cc here in
    subst (λ s. Contains (entry_at other at true ∷ entry_at other at false ∷ entries_in names) (entry_at s index durable)) stamps
    (subst (λ i. Contains (entry_at other at true ∷ entry_at other at false ∷ entries_in names) (entry_at other i durable)) indices (either_entry other at durable (entries_in names))))
    (λ later.
    let entry = entry_at stamp index durable in
    Contains-later (entry_at other at true) (entry_at other at false ∷ entries_in names) entry (Contains-later (entry_at other at false) (entries_in names) entry (may_be_entry names stamp index there durable later)))
    (Contains-cases (Data other at d) names (Data stamp index there) has)
may_be_entry (Tombstone other ∷ names) stamp index there durable has = ⊎_elim
    (λ here. absurd (cc here))
    (λ later. may_be_entry names stamp index there durable later)
    (Contains-cases (Tombstone other) names (Data stamp index there) has)

tombstones_are : (names : List FileName) (stamp : ℕ) → Contains (tombstones_in names) stamp ↔ Contains names (Tombstone stamp)
tombstones_are [] stamp = ((λ has. absurd (Contains-none stamp has)), (λ has. absurd (Contains-none _ has)))
tombstones_are (Data other at d ∷ names) stamp = (
  λ has. Contains-later (Data other at d) names (Tombstone stamp) ((tombstones_are names stamp).0 has),
  λ has. ⊎_elim (λ here. absurd (cc here)) (λ later. (tombstones_are names stamp).1 later) (Contains-cases (Data other at d) names (Tombstone stamp) has),
)
tombstones_are (Tombstone other ∷ names) stamp = (
  λ has. ⊎_elim
      (λ here. subst (λ s. Contains (Tombstone other ∷ names) (Tombstone s)) here (Contains-first (Tombstone other) names))
      (λ later. Contains-later (Tombstone other) names (Tombstone stamp) ((tombstones_are names stamp).0 later))
      (Contains-cases other (tombstones_in names) stamp has),
  λ has. ⊎_elim
      (λ here. let same : other ≡ stamp = cc here in subst (Contains (other ∷ tombstones_in names)) same (Contains-first other (tombstones_in names)))
      (λ later. Contains-later other (tombstones_in names) stamp ((tombstones_are names stamp).1 later))
      (Contains-cases (Tombstone other) names (Tombstone stamp) has),
)

-- ---- entries

module _ (names : List FileName) where
  has_by : (stamp index : ℕ) (durable : Bool) → OrNot (HasEntryAt names stamp index durable)
  has_by stamp index true = among_or_not names (Data stamp index true)
  has_by stamp index false = both (among_or_not names (Data stamp index false)) (negated (among_or_not names (Data stamp index true)))

  -- one of an earlier stamp is before, and of one stamp that of the lesser index
  entry_order : (a b : Entry) → HasEntry names a → HasEntry names b → InOrder IsBefore a b
  entry_order a b first second = ⊎_elim
      (λ stamps. ⊎_elim
      (λ indices.
      let durables : a.durable ≡ b.durable = one_durable names a.stamp a.index a.durable b.durable first
      (subst (λ s. HasEntryAt names s a.index b.durable) (sym stamps) (subst (λ i. HasEntryAt names b.stamp i b.durable) (sym indices) second)) in
      inl (λ i. record { stamp = stamps i; index = indices i; durable = durables i }))
      (λ differ. inr (⊎_elim (λ less. inl (inr (stamps, less))) (λ upto. inr (inr (sym stamps, omega (arith, upto, differ)))) (cases_lt a.index b.index)))
      (cases_eq a.index b.index))
      (λ differ. inr (⊎_elim (λ less. inl (inl less)) (λ upto. inr (inl (omega (arith, upto, differ)))) (cases_lt a.stamp b.stamp)))
      (cases_eq a.stamp b.stamp)

  before_both : (a b c : Entry) → IsBefore a b → IsBefore b c → IsBefore a c
  before_both a b c (inl one) (inl other) = inl (omega (arith, one, other))
  before_both a b c (inl one) (inr other) = inl (omega (arith, one, other.0))
  before_both a b c (inr one) (inl other) = inl (omega (arith, one.0, other))
  before_both a b c (inr one) (inr other) = inr (omega (arith, one.0, other.0), omega (arith, one.1, other.1))

  -- the names have a listing
  pub listing_of : (listing : ListingModel) × IsListingOf names listing
  listing_of =
      let those = chosen (HasEntry names) (λ entry. has_by entry.stamp entry.index entry.durable) (entries_in names) in
      let entries = ascending IsBefore (HasEntry names) entry_order before_both those.0 (λ entry has. ((those.1 entry).0 has).1) in
      let tombstones = ascending_numbers (tombstones_in names) in (
        record { entries = entries.0; tombstones = tombstones.0 },
        record {
          entries = λ entry. (
            λ has. ((those.1 entry).0 ((entries.1.same entry).0 has)).1,
            λ is. (entries.1.same entry).1 ((those.1 entry).1 (may_be_entry names entry.stamp entry.index entry.durable entry.durable (entry_there names entry.stamp entry.index entry.durable is), is)),
          );
          entries_ascend = entries.1.ascend;
          tombstones = λ stamp. (
            λ has. (tombstones_are names stamp).0 ((tombstones.1.same stamp).0 has),
            λ has. (tombstones.1.same stamp).1 ((tombstones_are names stamp).1 has),
          );
          tombstones_ascend = tombstones.1.ascend;
        },
      )
