-- What lists of the same names have in common: a floor, entries, a listing, and what is obsolete once a name was made.
use Rattle.std.proofs.Common.{◌≡◌, inl, inr, ⊎_elim, ◌↔◌, ℕ, Bool, true, false, Contains, List, Some, ap, ◌∙◌, arith}
use Rattle.std.specs.Bool.{one_answer}
use Rattle.sw_hashpath.specs.declared.file_name.FileName.{FileName}
use Rattle.sw_hashpath.specs.declared.file_name.FileName.TheVariants.{Data, Tombstone}
use Rattle.sw_hashdir.specs.Directory.{HasEntryAt, IsFloor}
use Rattle.sw_hashdir.proofs.Laws.{entry_there, level, one_durable as durable_once}
use Rattle.sw_hashdir.specs.Listing.{IsBefore, IsListingOf, ListingModel}
use Rattle.sw_hashdir.specs.Obsolete.{IsAfter}
use Rattle.sw_hashdir.specs.declared.entry.Entry.{Entry}
use Rattle.sw_hashdir.specs.declared.floor.Floor.{Floor}
use Rattle.sw_diskfile.proofs.Lists.{one_ascending, same_ascending}
use Rattle.sw_diskfile.proofs.Obsoletes.{AreSame, floor_same, obsolete_same}
use Rattle.sw_message.specs.Table.{Allows, ArePurged, HasDurableFloor, IsCovered, IsUncovered, LacksEntry, Refuses}
use Rattle.sw_message.proofs.Ascending.{number_never, number_trans, same_numbers}

-- ---- entries, in their order

IsBefore-never : (entry : Entry) → IsBefore entry entry → ⊥
IsBefore-never entry before = number_never entry.stamp before (λ less. omega (arith, less))

IsBefore-trans : (a b c : Entry) → IsBefore a b → IsBefore b c → IsBefore a c
IsBefore-trans a b c first second = number_trans a.stamp b.stamp c.stamp first second (λ f g. omega (arith, f, g))

pub turned : (names others : List FileName) → AreSame names others → AreSame others names
turned names others same name = ((same name).1, (same name).0)

module _ (names others : List FileName) (same : AreSame names others) where
  pub one_floor : (a b : Floor) → IsFloor names (Some a) → IsFloor others (Some b) → a ≡ b
  one_floor a b first second = let also = floor_same others names (turned names others same) (Some b) second in level a b (also.1 a first.0) (first.1 b also.0)

  pub covered_or_not : (stamp : ℕ) (floor : Floor) → IsCovered names stamp floor → IsUncovered others stamp → ⊥
  covered_or_not stamp floor covered uncovered = uncovered floor (floor_same names others same (Some floor) covered.0, covered.1)

  pub refused_or_allowed : (stamp : ℕ) (floor : Floor) → Refuses names stamp floor → Allows others stamp → ⊥
  refused_or_allowed stamp floor refused allowed = allowed floor (floor_same names others same (Some floor) refused.0, refused.1)

  durable_same : HasDurableFloor names → HasDurableFloor others
  durable_same has = (has.0, floor_same names others same (Some has.0) has.1, has.2)

  pub there_or_lacks : (stamp index : ℕ) (durable : Bool) → HasEntryAt names stamp index durable → LacksEntry others stamp index → ⊥
  there_or_lacks stamp index durable has lacks = lacks durable ((same (Data stamp index durable)).0 (entry_there names stamp index durable has))

  entry_same : (stamp index : ℕ) (durable : Bool) → HasEntryAt names stamp index durable → HasEntryAt others stamp index durable
  entry_same stamp index true has = (same (Data stamp index true)).0 has
  entry_same stamp index false has = ((same (Data stamp index false)).0 has.0, λ also. has.1 ((same (Data stamp index true)).1 also))

  after_same : (made : FileName) (a b : List FileName) → IsAfter made names a → IsAfter made others b → (name : FileName) → Contains a name → Contains b name
  after_same made a b first second name has = (second name).1 (⊎_elim
      (λ here. inl here)
      (λ before. inr ((same name).0 before.0, before.1))
      ((first name).0 has))

module _ (names others : List FileName) (same : AreSame names others) where
  back : AreSame others names
  back = turned names others same

  pub one_durable : (stamp index : ℕ) (a b : Bool) → HasEntryAt names stamp index a → HasEntryAt others stamp index b → a ≡ b
  one_durable stamp index a b first second = durable_once names stamp index a b first (entry_same others names back stamp index b second)

  pub one_existed : (a b : Bool) → (a ≡ true) ↔ HasDurableFloor names → (b ≡ true) ↔ HasDurableFloor others → a ≡ b
  one_existed a b first second = one_answer a b first (λ is. durable_same others names back (second.0 is), λ has. second.1 (durable_same names others same has))

  pub one_listing : (a b : ListingModel) → IsListingOf names a → IsListingOf others b → a ≡ b
  one_listing a b first second =
      let entries = same_ascending IsBefore IsBefore-never IsBefore-trans a.entries b.entries first.entries_ascend second.entries_ascend (λ entry. (
        λ has. (second.entries entry).1 (entry_same names others same entry.stamp entry.index entry.durable ((first.entries entry).0 has)),
        λ has. (first.entries entry).1 (entry_same others names back entry.stamp entry.index entry.durable ((second.entries entry).0 has)),
      )) in
      let tombstones = same_numbers a.tombstones b.tombstones first.tombstones_ascend second.tombstones_ascend (λ stamp. (
        λ has. (second.tombstones stamp).1 ((same (Tombstone stamp)).0 ((first.tombstones stamp).0 has)),
        λ has. (first.tombstones stamp).1 ((same (Tombstone stamp)).1 ((second.tombstones stamp).0 has)),
      )) in
      ap (λ e. record { entries = e; tombstones = a.tombstones }) entries ∙ ap (λ t. record { entries = b.entries; tombstones = t }) tombstones

  pub one_purge : (is_primary : Bool) (made : FileName) (a b : List (List ℕ)) → ArePurged is_primary made names a → ArePurged is_primary made others b → a ≡ b
  one_purge is_primary made a b first second =
      let there = after_same names others same made first.later second.later first.after second.after in
      let here = after_same others names back made second.later first.later second.after first.after in
      one_ascending a b first.ascend second.ascend (λ text. (
        λ has. let is = (first.all text).0 has in (second.all text).1 (is.0, obsolete_same first.later second.later (λ name. (there name, here name)) is_primary is.0 is.1, is.2),
        λ has. let is = (second.all text).0 has in (first.all text).1 (is.0, obsolete_same second.later first.later (λ name. (here name, there name)) is_primary is.0 is.1, is.2),
      ))
