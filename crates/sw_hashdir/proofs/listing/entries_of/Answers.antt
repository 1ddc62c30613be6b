use Rattle.std.proofs.Common.{◌+◌, List, Vec, Global, take, sym, ap, subst, ◌∙◌, arith}
use Rattle.std.proofs.lemmas.Option.{none-some}
use Rattle.sw_hashdir.specs.Directory.{HasEntry}
use Rattle.sw_hashdir.specs.declared.entry.Entry.{Entry}
use Rattle.sw_hashdir.proofs.Listed.{AreKept, kept_here, kept_past, kept_whole}
use Rattle.sw_hashdir.proofs.Listings.{entries_before, entry_name, has_name, one_entry}
use Rattle.sw_hashdir.proofs.listing.entries_of.Goals as goal
use Rattle.sw_hashdir.proofs.listing.entries_of.Goals.{After-loop-name, in-Some+in_ok-push, in_default}

abbrev items_of : Vec Entry Global → List Entry
items_of v = v.items

pub loop-name-preserved : goal.loop-name-preserved
loop-name-preserved c = elim c.match-entry_of.branch [
  | in-Some+in_ok-push w ↦
      let gives = (c.entry_of.ensures w.in-Some.entry).0 w.in-Some.is in
      kept_here entry_name (HasEntry c.args.names.now) one_entry c.args.names.now c.loop-name.name-index c.loop-name.entries.items c.match-entry_of.entries.items
      c.name-item.result w.in-Some.entry c.requires c.loop-name-test.true c.name-item.is c.loop-name.invariant gives.0 gives.1 (ap items_of w.entries-is ∙ w.in_ok-push.ensures.items)
  | in_default w ↦ subst (λ kept. AreKept entry_name (HasEntry c.args.names.now) (take (c.loop-name.name-index + 1) c.args.names.now) kept) (ap items_of (sym w.entries-is))
      (kept_past entry_name (HasEntry c.args.names.now) c.args.names.now c.loop-name.name-index c.loop-name.entries.items c.name-item.result c.loop-name-test.true c.name-item.is
      (λ entry holds named. none-some entry (sym w.in_default.is ∙ (c.entry_of.ensures entry).1 (holds, named))) c.loop-name.invariant)
]

kept : (c : After-loop-name) → AreKept entry_name (HasEntry c.args.names.now) c.args.names.now c.loop-name.entries.items
kept c = kept_whole _ _ c.args.names.now c.loop-name.name-index c.loop-name.entries.items (omega arith) c.loop-name.invariant

pub returns-clause-all : goal.returns-clause-all
returns-clause-all c = λ entry.
    let whole = kept (goal.at.returns-clause-all c).After-loop-name in
    (λ has. (whole.found entry has).0, λ has. whole.all entry has (has_name c.args.names.now entry has))

pub returns-clause-ascend : goal.returns-clause-ascend
returns-clause-ascend c =
    let whole = kept (goal.at.returns-clause-ascend c).After-loop-name in
    entries_before c.args.names.now c.loop-name.entries.items (λ entry has. (whole.found entry has).0) whole.ascend
