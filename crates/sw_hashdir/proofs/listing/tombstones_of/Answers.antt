use Rattle.std.proofs.Common.{◌+◌, ℕ, List, Vec, Global, take, sym, ap, subst, ◌∙◌, arith}
use Rattle.std.specs.Bool.{⊤}
use Rattle.sw_hashpath.specs.declared.file_name.FileName.TheVariants.{Tombstone}
use Rattle.sw_hashdir.proofs.Listed.{AreKept, kept_here, kept_past, kept_whole}
use Rattle.sw_hashdir.proofs.Listings.{one_tombstone, tombstones_before}
use Rattle.sw_hashdir.proofs.listing.tombstones_of.Goals as goal
use Rattle.sw_hashdir.proofs.listing.tombstones_of.Goals.{After-loop-name, in-Tombstone+in_ok-push, in_default}

abbrev items_of : Vec ℕ Global → List ℕ
items_of v = v.items

pub loop-name-preserved : goal.loop-name-preserved
loop-name-preserved c = elim c.match-name.branch [
  | in-Tombstone+in_ok-push w ↦ kept_here (λ stamp. Tombstone stamp) (λ stamp. ⊤) one_tombstone c.args.names.now c.loop-name.name-index c.loop-name.stamps.items c.match-name.stamps.items
      c.name-item.result w.in-Tombstone.stamp c.requires c.loop-name-test.true c.name-item.is c.loop-name.invariant tt (sym w.in-Tombstone.is) (ap items_of w.stamps-is ∙ w.in_ok-push.ensures.items)
  | in_default w ↦ subst (λ kept. AreKept (λ stamp. Tombstone stamp) (λ stamp. ⊤) (take (c.loop-name.name-index + 1) c.args.names.now) kept) (ap items_of (sym w.stamps-is))
      (kept_past (λ stamp. Tombstone stamp) (λ stamp. ⊤) c.args.names.now c.loop-name.name-index c.loop-name.stamps.items c.name-item.result c.loop-name-test.true c.name-item.is
      (λ stamp holds named. w.in_default.not-Tombstone stamp (sym named)) c.loop-name.invariant)
]

kept : (c : After-loop-name) → AreKept (λ stamp. Tombstone stamp) (λ stamp. ⊤) c.args.names.now c.loop-name.stamps.items
kept c = kept_whole _ _ c.args.names.now c.loop-name.name-index c.loop-name.stamps.items (omega arith) c.loop-name.invariant

pub returns-clause-all : goal.returns-clause-all
returns-clause-all c = λ stamp.
    let whole = kept (goal.at.returns-clause-all c).After-loop-name in
    (λ has. (whole.found stamp has).1, λ has. whole.all stamp tt has)

pub returns-clause-ascend : goal.returns-clause-ascend
returns-clause-ascend c = tombstones_before c.loop-name.stamps.items (kept (goal.at.returns-clause-ascend c).After-loop-name).ascend
