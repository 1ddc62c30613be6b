use Rattle.std.proofs.Common.{◌≡◌, ◌↔◌, ◌+◌, List, Vec, Global, Contains, take, refl, sym, ap, subst, ◌∙◌, arith}
use Rattle.std.proofs.lemmas.Bool.{false≢true}
use Rattle.std.proofs.lemmas.Result.{IfOk-weaker}
use Rattle.sw_hashpath.specs.FileName.{IsFileName}
use Rattle.sw_hashpath.specs.declared.file_name.FileName.{FileName}
use Rattle.sw_hashdir.specs.Obsolete.{IsObsolete}
use Rattle.sw_hashdir.specs.Order.{Ascend}
use Rattle.sw_hashdir.proofs.Listed.{AreKept, kept_here, kept_past, kept_whole}
use Rattle.sw_hashdir.proofs.Orders.{different}
use Rattle.sw_hashdir.proofs.directory.HashDir.obsolete.Goals as goal
use Rattle.sw_hashdir.proofs.directory.HashDir.obsolete.Goals.{After-deref-2, After-is_obsolete, else-is_obsolete, then-is_obsolete+in_ok-push}

abbrev items_of : Vec FileName Global → List FileName
items_of v = v.items

-- what the test asks of a name
tested : (c : After-is_obsolete) → c.deref.result.now ≡ c.args.self.now
tested c = c.deref.ensures.value ∙ c.self.view_is

ascend : (c : After-is_obsolete) → Ascend c.deref-name-items.result.now
ascend c = subst Ascend (sym c.deref-name-items.ensures.value) c.self.invariant.ascend

pub loop-name-preserved : goal.loop-name-preserved
loop-name-preserved c =
    let at = (goal.at.loop-name-preserved c).After-is_obsolete in
    let P = IsObsolete c.args.is_primary c.args.self.now in
    let names = c.deref-name-items.result.now in
    elim c.if-is_obsolete.branch [
      | then-is_obsolete+in_ok-push w ↦
          kept_here (λ name. name) P (λ a b same. same) names c.loop-name.name-index c.loop-name.names.items c.if-is_obsolete.names.items c.name-item.result c.name-item.result
          (ascend at) c.loop-name-test.true c.name-item.is c.loop-name.invariant (subst (λ ns. IsObsolete c.args.is_primary ns c.name-item.result) (tested at) (c.is_obsolete.ensures.0 w.if-is_obsolete.true)) refl
          (ap items_of w.names-is ∙ w.in_ok-push.ensures.items)
      | else-is_obsolete w ↦ subst (λ kept. AreKept (λ name. name) P (take (c.loop-name.name-index + 1) names) kept) (ap items_of (sym w.names-is))
          (kept_past (λ name. name) P names c.loop-name.name-index c.loop-name.names.items c.name-item.result c.loop-name-test.true c.name-item.is
          (λ name holds named. false≢true (sym w.if-is_obsolete.false ∙ c.is_obsolete.ensures.1 (subst (λ ns. IsObsolete c.args.is_primary ns c.name-item.result) (sym (tested at)) (subst P named holds)))) c.loop-name.invariant)
    ]

-- the names that are to be put in order
kept : (c : After-deref-2) → AreKept (λ name. name) (IsObsolete c.args.is_primary c.args.self.now) c.deref-name-items.result.now c.deref-2.result.now
kept c =
    subst (AreKept (λ name. name) (IsObsolete c.args.is_primary c.args.self.now) c.deref-name-items.result.now) (sym c.deref-2.ensures.value)
    (kept_whole _ _ c.deref-name-items.result.now c.loop-name.name-index c.loop-name.names.items (omega arith) c.loop-name.invariant)

pub in_order-requires-clause-named : goal.in_order-requires-clause-named
in_order-requires-clause-named c = λ name has.
    let obsolete = ((kept (goal.at.in_order-requires-clause-named c).After-deref-2).found name has).0 in
    c.self.invariant.named name (subst (λ ns. Contains ns name) (sym c.self.view_is) obsolete.0)

pub in_order-requires-clause-distinct : goal.in_order-requires-clause-distinct
in_order-requires-clause-distinct c = different c.deref-2.result.now (kept (goal.at.in_order-requires-clause-distinct c).After-deref-2).ascend

pub returns-clause-names : goal.returns-clause-names
returns-clause-names c = IfOk-weaker c.in_order.result (λ sorted. (name : FileName) → Contains sorted.items name ↔ Contains c.deref-2.result.now name) (λ sorted. (name : FileName) → Contains sorted.items name ↔ IsObsolete c.args.is_primary c.args.self.now name) (λ sorted same name.
    let whole = kept (goal.at.returns-clause-names c).After-deref-2 in
    let seen : c.args.self.now ≡ c.deref-name-items.result.now = sym (c.deref-name-items.ensures.value ∙ c.self.view_is) in (
      λ has. (whole.found name ((same name).0 has)).0,
      λ obsolete. (same name).1 (whole.all name obsolete (subst (λ ns. Contains ns name) seen obsolete.0)),
    )) c.in_order.ensures.names

pub returns-clause-named : goal.returns-clause-named
returns-clause-named c = IfOk-weaker c.in_order.result (λ sorted. (name : FileName) → Contains sorted.items name ↔ Contains c.deref-2.result.now name) (λ sorted. (name : FileName) → Contains sorted.items name → IsFileName name) (λ sorted same name has.
    let whole = kept (goal.at.returns-clause-named c).After-deref-2 in
    c.self.invariant.named name (subst (λ ns. Contains ns name) (sym c.self.view_is) (whole.found name ((same name).0 has)).0.0)) c.in_order.ensures.names
