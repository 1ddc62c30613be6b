-- The entry in front is treated, or is kept without a message.
use Rattle.std.proofs.Common.{◌≡◌, ap, arith, length, refl, sym, ◌∙◌, ◌++◌, ◌∷◌, [], List}
use Rattle.std.proofs.lemmas.List.{length-append, nil_from_length}
use Rattle.sw_hashdir.specs.declared.entry.Entry.{Entry}
use Rattle.sw_recon.specs.Revert.{treat}
use Rattle.sw_recon.specs.declared.kept.KeptEntry.{KeptEntry}
use Rattle.sw_recon.proofs.Treats.{treats_first, treats_later}
use Rattle.sw_recon.proofs.course.treat.Goals as goal

pub loop-entry-init : goal.loop-entry-init
loop-entry-init c = record { same = refl; room = c.requires.room; few = c.requires.few }

pub invariant_of-result : goal.invariant_of-result
invariant_of-result c = (
  omega (arith, c.loop-entry.invariant.room, ap length c.in-Some.ensures.items),
  omega (arith, c.loop-entry.invariant.few, ap length c.in-Some.ensures.items),
)

pub returns-then-entry-total : goal.returns-then-entry-total
returns-then-entry-total c =
    sym (treats_first c.args.total c.in-Some.entry c.pop_front.new.self.items c.args.removed c.loop-entry.kept.items c.if-entry-total.true)
    ∙ ap (λ (these : List Entry). treat c.args.total these c.args.removed c.loop-entry.kept.items) (sym c.in-Some.ensures.items) ∙ c.loop-entry.invariant.same

pub push_reserved-requires : goal.push_reserved-requires
push_reserved-requires c = omega (arith, c.loop-entry.invariant.room, ap length c.in-Some.ensures.items, c.loop-entry.kept.ok.0)

pub loop-entry-smaller : goal.loop-entry-smaller
loop-entry-smaller c = omega (arith, ap length c.in-Some.ensures.items)

pub loop-entry-preserved : goal.loop-entry-preserved
loop-entry-preserved c =
    let kept = c.loop-entry.kept.items in
    let entry = c.in-Some.entry in
    let items = c.push_reserved.ensures.items in
    let grew = length-append kept (c.kept_as.result ∷ []) in
    record {
      same = ap (λ (these : List KeptEntry). treat c.args.total c.pop_front.new.self.items c.args.removed these) (items ∙ ap (λ (one : KeptEntry). kept ++ one ∷ []) c.kept_as.ensures)
          ∙ sym (treats_later c.args.total entry c.pop_front.new.self.items c.args.removed kept c.if-entry-total.false)
          ∙ ap (λ (these : List Entry). treat c.args.total these c.args.removed kept) (sym c.in-Some.ensures.items) ∙ c.loop-entry.invariant.same;
      room = omega (arith, c.loop-entry.invariant.room, ap length c.in-Some.ensures.items, ap length items, grew, c.push_reserved.ensures.capacity);
      few = omega (arith, c.loop-entry.invariant.few, ap length c.in-Some.ensures.items, ap length items, grew);
    }

pub returns : goal.returns
returns c =
    let none : c.loop-entry.later.items ≡ [] = nil_from_length c.loop-entry.later.items (omega (arith, c.in_default.ensures.cases.0, c.loop-entry.later.ok.0)) in
    ap (λ (these : List KeptEntry). treat c.args.total [] c.args.removed these) c.from.ensures
    ∙ ap (λ (these : List Entry). treat c.args.total these c.args.removed c.loop-entry.kept.items) (sym none) ∙ c.loop-entry.invariant.same
