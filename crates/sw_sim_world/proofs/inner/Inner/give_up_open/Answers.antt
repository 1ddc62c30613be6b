use Rattle.std.proofs.Common.{◌≡◌, ◌≤◌, ◌<◌, ◌⊎◌, inl, inr, suc, List, [], drop, length, refl, sym, ap, subst, ◌∙◌, arith}
use Rattle.sw_script.specs.declared.event.Event.TheVariants as event
use Rattle.sw_sim_exchange.specs.declared.lines.EndLine.{EndLine}
use Rattle.sw_sim_world.specs.declared.told.Told.{Told}
use Rattle.sw_sim_exchange.specs.Letters.{lines_from}
use Rattle.sw_sim_exchange.specs.declared.letter.Letter.{Letter}
use Rattle.sw_sim_world.specs.Doing.{operation_fault}
use Rattle.sw_sim_world.specs.Leading.{DoesIt, GivesUpOpen, LeadsBy}
use Rattle.sw_sim_world.specs.Standing.{WorldModel}
use Rattle.sw_sim_world.proofs.DoneLines.{give-up-does, given-up-more, no-operation}
use Rattle.sw_sim_world.proofs.HasTold.{operation-of}
use Rattle.sw_sim_world.proofs.Wants.{drawing-none, wanted}
use Rattle.sw_sim_world.proofs.inner.Inner.give_up_open.Goals as goal
use Rattle.sw_sim_world.proofs.inner.Inner.give_up_open.Goals.{then-number-eq0-via-else-number-eq0+then-number-started, then-number-eq0-via-then-number-eq0}

-- no operation has the number
none : (c : goal.Joined-then-number-eq0) → (c.args.number ≡ 0) ⊎ (length c.args.self.now.operations < c.args.number)
none c = elim c.then-number-eq0.branch [
  | then-number-eq0-via-then-number-eq0 w ↦ inl w.if-number-eq0.true
  | then-number-eq0-via-else-number-eq0+then-number-started w ↦ inr (omega (arith, w.started.ensures, w.if-number-started.true, ap (λ (model : WorldModel). length model.operations) c.self.view_is))
]

pub returns-then-number-eq0-clause-faults : goal.returns-then-number-eq0-clause-faults
returns-then-number-eq0-clause-faults c = λ before stands. (no-operation c.args.self.now before stands c.args.number (none c), refl)

pub told_since-requires : goal.told_since-requires
told_since-requires c =
    let same : c.letters-count.result.now ≡ c.args.self.now.letters = c.letters-count.ensures ∙ ap (λ (model : WorldModel). model.letters) c.self.view_is in
    omega (
      arith,
      ap (λ (letters : List Letter). length letters) same,
      given-up-more c.args.self.now c.requires.0 c.requires.1 c.args.number c.give_up_each.new.self c.new-ends.result.items c.give_up_each.new.ends.items (c.in_ok-give_up_each.ensures.leads c.requires.0 c.requires.1),
    )

pub returns-clause-does : goal.returns-clause-does
returns-clause-does c = λ before stands.
    let number = c.args.number in
    let new = c.give_up_each.new.self in
    let ends = c.give_up_each.new.ends.items in
    let same : c.letters-count.result.now ≡ c.args.self.now.letters = c.letters-count.ensures ∙ ap (λ (model : WorldModel). model.letters) c.self.view_is in
    let leads = subst (λ (none_yet : List EndLine). LeadsBy (GivesUpOpen number before) before new none_yet ends) c.new-ends.ensures.items (c.in_ok-give_up_each.ensures.leads before stands) in
    let within : number ≤ length c.args.self.now.operations = omega (arith, c.if-number-started.false, c.started.ensures, ap (λ (model : WorldModel). length model.operations) c.self.view_is) in
    let at = operation-of c.args.self.now before stands number (omega (arith, c.if-number-eq0.false)) within in
    subst (λ (told : Told). DoesIt (event.GiveUp number) before told new)
    (sym (c.in_ok-told_since.ensures ∙ ap (λ (letters : List Letter). record { sent = lines_from (suc (length letters)) (drop (length letters) new.letters); ends = ends; shown = [] }) same))
    (give-up-does c.args.self.now before stands number at.operation at.there new ends leads)

pub returns-in_err-give_up_each-clause-faults : goal.returns-in_err-give_up_each-clause-faults
returns-in_err-give_up_each-clause-faults c before stands =
    let within : c.args.number ≤ length c.args.self.now.operations = omega (arith, c.if-number-started.false, c.started.ensures, ap (λ (model : WorldModel). length model.operations) c.self.view_is) in
    wanted (event.GiveUp c.args.number) before c.args.self.now _ c.from_residual.result c.from_residual.ensures.1
    (drawing-none (event.GiveUp c.args.number) before (ap operation_fault (operation-of c.args.self.now before stands c.args.number (omega (arith, c.if-number-eq0.false)) within).there) refl)

pub returns-in_err-told_since-clause-faults : goal.returns-in_err-told_since-clause-faults
returns-in_err-told_since-clause-faults c before stands =
    let within : c.args.number ≤ length c.args.self.now.operations = omega (arith, c.if-number-started.false, c.started.ensures, ap (λ (model : WorldModel). length model.operations) c.self.view_is) in
    wanted (event.GiveUp c.args.number) before c.args.self.now _ c.from_residual-in_err-told_since.result c.from_residual-in_err-told_since.ensures.1
    (drawing-none (event.GiveUp c.args.number) before (ap operation_fault (operation-of c.args.self.now before stands c.args.number (omega (arith, c.if-number-eq0.false)) within).there) refl)
