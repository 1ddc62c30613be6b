use Rattle.std.proofs.Common.{◌≡◌, ℕ, suc, List, [], drop, length, IfErr, None, Result, Err, refl, sym, ap, subst, ◌∙◌, arith}
use Rattle.std.proofs.lemmas.Result.{err_from_is_err_and}
use Rattle.sw_core.specs.Event as core
use Rattle.sw_script.specs.declared.event.Event.TheVariants as event
use Rattle.sw_sim_exchange.specs.declared.lines.EndLine.{EndLine}
use Rattle.sw_sim_world.specs.declared.told.Told.{Told}
use Rattle.sw_sim_exchange.specs.Letters.{lines_from}
use Rattle.sw_sim_exchange.specs.declared.letter.Letter.{Letter}
use Rattle.sw_sim_world.specs.Doing.{event_fault}
use Rattle.sw_sim_world.specs.Leading.{DoesIt, LeadsByOne}
use Rattle.sw_sim_world.specs.Standing.{WorldModel}
use Rattle.sw_sim_world.specs.declared.fault.StepFault.TheVariants.{NoSuchMessage}
use Rattle.sw_sim_world.proofs.DoneLines.{deliver-does, delivered-more, message-there, no-message}
use Rattle.sw_sim_world.proofs.Wants.{drawing-none, wanted}
use Rattle.sw_sim_world.proofs.inner.Inner.deliver.Goals as goal

-- what holds of the error holds where it is one
failed : {A E : Type 0} (result : Result A E) (given fault : E) (P : E → Type 0) → result ≡ Err given → given ≡ fault → P fault → IfErr result P
failed result given fault P is same holds = subst (λ outcome. IfErr outcome P) (sym is) (subst P (sym same) holds)

pub returns-in_err-slot-clause-faults : goal.returns-in_err-slot-clause-faults
returns-in_err-slot-clause-faults c = λ before stands.
    let outcome = err_from_is_err_and c.from_residual.result c.from_residual.ensures.1 in
    let none = c.in_err-slot.ensures in
    failed c.from_residual.result outcome.0 NoSuchMessage _ outcome.1 (outcome.2 ∙ none.0) (no-message c.args.self.now before stands c.args.message none.1, refl)

pub told_since-requires : goal.told_since-requires
told_since-requires c =
    let same : c.letters-count.result.now ≡ c.args.self.now.letters = c.letters-count.ensures ∙ ap (λ (model : WorldModel). model.letters) c.self.view_is in
    omega (
      arith,
      ap (λ (letters : List Letter). length letters) same,
      delivered-more c.args.self.now c.requires.0 c.requires.1 c.in_ok-slot.slot c.in_ok-slot.ensures.1 c.deliver_at.new.self c.new-ends.result.items c.deliver_at.new.ends.items (c.in_ok-deliver_at.ensures.leads c.requires.0 c.requires.1),
    )

pub returns-clause-does : goal.returns-clause-does
returns-clause-does c = λ before stands.
    let slot = c.in_ok-slot.slot in
    let new = c.deliver_at.new.self in
    let ends = c.deliver_at.new.ends.items in
    let same : c.letters-count.result.now ≡ c.args.self.now.letters = c.letters-count.ensures ∙ ap (λ (model : WorldModel). model.letters) c.self.view_is in
    let one = subst (λ (none : List EndLine). LeadsByOne (core.Deliver (suc slot)) before new none ends) c.new-ends.ensures.items (c.in_ok-deliver_at.ensures.leads before stands) in
    subst (λ (told : Told). DoesIt (event.Deliver c.args.message) before told new)
    (sym (c.in_ok-told_since.ensures ∙ ap (λ (letters : List Letter). record { sent = lines_from (suc (length letters)) (drop (length letters) new.letters); ends = ends; shown = [] }) same))
    (subst (λ (message : ℕ). DoesIt (event.Deliver message) before (record { sent = lines_from (suc (length c.args.self.now.letters)) (drop (length c.args.self.now.letters) new.letters); ends = ends; shown = [] }) new) (sym c.in_ok-slot.ensures.0)
    (deliver-does c.args.self.now before stands slot c.in_ok-slot.ensures.1 new ends one))

pub returns-in_err-deliver_at-clause-faults : goal.returns-in_err-deliver_at-clause-faults
returns-in_err-deliver_at-clause-faults c before stands =
    wanted (event.Deliver c.args.message) before c.args.self.now _ c.from_residual-in_err-deliver_at.result c.from_residual-in_err-deliver_at.ensures.1
    (drawing-none (event.Deliver c.args.message) before
    (subst (λ (message : ℕ). event_fault before (event.Deliver message) ≡ None) (sym c.in_ok-slot.ensures.0) (message-there c.args.self.now before stands c.in_ok-slot.slot c.in_ok-slot.ensures.1)) refl)

pub returns-in_err-told_since-clause-faults : goal.returns-in_err-told_since-clause-faults
returns-in_err-told_since-clause-faults c before stands =
    wanted (event.Deliver c.args.message) before c.args.self.now _ c.from_residual-in_err-told_since.result c.from_residual-in_err-told_since.ensures.1
    (drawing-none (event.Deliver c.args.message) before
    (subst (λ (message : ℕ). event_fault before (event.Deliver message) ≡ None) (sym c.in_ok-slot.ensures.0) (message-there c.args.self.now before stands c.in_ok-slot.slot c.in_ok-slot.ensures.1)) refl)
