use Rattle.std.proofs.Common.{◌≡◌, ◌≤◌, ◌↔◌, ℕ, List, length, slice_get, Some, sym, ap, subst, ◌∙◌}
use Rattle.std.proofs.lemmas.Result.{err_from_is_err_and}
use Rattle.sw_core.specs.Event as core
use Rattle.sw_script.specs.declared.event.Event.TheVariants as event
use Rattle.sw_sim_exchange.specs.declared.lines.EndLine.{EndLine}
use Rattle.sw_sim_world.specs.declared.told.Told.{Told}
use Rattle.sw_sim_exchange.specs.declared.letter.Letter.{Letter}
use Rattle.sw_sim_world.specs.Leading.{DoesIt, LeadsByOne}
use Rattle.sw_sim_world.specs.Standing.{WorldModel}
use Rattle.sw_sim_world.specs.Unfolding.{job_of}
use Rattle.sw_sim_world.proofs.StartLines.{not-run, own-letters, run-does, start-may}
use Rattle.sw_sim_world.proofs.Wants.{wanted}
use Rattle.sw_sim_world.proofs.inner.Inner.run.Goals as goal

pub returns-in_err-number-clause-faults : goal.returns-in_err-number-clause-faults
returns-in_err-number-clause-faults c before stands =
    let outcome = err_from_is_err_and c.from_residual.result c.from_residual.ensures.1 in
    not-run c.args.self.now _ before c.args.job.now c.from_residual.result outcome.0 c.in_err-number.field-0.0 outcome.1 outcome.2 (c.in_err-number.ensures.faults before stands)

pub run_out-requires-clause-stands : goal.run_out-requires-clause-stands
run_out-requires-clause-stands c = let leads = c.in_ok-number.ensures.leads c.requires.0 c.requires.1 in (leads.after, leads.stands)

pub run_out-requires-clause-own : goal.run_out-requires-clause-own
run_out-requires-clause-own c =
    let number = c.in_ok-number.number in
    let new = c.begin.new.self in
    let made = c.in_ok-number.ensures.letters in
    let same : c.letters-count.result.now ≡ c.args.self.now.letters = c.letters-count.ensures ∙ ap (λ (model : WorldModel). model.letters) c.self.view_is in
    subst (λ (letters : List Letter). (slot : ℕ) (letter : Letter) → slice_get new.letters slot ≡ Some letter → (letter.operation ≡ number) ↔ (length letters ≤ slot)) (sym same)
    (own-letters c.args.self.now c.requires.0 c.requires.1 number c.in_ok-number.ensures.number.0 made.0 new.letters made.1)

pub returns-clause-does : goal.returns-clause-does
returns-clause-does c before stands =
    let number = c.in_ok-number.number in
    let middle = c.begin.new.self in
    let new = c.run_out.new.self in
    let first = c.begin.new.ends.items in
    let ends = c.run_out.new.ends.items in
    let leads = subst (λ (none : List EndLine). LeadsByOne (core.Start (job_of c.args.job.now)) before middle none first) c.new-ends.ensures.items (c.in_ok-number.ensures.leads before stands) in
    subst (λ (one : Told). DoesIt (event.Run c.args.job.now) before one new) (sym c.ends_told.ensures)
    (run-does c.args.self.now before stands number c.in_ok-number.ensures.number.0 c.args.job.now middle new first ends leads (c.in_ok-run_out.ensures.leads leads.after leads.stands))

pub returns-in_err-run_out-clause-faults : goal.returns-in_err-run_out-clause-faults
returns-in_err-run_out-clause-faults c before stands =
    wanted (event.Run c.args.job.now) before c.args.self.now _ c.from_residual-in_err-run_out.result c.from_residual-in_err-run_out.ensures.1
    (start-may before c.args.job.now c.begin.new.self _ _ (c.in_ok-number.ensures.leads before stands))
