use Rattle.std.proofs.Common.{◌≡◌, suc, List, [], ◌∷◌, drop, length, sym, ap, subst, ◌∙◌}
use Rattle.sw_core.specs.Event as core
use Rattle.sw_script.specs.declared.event.Event.TheVariants as event
use Rattle.sw_sim_exchange.specs.declared.lines.EndLine.{EndLine}
use Rattle.sw_sim_exchange.specs.declared.lines.SentLine.TheVariants as told
use Rattle.sw_sim_world.specs.declared.told.Told.{Told}
use Rattle.sw_sim_exchange.specs.Letters.{lines_from}
use Rattle.sw_sim_exchange.specs.declared.letter.Letter.{Letter}
use Rattle.sw_sim_world.specs.Leading.{DoesIt, LeadsByOne}
use Rattle.sw_sim_world.specs.Standing.{WorldModel}
use Rattle.sw_sim_world.specs.Unfolding.{job_of}
use Rattle.sw_sim_world.proofs.StartLines.{start-does, start-may}
use Rattle.sw_sim_world.proofs.Wants.{wanted}
use Rattle.sw_sim_world.proofs.inner.Inner.start.Goals as goal

pub returns-clause-does : goal.returns-clause-does
returns-clause-does c before stands =
    let new = c.begin.new.self in
    let ends = c.begin.new.ends.items in
    let number = c.in_ok-number.number in
    let leads = subst (λ (none : List EndLine). LeadsByOne (core.Start (job_of c.args.job.now)) before new none ends) c.new-ends.ensures.items (c.in_ok-number.ensures.leads before stands) in
    let same : c.letters-count.result.now ≡ c.args.self.now.letters = c.letters-count.ensures ∙ ap (λ (model : WorldModel). model.letters) c.self.view_is in
    subst (λ (one : Told). DoesIt (event.Start c.args.job.now) before one new)
    (sym (c.in_ok-told_since.ensures ∙ ap (λ (letters : List Letter). record { sent = told.Started number ∷ lines_from (suc (length letters)) (drop (length letters) new.letters); ends = ends; shown = [] }) same))
    (start-does c.args.self.now before stands number c.in_ok-number.ensures.number.0 c.args.job.now new ends leads)

pub returns-in_err-told_since-clause-faults : goal.returns-in_err-told_since-clause-faults
returns-in_err-told_since-clause-faults c before stands =
    wanted (event.Start c.args.job.now) before c.args.self.now _ c.from_residual-in_err-told_since.result c.from_residual-in_err-told_since.ensures.1
    (start-may before c.args.job.now c.begin.new.self _ _ (c.in_ok-number.ensures.leads before stands))
