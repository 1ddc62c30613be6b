use Rattle.std.proofs.Common.{◌≡◌, ◌<◌, suc, [], Some, length, refl, ap, ◌∙◌}
use Rattle.std.proofs.lemmas.List.Elements.{All-nil}
use Rattle.sw_message.specs.declared.sent.Sent.{Sent}
use Rattle.sw_sim_exchange.specs.Exchange.{Proceeded}
use Rattle.sw_sim_exchange.specs.Kept.{IsAt}
use Rattle.sw_sim_exchange.specs.declared.operating.Operating.{Operating}
use Rattle.sw_script.specs.declared.event.Event.TheVariants as event
use Rattle.sw_sim_world.specs.Leading.{FaultsBy}
use Rattle.sw_sim_world.specs.Standing.{WorldModel}
use Rattle.sw_sim_world.specs.WorldInside.{inner_seen}
use Rattle.sw_sim_world.proofs.Beginnings.{kept-last, kept-leads, kept-letters, kept-there}
use Rattle.sw_sim_world.proofs.Wants.{begun-may, not-begun, passed-on, wanted}
use Rattle.sw_sim_world.proofs.inner.Inner.begin.Goals as goal

module _ (c : goal.In_ok-proceed) where
  -- what is kept of it at first
  abbrev kept : Operating
  kept = record { op = Some c.in_ok-op.op; tickets = [] }

  -- only the last stamp changed, where one was drawn
  seen : inner_seen c.self.inside ≡ record c.args.self.now { last = c.begun.new.self.last }
  seen = c.self.view_is ∙ c.begun.ensures.rest

  -- it went on from its beginning
  proceeded : Proceeded c.in_ok-number.number c.in_ok-op.ensures.begun.0 [] c.keep.new.self c.proceed.new.self c.args.ends.now.items c.proceed.new.ends.items
  proceeded =
      let is : IsAt kept c.in_ok-op.ensures.begun.0 [] = record {
        op = c.in_ok-op.op;
        goes = refl;
        stands = c.in_ok-op.ensures.begun.2;
        tickets = record { count = refl; are_open = λ ticket. refl; below = All-nil (λ (sent : Sent). sent.ticket < 0) };
      } in
      (c.in_ok-proceed.ensures kept c.in_ok-op.ensures.begun.0 [] (kept-there c.self.inside c.in_ok-number.number kept c.keep.new.self c.in_ok-number.ensures) is).0

pub returns-clause-number : goal.returns-clause-number
returns-clause-number c = (
  c.in_ok-number.ensures.0 ∙ ap (λ (model : WorldModel). suc (length model.operations)) (seen c),
  kept-last c.self.inside c.in_ok-number.number (kept c) c.keep.new.self c.in_ok-number.ensures c.in_ok-op.ensures.begun.0 c.proceed.new.self c.args.ends.now.items c.proceed.new.ends.items (proceeded c),
)

pub returns-clause-letters : goal.returns-clause-letters
returns-clause-letters c =
    kept-letters c.self.inside c.in_ok-number.number (kept c) c.keep.new.self c.in_ok-number.ensures c.in_ok-op.ensures.begun.0 c.proceed.new.self c.args.ends.now.items c.proceed.new.ends.items (proceeded c)
    c.args.self.now.letters (ap (λ (model : WorldModel). model.letters) (seen c))

pub returns-clause-leads : goal.returns-clause-leads
returns-clause-leads c before stands =
    kept-leads c.self.inside c.in_ok-number.number (kept c) c.keep.new.self c.in_ok-number.ensures c.in_ok-op.ensures.begun.0 c.proceed.new.self c.args.ends.now.items c.proceed.new.ends.items (proceeded c)
    c.args.self.now before stands c.begun.new.self.last (seen c) c.args.job.now c.in_ok-op.ensures.begun.1

-- ---- where it is not begun, or not kept

pub returns-in_err-op-clause-faults : goal.returns-in_err-op-clause-faults
returns-in_err-op-clause-faults c before stands =
    passed-on (λ fault. FaultsBy (event.Start c.args.job.now) before fault c.args.self.now c.begun.new.self) c.from_residual.result c.in_err-op.field-0.0 c.from_residual.ensures.1
    (not-begun c.args.self.now before stands c.args.job.now c.in_err-op.field-0.0 c.begun.new.self c.in_err-op.ensures.faults)

pub returns-in_err-number-clause-faults : goal.returns-in_err-number-clause-faults
returns-in_err-number-clause-faults c before stands =
    wanted (event.Start c.args.job.now) before c.args.self.now _ c.from_residual-in_err-number.result c.from_residual-in_err-number.ensures.1
    (begun-may c.args.self.now before stands c.args.job.now c.in_ok-op.ensures.begun.0 c.begun.new.self.last c.in_ok-op.ensures.begun.1)

pub returns-in_err-proceed-clause-faults : goal.returns-in_err-proceed-clause-faults
returns-in_err-proceed-clause-faults c before stands =
    wanted (event.Start c.args.job.now) before c.args.self.now _ c.from_residual-in_err-proceed.result c.from_residual-in_err-proceed.ensures.1
    (begun-may c.args.self.now before stands c.args.job.now c.in_ok-op.ensures.begun.0 c.begun.new.self.last c.in_ok-op.ensures.begun.1)
