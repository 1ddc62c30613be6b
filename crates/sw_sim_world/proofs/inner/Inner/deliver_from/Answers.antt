use Rattle.std.proofs.Common.{refl, ◌∙◌, arith}
use Rattle.std.proofs.lemmas.Option.{slice_get_within}
use Rattle.sw_sim_world.proofs.Sweeps.{none-swept, swept, swept-one}
use Rattle.sw_sim_world.proofs.inner.Inner.deliver_from.Goals as goal

pub each-init : goal.each-init
each-init c = record {
  sweeps = λ before stands. none-swept c.args.from before c.args.self.now c.args.ends.now.items stands;
  reaches = omega arith;
  work = omega arith;
  first = refl;
  cluster = refl;
}

pub deliver_at-requires-clause-stands : goal.deliver_at-requires-clause-stands
deliver_at-requires-clause-stands c = let sweeping = c.each.invariant.sweeps c.requires.stands.0 c.requires.stands.1 in (sweeping.now, sweeping.led.stands)

pub deliver_at-requires-clause-slot : goal.deliver_at-requires-clause-slot
deliver_at-requires-clause-slot c = let waits = c.in-Some.ensures in slice_get_within c.each.self.letters c.in-Some.next waits.1 waits.2

pub returns-in_err-deliver_at-clause-first : goal.returns-in_err-deliver_at-clause-first
returns-in_err-deliver_at-clause-first c = c.deliver_at.ensures.first ∙ c.each.invariant.first

pub returns-in_err-deliver_at-clause-cluster : goal.returns-in_err-deliver_at-clause-cluster
returns-in_err-deliver_at-clause-cluster c = c.deliver_at.ensures.cluster ∙ c.each.invariant.cluster

pub each-smaller : goal.each-smaller
each-smaller c = let waits = c.in-Some.ensures in c.in_ok-deliver_at.ensures.work waits.1 waits.2 waits.3

pub each-preserved : goal.each-preserved
each-preserved c =
    let waits = c.in-Some.ensures in
    record {
      sweeps = λ before stands.
          let sweeping = c.each.invariant.sweeps before stands in
          swept-one c.args.from before c.each.slot c.each.self c.args.ends.now.items c.each.ends.items sweeping c.in-Some.next waits.1 waits.2 waits.3 waits.4 (omega (arith, c.each.invariant.reaches, waits.0))
          c.deliver_at.new.self c.deliver_at.new.ends.items (c.in_ok-deliver_at.ensures.leads sweeping.now sweeping.led.stands);
      reaches = omega (arith, c.each.invariant.reaches, waits.0);
      work = omega (arith, c.in_ok-deliver_at.ensures.work waits.1 waits.2 waits.3, c.each.invariant.work);
      first = c.deliver_at.ensures.first ∙ c.each.invariant.first;
      cluster = c.deliver_at.ensures.cluster ∙ c.each.invariant.cluster;
    }

pub returns-clause-leads : goal.returns-clause-leads
returns-clause-leads c = λ before stands.
    swept c.args.from before c.each.slot c.each.self c.args.ends.now.items c.each.ends.items (c.each.invariant.sweeps before stands) c.each.invariant.reaches c.in_default.ensures

pub returns-clause-work : goal.returns-clause-work
returns-clause-work c = c.each.invariant.work

pub returns-clause-first : goal.returns-clause-first
returns-clause-first c = c.each.invariant.first

pub returns-clause-cluster : goal.returns-clause-cluster
returns-clause-cluster c = c.each.invariant.cluster
