-- How far the operation has run out.
use Rattle.std.proofs.Common.{◌≡◌}
use Rattle.sw_sim_exchange.specs.Work.{work_of}
use Rattle.sw_sim_world.specs.ScriptedWorld.{ScriptedWorld}
use Rattle.sw_sim_world.specs.Standing.{StandsFor, exchange_of}
use Rattle.sw_sim_world.proofs.RunningOut.{RunningOut}
use Rattle.sw_sim_world.proofs.inner.Inner.run_out.Given as goal

abbrev pub invariant-rounds : goal.invariant-rounds
invariant-rounds l = record {
  runs : (before : ScriptedWorld) → StandsFor l.fn.self before → RunningOut l.number before l.self l.fn.ends.items l.ends.items;
  cluster : l.self.cluster ≡ l.fn.self.cluster;
}

abbrev pub decreases-rounds : goal.decreases-rounds
decreases-rounds l = work_of (exchange_of l.self)
