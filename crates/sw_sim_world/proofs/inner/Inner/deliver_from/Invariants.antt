-- How far the messages that wait were delivered.
use Rattle.std.proofs.Common.{◌≡◌, ◌≤◌}
use Rattle.sw_sim_exchange.specs.Work.{work_of}
use Rattle.sw_sim_world.specs.ScriptedWorld.{ScriptedWorld}
use Rattle.sw_sim_world.specs.Standing.{StandsFor, exchange_of}
use Rattle.sw_sim_world.proofs.Sweeps.{Sweeping}
use Rattle.sw_sim_world.proofs.inner.Inner.deliver_from.Given as goal

abbrev pub invariant-each : goal.invariant-each
invariant-each l = record {
  sweeps : (before : ScriptedWorld) → StandsFor l.initial.self before → Sweeping l.from before l.slot l.self l.initial.ends.items l.ends.items;
  reaches : l.from ≤ l.slot;
  work : work_of (exchange_of l.self) ≤ work_of (exchange_of l.initial.self);
  first : l.self.first ≡ l.initial.self.first;
  cluster : l.self.cluster ≡ l.initial.self.cluster;
}

abbrev pub decreases-each : goal.decreases-each
decreases-each l = work_of (exchange_of l.self)
