-- How far the tickets were given up.
use Rattle.std.proofs.Common.{◌≡◌}
use Rattle.sw_sim_world.specs.ScriptedWorld.{ScriptedWorld}
use Rattle.sw_sim_world.specs.Standing.{StandsFor}
use Rattle.sw_sim_world.specs.WorldInside.{inner_seen}
use Rattle.sw_sim_world.proofs.GivingUp.{GivingUp}
use Rattle.sw_sim_world.proofs.inner.Inner.give_up_each.Given as goal

abbrev pub invariant-tickets : goal.invariant-tickets
invariant-tickets l = record {
  gives : (before : ScriptedWorld) → StandsFor (inner_seen l.initial.self-inside) before → GivingUp l.number before l.ticket l.count (inner_seen l.initial.self-inside) (inner_seen l.self-inside) l.initial.ends.items l.ends.items;
  first : l.self-inside.first ≡ l.initial.self-inside.first;
  cluster : l.self-inside.nodes.cluster ≡ l.initial.self-inside.nodes.cluster;
}
