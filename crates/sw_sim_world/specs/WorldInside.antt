-- A world by its fields.
use Rattle.sw_sim_world.specs.Standing.{WorldModel}
use Rattle.sw_sim_world.specs.declared.inner.Inner.TheInside.{Inside}

abbrev pub inner_seen : Inside → WorldModel
inner_seen inner = record {
  cluster = inner.nodes.cluster;
  nodes = inner.nodes.nodes;
  down = inner.nodes.down;
  is_wanting = inner.nodes.is_wanting;
  clock = inner.clock;
  last = inner.last;
  letters = inner.exchange.letters;
  first = inner.first;
  operations = inner.exchange.operations;
}
