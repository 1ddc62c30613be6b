use Rattle.std.proofs.Common.{◌≡◌, Bool, drop}
use Rattle.sw_ring.specs.Cluster.{ids_of}
use Rattle.sw_ring.specs.Rules.{device_ids}
use Rattle.sw_server.specs.Passes.{RunPasses}
use Rattle.sw_server.proofs.passing.pass_over_all.Given as goal

abbrev pub invariant-each : goal.invariant-each
invariant-each g l = record {
  so_far : (is_whole : Bool) (after : g.row.L.Denot)
      → RunPasses (record { draws = g.L.Draw.draws; calls = g.L.Link.calls; losses = g.L.Link.losses; refusals = g.L.Draw.refusals; learnt = g.L.Link.learnt; may_be_silent = g.L.Link.may_be_silent }) l.cluster (device_ids (drop l.device-index l.device-items)) is_whole l.link after
      → RunPasses (record { draws = g.L.Draw.draws; calls = g.L.Link.calls; losses = g.L.Link.losses; refusals = g.L.Draw.refusals; learnt = g.L.Link.learnt; may_be_silent = g.L.Link.may_be_silent }) l.cluster (ids_of l.cluster) is_whole l.fn.link after;
  cluster : g.L.Link.cluster l.link ≡ g.L.Link.cluster l.fn.link;
}
