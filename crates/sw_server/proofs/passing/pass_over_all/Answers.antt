use Rattle.std.proofs.Common.{◌∙◌, arith, List, subst, sym, refl, true, false, Bool}
use Rattle.sw_ring.specs.Cluster.{ids_of}
use Rattle.sw_ring.specs.Rules.{device_ids}
use Rattle.sw_ring.specs.declared.device.Device.{Device}
use Rattle.sw_front.specs.Answering.{Ways}
use Rattle.sw_cell.proofs.Takings.{is_member}
use Rattle.sw_server.specs.Passes.{RunPasses, RunsPass}
use Rattle.sw_server.proofs.Rounds.{no_success, none_is_left, nowhere, one_more_ran, one_wanted}
use Rattle.sw_server.proofs.passing.pass_over_all.Given.{Over}
use Rattle.sw_server.proofs.passing.pass_over_all.Goals as goal

abbrev ways : (g : Over) → Ways g.row.L.Denot
ways g = record { draws = g.L.Draw.draws; calls = g.L.Link.calls; losses = g.L.Link.losses; refusals = g.L.Draw.refusals; learnt = g.L.Link.learnt; may_be_silent = g.L.Link.may_be_silent }

pub each-init : goal.each-init
each-init g c = record {
  so_far = λ is_whole after runs. subst (λ (items : List Device). RunPasses (ways g) c.args.cluster.now (device_ids items) is_whole c.args.link.now after) c.devices-device-items.ensures.listed runs;
  cluster = refl;
}

pub pass-requires-clause-member : goal.pass-requires-clause-member
pass-requires-clause-member g c = is_member c.args.cluster.now c.devices-device-items.result.now c.each.device-index nowhere c.devices-device-items.ensures.listed c.each-test.true

pub pass-requires-clause-cluster : goal.pass-requires-clause-cluster
pass-requires-clause-cluster g c = λ of tells. c.requires of (sym c.each.invariant.cluster ∙ tells)

pub returns-in_err-pass-clause-passes : goal.returns-in_err-pass-clause-passes
returns-in_err-pass-clause-passes g c =
    let items = c.devices-device-items.result.now in
    let runs = c.in_err-pass.ensures.runs in
    let device = (Rattle.std.specs.List.slice_index_or items c.each.device-index nowhere).id in
    let ran : RunsPass (ways g) c.args.cluster.now device false c.each.link c.pass.new.link = record { past = runs.0; is_run = runs.1; calls = runs.2; ended = λ whole. absurd (cc) } in
    subst (λ (is_whole : Bool). RunPasses (ways g) c.args.cluster.now (ids_of c.args.cluster.now) is_whole c.args.link.now c.pass.new.link) (sym (no_success c.from_residual.result c.from_residual.ensures.0))
    (c.each.invariant.so_far false c.pass.new.link (one_wanted (ways g) c.args.cluster.now items c.each.device-index c.each.link c.pass.new.link c.each-test.true ran))

pub returns-in_err-pass-clause-cluster : goal.returns-in_err-pass-clause-cluster
returns-in_err-pass-clause-cluster g c = c.in_err-pass.ensures.cluster ∙ c.each.invariant.cluster

pub each-preserved : goal.each-preserved
each-preserved g c =
    let items = c.devices-device-items.result.now in
    let runs = c.in_ok-pass.ensures.runs in
    let device = (Rattle.std.specs.List.slice_index_or items c.each.device-index nowhere).id in
    let ran : RunsPass (ways g) c.args.cluster.now device true c.each.link c.pass.new.link = record { past = runs.0; is_run = runs.1; calls = runs.2; ended = λ whole. (_, runs.3) } in
    record {
      so_far = λ is_whole after rest. c.each.invariant.so_far is_whole after (one_more_ran (ways g) c.args.cluster.now items c.each.device-index is_whole c.each.link c.pass.new.link after c.each-test.true ran rest);
      cluster = c.in_ok-pass.ensures.cluster ∙ c.each.invariant.cluster;
    }

pub returns-clause-passes : goal.returns-clause-passes
returns-clause-passes g c = c.each.invariant.so_far true c.each.link (none_is_left (ways g) c.args.cluster.now c.devices-device-items.result.now c.each.device-index c.each.link (omega (arith, c.each-test.false)))

pub returns-clause-cluster : goal.returns-clause-cluster
returns-clause-cluster g c = c.each.invariant.cluster
