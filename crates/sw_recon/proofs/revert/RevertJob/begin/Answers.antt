-- A revert that has handed out nothing stands for the empty transcript.
use Rattle.std.proofs.Common.{[]}
use Rattle.sw_recon.specs.Revert.{Begun}
use Rattle.sw_recon.proofs.Changes.{stands_begun}
use Rattle.sw_recon.proofs.revert.RevertJob.begin.Goals as goal

pub invariant_of-result : goal.invariant_of-result
invariant_of-result c =
    let begun : Begun = record { cluster = c.args.cluster.now; device = c.args.device; place = c.args.place } in
    (begun, [], stands_begun begun c.new.result (record { rules = c.part_power.ensures.rules; right = c.requires.right; member = c.requires.member; handoff = c.requires.handoff }) c.new.ensures)
