use Rattle.std.proofs.Common.{◌∙◌}
use Rattle.sw_archive.proofs.Payloads.{payload_added}
use Rattle.sw_archive.proofs.payload.push_payload.Goals as goal

pub loop-segment-preserved : goal.loop-segment-preserved
loop-segment-preserved c =
    let steps = c.in-Some.ensures.steps in
    record {
      size = steps.0 ∙ c.loop-segment.invariant.size;
      added = payload_added c.args.code.k c.args.size _ _ c.in-Some.segment.now _ c.loop-segment.out.items c.push_fragment.new.out.items _ c.args.index
          c.requires.some c.loop-segment.invariant.size steps.1.0 steps.1.1 steps.1.2 c.in_ok-push_fragment.ensures c.loop-segment.invariant.added;
    }
