use Rattle.std.proofs.Common.{◌∙◌}
use Rattle.sw_archive.proofs.Labels.{put_written}
use Rattle.sw_archive.proofs.making.make_unsealed.Goals as goal

pub returns : goal.returns
returns c =
    put_written c.args.policy.now c.args.stamp c.args.name.now c.args.object.now c.args.index c.from-code.result.k c.segment-size.result c.as_slice-body.result.now
    c.in_ok-bytes.bytes.items _ c.from-code.ensures.0 c.segment-size.ensures.value (c.as_slice-body.ensures ∙ c.body.ensures.body) c.in_ok-bytes.ensures c.in_ok-push_payload.ensures
