use Rattle.std.proofs.Common.{◌≡◌, ◌++◌, List, length, take, drop, flat_map, sym, ap, ◌∙◌, arith}
use Rattle.std.proofs.Math.Seq.{take-append_seam}
use Rattle.std.proofs.lemmas.List.{take_all}
use Rattle.sw_message.specs.Targets.{ascending}
use Rattle.sw_message.specs.declared.target.Target.{Target}
use Rattle.sw_gather.specs.Choices.{listed_at}
use Rattle.sw_gather.proofs.Choosing.{lists_more}
use Rattle.sw_gather.proofs.choices.candidates.Goals as goal

pub loop-device-preserved : goal.loop-device-preserved
loop-device-preserved c =
    c.in_ok-push_listed.ensures ∙ ap (λ (targets : List Target). targets ++ listed_at c.args.total c.args.stamp c.loop-device-item.result) c.loop-device.invariant
    ∙ sym (lists_more c.args.total c.args.stamp c.args.lists.now c.loop-device.device-index c.loop-device-item.result c.loop-device-test.true c.loop-device-item.is)

pub returns : goal.returns
returns c =
    let sorted = c.sort_targets.new.targets in
    let items = c.loop-device.choices.items in
    let long : c.loop-device.choices.len ≡ length sorted = omega (arith, c.deref_mut.ensures.len, c.sort_targets.auto.targets) in
    ap (λ n. take n (sorted ++ drop (length sorted) items)) long ∙ take-append_seam sorted (drop (length sorted) items) ∙ c.sort_targets.ensures
    ∙ ap ascending (c.deref_mut.ensures.value ∙ c.loop-device.invariant ∙ ap (flat_map (listed_at c.args.total c.args.stamp)) (take_all c.loop-device.device-index c.args.lists.now c.loop-device-test.false))
