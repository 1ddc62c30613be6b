use Rattle.std.proofs.Common.{◌+◌, ◌∷◌, ◌++◌, [], List, get_or, take, sym, ap, ◌∙◌}
use Rattle.sw_message.specs.declared.target.Target.{Target}
use Rattle.sw_quorum.specs.Targets.{targets_from}
use Rattle.sw_sync.proofs.Targets.{targets_more}
use Rattle.sw_sync.proofs.planning.targets_of.Goals as goal

pub loop-device-preserved : goal.loop-device-preserved
loop-device-preserved c =
    let i = c.loop-device.device-index in
    let devices = c.args.devices.now in
    record {
      front = c.in_ok-push.ensures.items
          ∙ ap (λ (targets : List Target). targets ++ record { index = c.loop-device.index; device = get_or devices i 0 } ∷ []) c.loop-device.invariant.front
          ∙ ap (λ n. targets_from 0 (take i devices) ++ record { index = n; device = get_or devices i 0 } ∷ []) c.loop-device.invariant.index
          ∙ sym (targets_more devices i 0 c.loop-device-test.true);
      index = ap (λ n. n + 1) c.loop-device.invariant.index;
    }
