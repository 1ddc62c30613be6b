use Rattle.std.proofs.Common.{◌++◌, codes, ap, ◌∙◌}
use Rattle.sw_sim_text.proofs.end.add_unanswered.Goals as goal

pub returns : goal.returns
returns c =
    let text = c.as_bytes.ensures.value ∙ c.in_ok-text.ensures.ok ∙ ap (λ devices. codes "unanswered " ++ devices) c.in_ok-devices.ensures in
    rw text at c.extend_from_slice.ensures.ok
