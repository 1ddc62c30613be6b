use Rattle.std.proofs.Common.{◌≡◌, ◌∙◌}
use Rattle.sw_lab.proofs.Names.{only_memory}
use Rattle.sw_lab.specs.Workload.{name_of}
use Rattle.sw_lab.proofs.job.name_of.Goals as goal

pub only_memory-requires : goal.only_memory-requires
only_memory-requires c =
    let text : c.as_bytes.result.now ≡ (name_of c.args.number).object = c.as_bytes.ensures.value ∙ c.in_ok-object.ensures.ok in
    only_memory c.args.number c.in-Err.fault (λ other. rw text at (c.in-Err.ensures.fault other))
