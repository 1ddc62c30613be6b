use Rattle.std.proofs.Common.{◌∙◌}
use Rattle.sw_command.proofs.Faults.{some_fault}
use Rattle.sw_command.proofs.reading.matches_in.Goals as goal

pub returns : goal.returns
returns c = record {
  are = some_fault _ c.in-Err.error (c.in-Err.ensures.kinds c.requires) (λ wants. c.in_default.not-OutOfMemory (c.kind.ensures ∙ wants));
  matches = tt;
}
