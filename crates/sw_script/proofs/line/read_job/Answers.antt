use Rattle.std.proofs.Common.{arith}
use Rattle.sw_script.proofs.ShortWords.{third_short}
use Rattle.sw_script.proofs.line.read_job.Goals as goal

pub read_longer_job-requires : goal.read_longer_job-requires
read_longer_job-requires c = omega (arith, c.requires, third_short _ c.args.text.now _ _ _ c.in-Three.ensures)
