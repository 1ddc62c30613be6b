use Rattle.std.proofs.Common.{arith}
use Rattle.sw_script.proofs.ShortWords.{third_short}
use Rattle.sw_script.proofs.line.read_other_event.Goals as goal

pub read_longer_event-requires : goal.read_longer_event-requires
read_longer_event-requires c = omega (arith, c.requires, third_short _ c.args.line.now _ _ _ c.in-Three.ensures)
