use Rattle.std.proofs.Common.{arith}
use Rattle.sw_types.proofs.HexTexts.{bytes_of_hex-short}
use Rattle.sw_script.proofs.word.read_object.Goals as goal

-- a short word spells a body that is not too long
pub unreachable-requires : goal.unreachable-requires
unreachable-requires c = omega (arith, c.in-Err.ensures.0, bytes_of_hex-short c.args.word.now c.in-Ok.body c.in-Ok.ensures.read)
