use Rattle.std.proofs.Common.{Some, None, refl, sym, arith}
use Rattle.sw_script.proofs.Numbers.{stamp_read}
use Rattle.sw_script.proofs.word.read_stamp.Goals as goal

pub returns-in-Some : goal.returns-in-Some
returns-in-Some c = sym (stamp_read c.args.word.now (Some c.in-Some.stamp) (omega arith) c.in-Some.ensures.found c.in-Some.ensures.reads)

pub returns-in-None : goal.returns-in-None
returns-in-None c = (sym (stamp_read c.args.word.now None tt tt c.in-None.ensures.reads), refl)
