use Rattle.std.proofs.Common.{rules, []}
use Rattle.sw_pass.proofs.Opening.{starts, zeros}
use Rattle.sw_pass.proofs.table.StampTable.new.Goals as goal

pub of_words-requires : goal.of_words-requires
of_words-requires g c = starts g.C.OfCluster.cluster _ [] c.requires.rules (search rules) (zeros 66 _)
