use Rattle.std.proofs.Common.{sym, subst}
use Rattle.sw_md5.specs.Side.{HaveOneLength}
use Rattle.archive_bench.proofs.Lengths.{one_length_of}
use Rattle.archive_bench.proofs.put.Put.digests.Goals as goal

pub digests_of-requires : goal.digests_of-requires
digests_of-requires c = subst HaveOneLength (sym c.requires) (one_length_of c.args.self.now)
