use Rattle.std.proofs.Common.{List, sym, subst}
use Rattle.sw_archive.specs.Archive.{ArchiveModel}
use Rattle.sw_archive.specs.Put.{AreOfPut}
use Rattle.archive_bench.proofs.Fields.{of_put, read_of}
use Rattle.archive_bench.proofs.put.Put.read_back.Goals as goal

pub returns : goal.returns
returns c =
    let put = c.args.self.now in
    let of = subst (λ (archives : List ArchiveModel). AreOfPut put.policy put.stamp put.name put.object archives) (sym c.in_ok-assemble.ensures.from) (of_put put c.args.first put.policy.k) in
    read_of _ _ _ (c.in_ok-object.ensures.put put.policy put.stamp put.name put.object put.sound of)
