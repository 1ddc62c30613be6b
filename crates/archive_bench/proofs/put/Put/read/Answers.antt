use Rattle.std.proofs.Common.{ℕ, List, sym, subst}
use Rattle.sw_archive.specs.Archive.{IsArchive}
use Rattle.sw_archive.proofs.Archives.{put_is_archive}
use Rattle.archive_bench.specs.Archives.{fields_at}
use Rattle.archive_bench.proofs.put.Put.read.Goals as goal

pub returns : goal.returns
returns c =
    let put = c.args.self.now in
    let index = c.args.index in
    c.read_archive.ensures.reads (fields_at put index)
    (subst (λ (bytes : List ℕ). IsArchive bytes (fields_at put index)) (sym c.requires.bytes) (put_is_archive put.policy put.stamp put.name put.object index put.sound c.requires.index))
