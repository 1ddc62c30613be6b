-- Bytes that were read mean an archive, or are a miss.
use Rattle.std.proofs.Common.{sym, subst}
use Rattle.sw_archive.specs.Archive.{ArchiveModel}
use Rattle.sw_message.specs.declared.miss.Miss.TheVariants as miss
use Rattle.sw_get.specs.Meaning.{IsJoined, IsRead, IsWanted, Misses, Wanted}
use Rattle.sw_get.proofs.Replies.{read_joined, read_spoil, told, weaker}
use Rattle.sw_get.proofs.round.Round.read.Goals as goal

pub returns-in_ok-archive-in-Ok-clause-ok : goal.returns-in_ok-archive-in-Ok-clause-ok
returns-in_ok-archive-in-Ok-clause-ok c =
    let wanted : Wanted = record { policy = c.args.policy.now; name = c.args.name.now; stamp = c.args.stamp } in
    let others = c.args.self.now.facts.archives in
    let bytes = c.args.bytes.now in
    let archive = c.in_ok-archive-in-Ok.archive in
    weaker c.bring.result c.args.self.now c.bring.new.self c.args.source (λ m. IsJoined c.args.policy.now others archive m) (λ m. IsRead wanted others c.args.source.index bytes m)
    (read_joined wanted others c.args.source.index bytes archive (subst (λ (a : ArchiveModel). IsWanted wanted c.args.source.index bytes a) (sym c.in_ok-archive-in-Ok.ensures) c.in-Ok.ensures.found))
    c.bring.ensures.ok

pub returns-in-Err-clause-ok : goal.returns-in-Err-clause-ok
returns-in-Err-clause-ok c =
    let wanted : Wanted = record { policy = c.args.policy.now; name = c.args.name.now; stamp = c.args.stamp } in
    let others = c.args.self.now.facts.archives in
    let spoil = c.in-Err.spoil in
    told c.miss.result c.args.self.now c.miss.new.self c.args.source (λ m. IsRead wanted others c.args.source.index c.args.bytes.now m) (Misses (miss.Spoiled spoil))
    (read_spoil wanted others c.args.source.index c.args.bytes.now spoil c.in-Err.ensures.refused)
    c.miss.ensures.ok
