-- The MD5 of each index is there.
use Rattle.std.proofs.Common.{◌<◌, ◌∙◌, [], length, ap, arith}
use Rattle.std.proofs.lemmas.List.{get_or_read}
use Rattle.sw_archive.proofs.Sealed.{length-put_seals, seal_at}
use Rattle.sw_put.proofs.subject.Subject.archive.Goals as goal
use Rattle.sw_put.proofs.subject.Subject.archive.Goals.{Start}

below : (c : Start) → c.args.index < length c.args.self.now.seals.items
below c =
    let subject = c.args.self.now in
    omega (arith, c.requires, ap length subject.sealed, length-put_seals subject.policy subject.stamp subject.name subject.object)

pub index-md5-requires : goal.index-md5-requires
index-md5-requires c = omega (arith, below (goal.at.index-md5-requires c).Start, c.args.self.now.seals.ok.0)

pub make_sealed_archive-requires-clause-seal : goal.make_sealed_archive-requires-clause-seal
make_sealed_archive-requires-clause-seal c =
    let subject = c.args.self.now in
    get_or_read subject.seals.items _ _ (below (goal.at.make_sealed_archive-requires-clause-seal c).Start) c.index-md5.ensures []
    ∙ seal_at subject.policy subject.stamp subject.name subject.object subject.seals.items c.args.index subject.sealed c.requires
