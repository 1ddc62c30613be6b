use Rattle.std.proofs.Common.{[], ap, refl}
use Rattle.sw_disk.proofs.Chains.{runs_none}
use Rattle.sw_diskfile.proofs.Kept.{always}
use Rattle.sw_message.specs.declared.reply.Reply.TheVariants.{SuffixList}
use Rattle.sw_objsrv.proofs.surveying.suffixes.Goals as goal

pub returns-clause-handles : goal.returns-clause-handles
returns-clause-handles g c =
    let floors = c.args.floors.now.floors in
    record {
      listed = [];
      are_listed = always (g.D.Disk.seen c.args.disk.now).told;
      surveyed = (floors, (refl, c.in_ok-hashes.ensures.ordered, c.in_ok-hashes.ensures.right), c.in_ok-hashes.hashes.items, c.in_ok-hashes.ensures.hashes, ap (λ hashes. SuffixList hashes) c.from.ensures);
      runs = runs_none g.D.Disk.seen g.D.Disk.left_since c.args.disk.now;
    }
