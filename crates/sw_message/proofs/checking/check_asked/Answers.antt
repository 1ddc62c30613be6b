use Rattle.sw_message.specs.Spoil.{IsOfPlace}
use Rattle.sw_message.proofs.Spoils.{reads, spoiled}
use Rattle.sw_message.proofs.checking.check_asked.Goals as goal

pub returns-clause-reads : goal.returns-clause-reads
returns-clause-reads c = reads (IsOfPlace c.args.cluster.now c.args.place.now) c.args.cluster.now.policy c.args.stamp c.args.index c.args.bytes.now c.check_of_place.result c.check_of_place.ensures

pub returns-clause-spoiled : goal.returns-clause-spoiled
returns-clause-spoiled c = spoiled (IsOfPlace c.args.cluster.now c.args.place.now) c.args.cluster.now.policy c.args.stamp c.args.index c.args.bytes.now c.check_of_place.result c.check_of_place.ensures
