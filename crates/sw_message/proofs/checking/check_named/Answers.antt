use Rattle.sw_message.specs.Spoil.{IsNamed}
use Rattle.sw_message.proofs.Spoils.{reads, spoiled}
use Rattle.sw_message.proofs.checking.check_named.Goals as goal

pub returns-clause-reads : goal.returns-clause-reads
returns-clause-reads c = reads (IsNamed c.args.name.now) c.args.policy.now c.args.stamp c.args.index c.args.bytes.now c.check_of_name.result c.check_of_name.ensures

pub returns-clause-spoiled : goal.returns-clause-spoiled
returns-clause-spoiled c = spoiled (IsNamed c.args.name.now) c.args.policy.now c.args.stamp c.args.index c.args.bytes.now c.check_of_name.result c.check_of_name.ensures
