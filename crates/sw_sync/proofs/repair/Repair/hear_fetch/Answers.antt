-- No reply is a miss.
use Rattle.std.proofs.Common.{refl, sym, subst}
use Rattle.sw_message.specs.declared.miss.Miss.TheVariants.{NoReply}
use Rattle.sw_sync.specs.Sync.{IsFetched, Loses}
use Rattle.sw_sync.proofs.Replies.{told}
use Rattle.sw_sync.proofs.repair.Repair.hear_fetch.Goals as goal

pub returns-in-None-clause-ok : goal.returns-in-None-clause-ok
returns-in-None-clause-ok c =
    let means = IsFetched c.args.cluster.now c.args.place.now c.args.self.now c.args.source.index in
    told c.lose.result (means c.args.answer.now) c.args.cluster.now.policy.k c.args.self.now c.lose.new.self c.args.source c.args.due.now.items c.lose.new.due.items NoReply
    (subst (λ answer. means answer (Loses NoReply)) (sym c.in-None.is) refl) c.lose.ensures.ok
