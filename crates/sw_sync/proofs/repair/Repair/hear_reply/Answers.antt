-- What the replies mean.
use Rattle.std.proofs.Common.{Some, refl, sym, subst}
use Rattle.sw_message.specs.declared.miss.Miss.TheVariants.{Gone}
use Rattle.sw_sync.specs.Sync.{IsFetched, Loses}
use Rattle.sw_sync.proofs.Replies.{other_means, told}
use Rattle.sw_sync.proofs.repair.Repair.hear_reply.Goals as goal

pub returns-in-Gone-clause-ok : goal.returns-in-Gone-clause-ok
returns-in-Gone-clause-ok c =
    let means = IsFetched c.args.cluster.now c.args.place.now c.args.self.now c.args.source.index in
    told c.lose.result (means (Some c.args.reply.now)) c.args.cluster.now.policy.k c.args.self.now c.lose.new.self c.args.source c.args.due.now.items c.lose.new.due.items Gone
    (subst (λ reply. means (Some reply) (Loses Gone)) (sym c.in-Gone.is) refl) c.lose.ensures.ok

pub returns-in_default-clause-ok : goal.returns-in_default-clause-ok
returns-in_default-clause-ok c =
    let means = IsFetched c.args.cluster.now c.args.place.now c.args.self.now c.args.source.index in
    told c.lose-in_default.result (means (Some c.args.reply.now)) c.args.cluster.now.policy.k c.args.self.now c.lose-in_default.new.self c.args.source c.args.due.now.items c.lose-in_default.new.due.items
    c.of.result (subst (λ how. means (Some c.args.reply.now) (Loses how)) (sym c.of.ensures)
    (other_means c.args.cluster.now c.args.place.now c.args.self.now c.args.source.index c.args.reply.now c.in_default.not-Fragment c.in_default.not-Gone)) c.lose-in_default.ensures.ok
