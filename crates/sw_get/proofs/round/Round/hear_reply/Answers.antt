-- What the replies mean.
use Rattle.std.proofs.Common.{Some, refl, sym, subst}
use Rattle.sw_get.specs.Meaning.{IsFetched, Lacks, Misses, Wanted}
use Rattle.sw_get.proofs.Replies.{object_kept, other_means, told}
use Rattle.sw_get.proofs.round.Round.hear_reply.Goals as goal

pub returns-in-Gone-clause-ok : goal.returns-in-Gone-clause-ok
returns-in-Gone-clause-ok c =
    let wanted : Wanted = record { policy = c.args.policy.now; name = c.args.name.now; stamp = c.args.stamp } in
    let others = c.args.self.now.facts.archives in
    let index = c.args.source.index in
    told c.lack.result c.args.self.now c.lack.new.self c.args.source (λ m. IsFetched wanted others index (Some c.args.reply.now) m) (Lacks c.in-Gone.field-0)
    (subst (λ reply. IsFetched wanted others index (Some reply) (Lacks c.in-Gone.field-0)) (sym c.in-Gone.is) refl) c.lack.ensures.ok

pub returns-in_default-clause-ok : goal.returns-in_default-clause-ok
returns-in_default-clause-ok c =
    let wanted : Wanted = record { policy = c.args.policy.now; name = c.args.name.now; stamp = c.args.stamp } in
    let others = c.args.self.now.facts.archives in
    let index = c.args.source.index in
    told c.miss.result c.args.self.now c.miss.new.self c.args.source (λ m. IsFetched wanted others index (Some c.args.reply.now) m) (Misses c.of.result)
    (subst (λ miss. IsFetched wanted others index (Some c.args.reply.now) (Misses miss)) (sym c.of.ensures) (other_means wanted others index c.args.reply.now c.in_default.not-Fragment c.in_default.not-Gone))
    c.miss.ensures.ok

pub returns-in_default-clause-object : goal.returns-in_default-clause-object
returns-in_default-clause-object c = object_kept c.miss.result c.args.policy.now.k c.args.self.now c.miss.new.self c.args.source c.of.result c.miss.ensures.ok
