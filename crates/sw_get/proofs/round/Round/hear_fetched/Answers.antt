-- No reply is a miss.
use Rattle.std.proofs.Common.{refl, sym, subst}
use Rattle.sw_message.specs.declared.miss.Miss.TheVariants.{NoReply}
use Rattle.sw_get.specs.Meaning.{IsFetched, Misses, Wanted}
use Rattle.sw_get.proofs.Replies.{told}
use Rattle.sw_get.proofs.round.Round.hear_fetched.Goals as goal

pub returns-in-None-clause-ok : goal.returns-in-None-clause-ok
returns-in-None-clause-ok c =
    let wanted : Wanted = record { policy = c.args.policy.now; name = c.args.name.now; stamp = c.args.stamp } in
    let others = c.args.self.now.facts.archives in
    let index = c.args.source.index in
    told c.miss.result c.args.self.now c.miss.new.self c.args.source (λ m. IsFetched wanted others index c.args.answer.now m) (Misses NoReply)
    (subst (λ answer. IsFetched wanted others index answer (Misses NoReply)) (sym c.in-None.is) refl) c.miss.ensures.ok
