-- An archive is brought, or strays.
use Rattle.std.proofs.Common.{◌≡◌, subst}
use Rattle.std.specs.Prelude.{IfOk}
use Rattle.sw_message.specs.declared.miss.Miss.TheVariants.{Spoiled}
use Rattle.sw_message.specs.declared.spoil.Foreign.TheVariants.{Object}
use Rattle.sw_message.specs.declared.spoil.Spoil.TheVariants.{Foreign}
use Rattle.sw_get.specs.Meaning.{Brings, IsJoined, IsTaken, Meaning, Misses, with_fetched}
use Rattle.sw_get.specs.Round.{RoundModel}
use Rattle.sw_get.proofs.Replies.{told}
use Rattle.sw_get.proofs.round.Round.bring.Goals as goal

pub returns-then-branch-clause-ok : goal.returns-then-branch-clause-ok
returns-then-branch-clause-ok c =
    let taken = subst (λ taken. IsTaken c.args.policy.now c.args.self.now c.args.source c.args.archive taken c.take_archive.new.self) c.if-branch.true c.in_ok-take_archive.ensures.taken in
    (Brings c.args.archive, taken.0, taken.1)

pub returns-clause-ok : goal.returns-clause-ok
returns-clause-ok c =
    let taken = subst (λ taken. IsTaken c.args.policy.now c.args.self.now c.args.source c.args.archive taken c.take_archive.new.self) c.if-branch.false c.in_ok-take_archive.ensures.taken in
    let others = c.args.self.now.facts.archives in
    subst (λ (before : RoundModel). IfOk c.miss.result (λ _. (m : Meaning) × IsJoined c.args.policy.now others c.args.archive m × (c.miss.new.self.facts ≡ with_fetched before.facts c.args.source m))) taken.1
    (told c.miss.result c.take_archive.new.self c.miss.new.self c.args.source (λ m. IsJoined c.args.policy.now others c.args.archive m) (Misses (Spoiled (Foreign Object))) taken.0 c.miss.ensures.ok)
