-- The answer of a device is read.
use Rattle.std.proofs.Common.{List, sym, ap, subst, ◌∙◌}
use Rattle.sw_message.specs.Transcript.{Step}
use Rattle.sw_get.specs.Get.{Begun}
use Rattle.sw_get.specs.GetInside.{get_seen}
use Rattle.sw_get.specs.Meaning.{asked_meaning, with_asked}
use Rattle.sw_get.specs.Round.{RoundModel}
use Rattle.sw_get.specs.Standing.{BeginsWith, GetModel, Stands}
use Rattle.sw_get.specs.declared.errand.Errand.TheVariants.{Ask}
use Rattle.sw_get.proofs.Readings.{begins, stands_asked, with_read}
use Rattle.sw_get.proofs.get.GetOp.read_asked.Goals as goal

stood : (c : goal.After-hear_asked) (begun : Begun) (past : List Step) → Stands (get_seen c.self.inside) begun past
    → Stands (with_read (get_seen c.self.inside) c.target_asked-self-inside.result c.hear_asked.new.self.facts c.hear_asked.new.self.object c.take_first.new.self) begun past
stood c begun past stands =
    let get = get_seen c.self.inside in
    let starts : BeginsWith get.mailbox.unread (Ask c.args.device) = subst (λ (get : GetModel). BeginsWith get.mailbox.unread (Ask c.args.device)) (sym c.self.view_is) c.requires in
    stands_asked get begun past stands c.in-Some.answer c.take_first.new.self.unread c.target_asked-self-inside.result c.hear_asked.new.self.facts c.hear_asked.new.self.object c.take_first.new.self
    c.in-Some.ensures.1 c.args.device (begins get.mailbox.unread (Ask c.args.device) c.in-Some.field-0-0 c.in-Some.answer c.take_first.new.self.unread starts c.in-Some.ensures.0)
    c.target_asked-self-inside.ensures
    (ap (λ (round : RoundModel). round.facts) c.hear_asked.ensures ∙ ap (λ (round : RoundModel). with_asked round.facts c.args.device (asked_meaning c.in-Some.answer)) c.in_ok-make_room.ensures.ok)
    (ap (λ (round : RoundModel). round.object) c.hear_asked.ensures ∙ ap (λ (round : RoundModel). round.object) c.in_ok-make_room.ensures.ok)

pub invariant_of-self-in-Some : goal.invariant_of-self-in-Some
invariant_of-self-in-Some c = let known = c.self.invariant in (known.0, known.1, stood c known.0 known.1 known.2)

pub returns-in-Some-clause-stands : goal.returns-in-Some-clause-stands
returns-in-Some-clause-stands c = λ begun past stands. stood c begun past (subst (λ (get : GetModel). Stands get begun past) (sym c.self.view_is) stands)
