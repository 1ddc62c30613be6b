-- A device is asked.
use Rattle.std.proofs.Common.{◌≡◌, List, ◌∷◌, sym, ap, subst, ◌∙◌}
use Rattle.sw_message.specs.Transcript.{Gave, Step}
use Rattle.sw_message.specs.declared.message.Msg.TheVariants as message
use Rattle.sw_get.specs.Get.{Begun}
use Rattle.sw_get.specs.GetInside.{get_seen}
use Rattle.sw_get.specs.Round.{RoundModel}
use Rattle.sw_get.specs.Standing.{GetModel, IsReady, Stands, going_of}
use Rattle.sw_get.specs.declared.round_end.Going.TheVariants as going
use Rattle.sw_get.proofs.Handings.{may_ask, stands_ask}
use Rattle.sw_get.proofs.Readings.{with_read}
use Rattle.sw_get.proofs.get.GetOp.ask.Goals as goal

-- what is required, by the fields
ready : (c : goal.After-place-1) → IsReady (get_seen c.self.inside)
ready c = subst IsReady (sym c.self.view_is) c.requires.ready

goes : (c : goal.After-place-1) → going_of (get_seen c.self.inside) ≡ going.Ask c.args.device
goes c = ap going_of c.self.view_is ∙ c.requires.goes

stood : (c : goal.After-place-1) (begun : Begun) (past : List Step) → Stands (get_seen c.self.inside) begun past
    → Stands (with_read (get_seen c.self.inside) c.self.inside.target c.ask.new.self.facts c.ask.new.self.object c.hand_out.new.self) begun
    (Gave (record { ticket = c.in_ok-ticket.ticket; device = c.args.device; msg = message.Ask c.self.inside.place }) ∷ past)
stood c begun past stands =
    stands_ask (get_seen c.self.inside) begun past stands (ready c) c.in_ok-ticket.ticket c.in_ok-ticket.ensures.ticket c.args.device (goes c) c.hand_out.new.self
    (λ sent is. c.in_ok-ticket.ensures.goes_with past sent stands.goes_with is) c.in_ok-ticket.ensures.errands c.in_ok-ticket.ensures.unread
    c.ask.new.self.facts c.ask.new.self.object (ap (λ (round : RoundModel). round.facts) c.ask.ensures) (ap (λ (round : RoundModel). round.object) c.ask.ensures)

pub invariant_of-self-2 : goal.invariant_of-self-2
invariant_of-self-2 c = let known = c.self.invariant in (known.0, _, stood c known.0 known.1 known.2)

pub returns-clause-hands : goal.returns-clause-hands
returns-clause-hands c = λ begun past stands.
    may_ask (get_seen c.self.inside) begun past (subst (λ (get : GetModel). Stands get begun past) (sym c.self.view_is) stands) (ready c)
    c.in_ok-ticket.ticket c.in_ok-ticket.ensures.ticket c.args.device (goes c)

pub returns-clause-goes_on : goal.returns-clause-goes_on
returns-clause-goes_on c = λ begun past stands. stood c begun past (subst (λ (get : GetModel). Stands get begun past) (sym c.self.view_is) stands)
