-- Another round begins.
use Rattle.std.proofs.Common.{◌≡◌, ◌+◌, ◌<◌, List, [], ◌∷◌, ◌++◌, length, Some, sym, ap, subst, ◌∙◌}
use Rattle.std.specs.List.{slice_get}
use Rattle.sw_message.specs.Transcript.{Gave, Step}
use Rattle.sw_message.specs.declared.message.Msg.TheVariants as message
use Rattle.sw_get.specs.Get.{Begun, most_kept}
use Rattle.sw_get.specs.GetInside.{get_seen}
use Rattle.sw_get.specs.Round.{Facts, RoundModel, all_devices, no_facts}
use Rattle.sw_get.specs.Standing.{Findings, GetModel, IsReady, Stands, going_of}
use Rattle.sw_get.specs.declared.round_end.Going.TheVariants as going
use Rattle.sw_get.specs.declared.round_end.KeptEvent.{KeptEvent}
use Rattle.sw_get.proofs.Handings.{may_first, stands_first}
use Rattle.sw_get.proofs.get.GetOp.begin_round.Goals as goal

-- what is required, by the fields
record Required (c : goal.After-place-1) : Type 0 where
  ready : IsReady (get_seen c.self.inside)
  goes : going_of (get_seen c.self.inside) ≡ going.Keep c.args.event
  few : length c.self.inside.events.items < most_kept
  first : slice_get (all_devices (get_seen c.self.inside).subject.devices) 0 ≡ Some c.first_device-device.result

required : (c : goal.After-place-1) → Required c
required c = record {
  ready = subst IsReady (sym c.self.view_is) c.requires.ready;
  goes = ap going_of c.self.view_is ∙ c.requires.goes;
  few = subst (λ (get : GetModel). length get.findings.events < most_kept) (sym c.self.view_is) c.requires.few;
  first = ap (λ (get : GetModel). slice_get (all_devices get.subject.devices) 0) c.self.view_is ∙ c.first_device-device.ensures;
}

-- what it has found then
abbrev findings : goal.After-place-1 → Findings
findings c = record { target = c.self.inside.target; from = c.self.inside.target; events = c.push_reserved.new.self.items; facts = c.ask.new.self.facts }

findings_are : (c : goal.After-place-1) → findings c ≡ record {
  target = c.self.inside.target;
  from = c.self.inside.target;
  events = c.self.inside.events.items ++ c.args.event ∷ [];
  facts = record no_facts { asked = 1 };
}
findings_are c =
    let events = c.push_reserved.ensures.items ∙ ap (λ these. these ++ c.args.event ∷ []) c.reserve.ensures.items in
    let facts = ap (λ (round : RoundModel). round.facts) c.ask.ensures ∙ ap (λ (round : RoundModel). record round.facts { asked = round.facts.asked + 1 }) c.new.ensures in
    ap (λ (these : List KeptEvent). record (findings c) { events = these }) events
    ∙ ap (λ (these : Facts). record { target = c.self.inside.target; from = c.self.inside.target; events = c.self.inside.events.items ++ c.args.event ∷ []; facts = these }) facts

stood : (c : goal.After-place-1) (begun : Begun) (past : List Step) → Stands (get_seen c.self.inside) begun past
    → Stands (record (get_seen c.self.inside) { findings = findings c; object = c.ask.new.self.object; mailbox = c.hand_out.new.self }) begun
    (Gave (record { ticket = c.in_ok-ticket.ticket; device = c.first_device-device.result; msg = message.Ask c.self.inside.place }) ∷ past)
stood c begun past stands =
    let known = required c in
    stands_first (get_seen c.self.inside) begun past stands known.ready c.in_ok-ticket.ticket c.in_ok-ticket.ensures.ticket c.first_device-device.result c.args.event known.goes known.few known.first
    c.hand_out.new.self (λ sent is. c.in_ok-ticket.ensures.goes_with past sent stands.goes_with is) c.in_ok-ticket.ensures.errands c.in_ok-ticket.ensures.unread
    (findings c) c.ask.new.self.object (findings_are c)

pub invariant_of-self-2 : goal.invariant_of-self-2
invariant_of-self-2 c = let known = c.self.invariant in (known.0, _, stood c known.0 known.1 known.2)

pub returns-clause-hands : goal.returns-clause-hands
returns-clause-hands c = λ begun past stands.
    let known = required c in
    may_first (get_seen c.self.inside) begun past (subst (λ (get : GetModel). Stands get begun past) (sym c.self.view_is) stands) known.ready
    c.in_ok-ticket.ticket c.in_ok-ticket.ensures.ticket c.first_device-device.result c.args.event known.goes known.few known.first

pub returns-clause-goes_on : goal.returns-clause-goes_on
returns-clause-goes_on c = λ begun past stands. stood c begun past (subst (λ (get : GetModel). Stands get begun past) (sym c.self.view_is) stands)
