use Rattle.std.proofs.Common.{◌≡◌, ◌≤◌, ◌<◌, ℕ, length, slice_get, Some, None, refl, ap, subst, ◌∙◌, arith}
use Rattle.sw_sim_exchange.specs.Exchange.{slot_of}
use Rattle.sw_sim_exchange.specs.Work.{work_of}
use Rattle.sw_sim_exchange.specs.declared.operating.Operating.{Operating}
use Rattle.sw_sim_world.specs.ScriptedWorld.{ScriptedWorld}
use Rattle.sw_sim_world.specs.Standing.{StandsFor, WorldModel, exchange_of}
use Rattle.sw_sim_world.specs.WorldInside.{inner_seen}
use Rattle.sw_sim_world.specs.declared.inner.Inner.TheInside.{Inside}
use Rattle.sw_sim_world.proofs.GivingUp.{GivingUp, giving-fewer, giving-first, giving-last, one-given}
use Rattle.sw_sim_world.proofs.Insides.{stood, within-inside}
use Rattle.sw_sim_world.proofs.Slots.{at-numbered}
use Rattle.sw_sim_world.proofs.HasTold.{IsThere, operation-of, told-so}
use Rattle.sw_sim_world.proofs.inner.Inner.give_up_each.Goals as goal

-- so many messages were handed out
counted : (inside : Inside) (before : ScriptedWorld) (number count : ℕ) → ((kept : Operating) → slice_get inside.exchange.operations (slot_of number) ≡ Some kept → count ≡ length kept.tickets) → (at : IsThere (inner_seen inside) before number) → count ≡ length at.kept.tickets
counted inside before number count says at = says at.kept (at-numbered inside.exchange.operations number at.kept at.here)

pub tickets-init : goal.tickets-init
tickets-init c =
    let inside = c.self.inside in
    record {
      gives = λ before stands.
          let at = operation-of (inner_seen inside) before stands c.args.number c.requires.number.0 (within-inside inside c.args.self.now c.self.view_is c.args.number c.requires.number.1) in
          giving-first (inner_seen inside) before stands c.args.number at c.handed_out-count.result (counted inside before c.args.number c.handed_out-count.result c.handed_out-count.ensures at) c.args.ends.now.items;
      first = refl;
      cluster = refl;
    }

pub tell-requires : goal.tell-requires
tell-requires c =
    let giving = c.tickets.invariant.gives c.requires.stands.0 (stood c.self.inside c.args.self.now c.self.view_is c.requires.stands.0 c.requires.stands.1) in
    (c.requires.number.0, omega (arith, giving.as_many, within-inside c.self.inside c.args.self.now c.self.view_is c.args.number c.requires.number.1))

pub returns-in_err-tell-clause-first : goal.returns-in_err-tell-clause-first
returns-in_err-tell-clause-first c = c.tickets.invariant.first ∙ ap (λ (model : WorldModel). model.first) c.self.view_is

pub returns-in_err-tell-clause-cluster : goal.returns-in_err-tell-clause-cluster
returns-in_err-tell-clause-cluster c = c.tickets.invariant.cluster ∙ ap (λ (model : WorldModel). model.cluster) c.self.view_is

pub tickets-preserved : goal.tickets-preserved
tickets-preserved c =
    let inside = c.tickets.self-inside in
    let number = c.args.number in
    let ticket = c.tickets.ticket in
    let tells = c.in_ok-tell.ensures in
    record {
      gives = λ before stands.
          let giving = c.tickets.invariant.gives before stands in
          let within : number ≤ length inside.exchange.operations = omega (arith, giving.as_many, within-inside c.self.inside c.args.self.now c.self.view_is number c.requires.number.1) in
          let at = operation-of (inner_seen inside) giving.now giving.led.stands number c.requires.number.0 within in
          let found = at-numbered inside.exchange.operations number at.kept at.here in
          one-given number before ticket c.handed_out-count.result (inner_seen c.self.inside) (inner_seen inside) c.args.ends.now.items c.tickets.ends.items giving (record (inner_seen inside) { letters = c.tell.new.self.letters; operations = c.tell.new.self.operations })
          c.tell.new.ends.items at.kept at.here
          (told-so number ticket None at.kept (inner_seen inside) inside.exchange c.tell.new.self c.tickets.ends.items c.tell.new.ends.items (tells.over at.kept found) (λ begun past is none. tells.closed at.kept begun past found is none)
          (λ begun past sent is some. tells.heard at.kept begun past sent found is some))
          c.tickets-test.true;
      first = c.tickets.invariant.first;
      cluster = c.tickets.invariant.cluster;
    }

-- all were given up
last : (c : goal.After-tickets) (before : ScriptedWorld) → StandsFor c.args.self.now before
    → GivingUp c.args.number before c.handed_out-count.result c.handed_out-count.result (inner_seen c.self.inside) (inner_seen c.tickets.self-inside) c.args.ends.now.items c.tickets.ends.items
last c before stands =
    let all : c.tickets.ticket ≡ c.handed_out-count.result = omega (arith, c.tickets-test.false, c.tickets.auto.ticket-end) in
    subst (λ (ticket : ℕ). GivingUp c.args.number before ticket c.handed_out-count.result (inner_seen c.self.inside) (inner_seen c.tickets.self-inside) c.args.ends.now.items c.tickets.ends.items) all
    (c.tickets.invariant.gives before (stood c.self.inside c.args.self.now c.self.view_is before stands))

pub returns-clause-leads : goal.returns-clause-leads
returns-clause-leads c = λ before stands.
    let inside = c.self.inside in
    let stands_inside = stood inside c.args.self.now c.self.view_is before stands in
    let at = operation-of (inner_seen inside) before stands_inside c.args.number c.requires.number.0 (within-inside inside c.args.self.now c.self.view_is c.args.number c.requires.number.1) in
    giving-last (inner_seen inside) before stands_inside c.args.number at c.handed_out-count.result (counted inside before c.args.number c.handed_out-count.result c.handed_out-count.ensures at)
    (inner_seen c.tickets.self-inside) c.args.ends.now.items c.tickets.ends.items (last c before stands)

pub returns-clause-work : goal.returns-clause-work
returns-clause-work c =
    subst (λ (now : WorldModel). work_of (exchange_of (inner_seen c.tickets.self-inside)) ≤ work_of (exchange_of now)) c.self.view_is (last c c.requires.stands.0 c.requires.stands.1).work

pub returns-clause-fewer : goal.returns-clause-fewer
returns-clause-fewer c = λ before stands some.
    let inside = c.self.inside in
    let stands_inside = stood inside c.args.self.now c.self.view_is before stands in
    let at = operation-of (inner_seen inside) before stands_inside c.args.number c.requires.number.0 (within-inside inside c.args.self.now c.self.view_is c.args.number c.requires.number.1) in
    subst (λ (now : WorldModel). work_of (exchange_of (inner_seen c.tickets.self-inside)) < work_of (exchange_of now)) c.self.view_is
    (giving-fewer (inner_seen inside) before stands_inside c.args.number at c.handed_out-count.result (counted inside before c.args.number c.handed_out-count.result c.handed_out-count.ensures at)
    (inner_seen c.tickets.self-inside) c.args.ends.now.items c.tickets.ends.items (last c before stands) some)

pub returns-clause-first : goal.returns-clause-first
returns-clause-first c = c.tickets.invariant.first ∙ ap (λ (model : WorldModel). model.first) c.self.view_is

pub returns-clause-cluster : goal.returns-clause-cluster
returns-clause-cluster c = c.tickets.invariant.cluster ∙ ap (λ (model : WorldModel). model.cluster) c.self.view_is
