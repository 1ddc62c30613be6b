use Rattle.std.proofs.Common.{◌≡◌, ◌≢◌, ◌↔◌, ℕ, ◌<◌, ◌≤◌, Bool, true, false, true≢false, List, [], length, slice_get, Some, None, sym, ap, subst, ◌∙◌, arith}
use Rattle.sw_sim_exchange.specs.Exchange.{slot_of}
use Rattle.sw_sim_exchange.specs.declared.letter.Letter.{Letter}
use Rattle.sw_sim_exchange.specs.declared.operating.Operating.{Operating}
use Rattle.sw_sim_world.specs.ScriptedWorld.{IsOver, ScriptedWorld, open_tickets}
use Rattle.sw_sim_world.specs.Standing.{StandsFor, WorldModel}
use Rattle.sw_sim_world.specs.WorldInside.{inner_seen}
use Rattle.sw_sim_world.specs.declared.inner.Inner.TheInside.{Inside}
use Rattle.sw_sim_world.proofs.Insides.{within-inside}
use Rattle.sw_sim_world.proofs.Slots.{at-numbered}
use Rattle.sw_sim_world.proofs.RunningOut.{begins-run, is-over, is-running, one-round, ran-out, some-open, still-within}
use Rattle.sw_sim_world.proofs.HasTold.{operation-of}
use Rattle.sw_sim_world.proofs.inner.Inner.run_out.Goals as goal

-- what the exchange says of whether the operation is over
module _ (inside : Inside) (now : WorldModel) (view : inner_seen inside ≡ now) (scripted : ScriptedWorld) (stands : StandsFor now scripted) (number : ℕ) (some : 0 < number) (within : number ≤ length now.operations) (result : Bool)
    (says : (kept : Operating) → slice_get inside.exchange.operations (slot_of number) ≡ Some kept → (result ≡ true) ↔ (kept.op ≡ None)) where
  -- by what is kept of it
  says-so : (result ≡ true) ↔ ((operation-of now scripted stands number some within).kept.op ≡ None)
  says-so =
      let at = operation-of now scripted stands number some within in
      says at.kept (subst (λ (model : WorldModel). slice_get model.operations (slot_of number) ≡ Some at.kept) (sym view) (at-numbered now.operations number at.kept at.here))

  -- where it is, it is over in the world of the script
  over-so : result ≡ true → IsOver number scripted
  over-so over = is-over now scripted stands number (operation-of now scripted stands number some within) (says-so.0 over)

  -- where it is not, some of its tickets are open
  open-so : result ≡ false → open_tickets number scripted ≢ []
  open-so goes =
      let at = operation-of now scripted stands number some within in
      some-open now scripted stands number at (is-running now scripted stands number at (λ none. true≢false (sym (says-so.1 none) ∙ goes)))

pub rounds-init : goal.rounds-init
rounds-init c = record {
  runs = λ before stands.
      begins-run c.args.number before c.args.self.now stands c.args.first c.requires.own c.deliver_from.new.self c.args.ends.now.items c.deliver_from.new.ends.items (c.in_ok-deliver_from.ensures.leads before stands);
  cluster = c.deliver_from.ensures.cluster;
}

pub is_over-requires : goal.is_over-requires
is_over-requires c =
    let stands = c.requires.stands in
    let run = c.rounds.invariant.runs stands.0 stands.1 in (
      c.requires.number.0,
      within-inside c.self.inside c.rounds.self c.self.view_is c.args.number (still-within c.args.number stands.0 c.args.self.now stands.1 c.rounds.self c.args.ends.now.items c.rounds.ends.items run c.requires.number.1),
    )

pub give_up_each-requires-clause-stands : goal.give_up_each-requires-clause-stands
give_up_each-requires-clause-stands c = let run = c.rounds.invariant.runs c.requires.stands.0 c.requires.stands.1 in (run.now, run.led.stands)

pub give_up_each-requires-clause-number : goal.give_up_each-requires-clause-number
give_up_each-requires-clause-number c =
    let stands = c.requires.stands in
    (c.requires.number.0, still-within c.args.number stands.0 c.args.self.now stands.1 c.rounds.self c.args.ends.now.items c.rounds.ends.items (c.rounds.invariant.runs stands.0 stands.1) c.requires.number.1)

pub returns-in_err-give_up_each-clause-cluster : goal.returns-in_err-give_up_each-clause-cluster
returns-in_err-give_up_each-clause-cluster c = c.give_up_each.ensures.cluster ∙ c.rounds.invariant.cluster

pub deliver_from-requires-in-rounds : goal.deliver_from-requires-in-rounds
deliver_from-requires-in-rounds c =
    let run = c.rounds.invariant.runs c.requires.stands.0 c.requires.stands.1 in
    let given_up = c.in_ok-give_up_each.ensures.leads run.now run.led.stands in
    record { stands = (given_up.after, given_up.stands) }

pub rounds-smaller : goal.rounds-smaller
rounds-smaller c =
    let stands = c.requires.stands in
    let run = c.rounds.invariant.runs stands.0 stands.1 in
    let within = still-within c.args.number stands.0 c.args.self.now stands.1 c.rounds.self c.args.ends.now.items c.rounds.ends.items run c.requires.number.1 in
    let some = open-so c.self.inside c.rounds.self c.self.view_is run.now run.led.stands c.args.number c.requires.number.0 within c.is_over.result c.is_over.ensures c.rounds-test.true in
    omega (arith, c.in_ok-give_up_each.ensures.fewer run.now run.led.stands some, c.in_ok-deliver_from-2.ensures.work)

pub rounds-preserved : goal.rounds-preserved
rounds-preserved c = record {
  runs = λ before stands.
      let run = c.rounds.invariant.runs before stands in
      let within = still-within c.args.number before c.args.self.now stands c.rounds.self c.args.ends.now.items c.rounds.ends.items run c.requires.number.1 in
      let some = open-so c.self.inside c.rounds.self c.self.view_is run.now run.led.stands c.args.number c.requires.number.0 within c.is_over.result c.is_over.ensures c.rounds-test.true in
      let given_up = c.in_ok-give_up_each.ensures.leads run.now run.led.stands in
      let same : c.letters-count.result.now ≡ c.rounds.self.letters = c.letters-count.ensures ∙ ap (λ (model : WorldModel). model.letters) c.self.view_is in
      one-round c.args.number before c.rounds.self c.give_up_each.new.self c.args.ends.now.items c.rounds.ends.items c.give_up_each.new.ends.items run some given_up
      (length c.letters-count.result.now) (ap (λ (letters : List Letter). length letters) same) c.deliver_from-in-rounds.new.self c.deliver_from-in-rounds.new.ends.items
      (c.in_ok-deliver_from-2.ensures.leads given_up.after given_up.stands);
  cluster = c.deliver_from-in-rounds.ensures.cluster ∙ c.give_up_each.ensures.cluster ∙ c.rounds.invariant.cluster;
}

pub returns-in_err-deliver_from-2-clause-cluster : goal.returns-in_err-deliver_from-2-clause-cluster
returns-in_err-deliver_from-2-clause-cluster c = c.deliver_from-in-rounds.ensures.cluster ∙ c.give_up_each.ensures.cluster ∙ c.rounds.invariant.cluster

pub returns-clause-leads : goal.returns-clause-leads
returns-clause-leads c = λ before stands.
    let run = c.rounds.invariant.runs before stands in
    let within = still-within c.args.number before c.args.self.now stands c.rounds.self c.args.ends.now.items c.rounds.ends.items run c.requires.number.1 in
    ran-out c.args.number before c.rounds.self c.args.ends.now.items c.rounds.ends.items run
    (over-so c.self.inside c.rounds.self c.self.view_is run.now run.led.stands c.args.number c.requires.number.0 within c.is_over.result c.is_over.ensures c.rounds-test.false)

pub returns-clause-cluster : goal.returns-clause-cluster
returns-clause-cluster c = c.rounds.invariant.cluster
