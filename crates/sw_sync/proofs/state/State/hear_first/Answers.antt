-- What each stage makes of the first answer.
use Rattle.std.proofs.Common.{◌≡◌, List, ◌++◌, drop, ap, ◌∙◌}
use Rattle.sw_gather.specs.Mailbox.{Unread}
use Rattle.sw_sync.specs.Hearing.{asked, marked}
use Rattle.sw_sync.specs.Sync.{HearsRepair}
use Rattle.sw_sync.specs.declared.errand.Errand.{Errand}
use Rattle.sw_sync.specs.declared.stage.Stage.TheVariants.{Buries, Handoffs, Primaries, Repairs}
use Rattle.sw_sync.proofs.Hearings.{LeadsTo, from_burial, from_end, from_handoffs, from_primaries, from_repair, took}
use Rattle.sw_sync.proofs.state.State.hear_first.Goals as goal

pub returns-in-Handoffs-clause-ok : goal.returns-in-Handoffs-clause-ok
returns-in-Handoffs-clause-ok c =
    let heard = c.in-Handoffs.heard in
    took c.hear_first.result c.args.mailbox.now c.hear_first.new.mailbox c.args.errand (λ answer. c.hear_first.new.self ≡ asked heard c.args.errand answer)
    (λ answer. LeadsTo c.args.cluster.now c.args.place.now answer c.args.errand c.args.self.now (record { stage = Handoffs c.hear_first.new.self; due = c.self.inside.due.items }))
    (λ answer. from_handoffs c.args.cluster.now c.args.place.now answer c.args.errand c.self.inside.stage c.self.inside.due.items c.args.self.now c.self.view_is heard c.hear_first.new.self c.in-Handoffs.is)
    c.hear_first.ensures.ok

pub returns-in-Primaries-clause-ok : goal.returns-in-Primaries-clause-ok
returns-in-Primaries-clause-ok c =
    let heard = c.in-Primaries.heard in
    let after = c.hear_first-in-Primaries.new.self in
    took c.hear_first-in-Primaries.result c.args.mailbox.now c.hear_first-in-Primaries.new.mailbox c.args.errand (λ answer. after ≡ asked heard c.args.errand answer)
    (λ answer. LeadsTo c.args.cluster.now c.args.place.now answer c.args.errand c.args.self.now (record { stage = Primaries after; due = c.self.inside.due.items }))
    (λ answer. from_primaries c.args.cluster.now c.args.place.now answer c.args.errand c.self.inside.stage c.self.inside.due.items c.args.self.now c.self.view_is heard after c.in-Primaries.is)
    c.hear_first-in-Primaries.ensures.ok

pub returns-in-Buries-clause-ok : goal.returns-in-Buries-clause-ok
returns-in-Buries-clause-ok c =
    let burial = c.in-Buries.burial in
    let after = c.hear_first-in-Buries.new.self in
    took c.hear_first-in-Buries.result c.args.mailbox.now c.hear_first-in-Buries.new.mailbox c.args.errand (λ answer. after ≡ marked burial c.args.errand answer)
    (λ answer. LeadsTo c.args.cluster.now c.args.place.now answer c.args.errand c.args.self.now (record { stage = Buries after; due = c.self.inside.due.items }))
    (λ answer. from_burial c.args.cluster.now c.args.place.now answer c.args.errand c.self.inside.stage c.self.inside.due.items c.args.self.now c.self.view_is burial after c.in-Buries.is)
    c.hear_first-in-Buries.ensures.ok

pub returns-in-Repairs-clause-ok : goal.returns-in-Repairs-clause-ok
returns-in-Repairs-clause-ok c =
    let repair = c.in-Repairs.repair in
    let after = c.hear_first-in-Repairs.new.self in
    let due = c.hear_first-in-Repairs.new.due.items in
    took c.hear_first-in-Repairs.result c.args.mailbox.now c.hear_first-in-Repairs.new.mailbox c.args.errand
    (λ answer. (more : List Errand) × HearsRepair c.args.cluster.now c.args.place.now repair c.args.errand answer after more × (due ≡ c.self.inside.due.items ++ more))
    (λ answer. LeadsTo c.args.cluster.now c.args.place.now answer c.args.errand c.args.self.now (record { stage = Repairs after; due = due }))
    (λ answer. from_repair c.args.cluster.now c.args.place.now answer c.args.errand c.self.inside.stage c.self.inside.due.items c.args.self.now c.self.view_is repair after due c.in-Repairs.is)
    c.hear_first-in-Repairs.ensures.ok

pub returns-in-Ends-clause-ok : goal.returns-in-Ends-clause-ok
returns-in-Ends-clause-ok c = record {
  answer = c.requires.0;
  later = c.requires.1;
  first = c.requires.2;
  after_is = c.drop_first.ensures ∙ ap (λ (unread : List (Unread Errand)). record c.args.mailbox.now { unread = drop 1 unread }) c.requires.2;
  leads_to = from_end c.args.cluster.now c.args.place.now c.requires.0 c.args.errand c.self.inside.stage c.self.inside.due.items c.args.self.now c.self.view_is c.in-Ends.field-0 c.in-Ends.is;
}
