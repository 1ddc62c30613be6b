use Rattle.std.proofs.Common.{◌≡◌, ◌≤◌, Bool, false, List, length, set, sym, ap, subst, ◌∙◌, arith}
use Rattle.std.proofs.lemmas.List.{set_past}
use Rattle.sw_message.specs.Tickets.{AreTickets}
use Rattle.sw_message.specs.Transcript.{after_answer}
use Rattle.sw_message.specs.declared.tickets.Tickets.TheInside.{Inside}
use Rattle.sw_message.proofs.Transcripts.{closes}
use Rattle.sw_message.proofs.tickets.Tickets.close.Goals as goal
use Rattle.sw_message.proofs.tickets.Tickets.close.Goals.{in-Some, in-None}

abbrev items_in : Inside → List Bool
items_in inside = inside.are_open.items

pub returns-clause-goes_on : goal.returns-clause-goes_on
returns-clause-goes_on c = λ past answer are.
    let old = items_in c.self.inside in
    let changed : items_in c.match-get_mut.self-inside ≡ set old c.args.ticket false = elim c.match-get_mut.branch [
      | in-Some w ↦ ap items_in w.self-inside-is ∙ ap (set old c.args.ticket) w.replace.ensures.after
      | in-None w ↦ let is = w.in-None.ensures.variant in let none : length old ≤ c.args.ticket = grind arith in ap items_in w.self-inside-is ∙ sym (set_past old c.args.ticket false none)
    ] in
    subst (λ flags. AreTickets flags (after_answer past c.args.ticket answer)) (sym (changed ∙ ap (λ flags. set flags c.args.ticket false) c.self.view_is))
    (closes c.args.self.now past c.args.ticket answer are)
