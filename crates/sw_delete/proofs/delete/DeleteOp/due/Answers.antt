-- Behind the primaries stand the handoffs, as many as there are misses.
use Rattle.std.proofs.Common.{◌≡◌, ◌-◌, ◌≤◌, ◌<◌, length, sym, ap, ◌∙◌, arith}
use Rattle.std.specs.List.{slice_get}
use Rattle.sw_quorum.proofs.Lookups.{looked-up}
use Rattle.sw_delete.proofs.Changes.{due_is, due_seen}
use Rattle.sw_delete.proofs.Dues.{none-beyond, rest-beyond}
use Rattle.sw_delete.proofs.delete.DeleteOp.due.Goals as goal

pub returns-then-number-missed : goal.returns-then-number-missed
returns-then-number-missed c = λ begun past stands.
    let from : length c.self.inside.primaries.items ≤ c.args.number = omega (arith, c.in_default.ensures.lookup.3, ap (length) c.deref.ensures.value) in
    let few : length c.self.inside.tally.counts.missed ≤ c.args.number - length c.self.inside.primaries.items = omega (arith, c.if-number-missed.true, c.len.ensures, ap (length) c.missed.ensures) in
    sym (ap (λ these. slice_get these c.args.number) (due_is _ begun past stands ∙ ap due_seen (sym c.self.view_is)) ∙ none-beyond _ _ _ c.args.number from few)

pub returns : goal.returns
returns c = λ begun past stands.
    let front = c.self.inside.primaries.items in
    let rest = c.self.inside.handoffs.items in
    let from : length front ≤ c.args.number = omega (arith, c.in_default.ensures.lookup.3, ap (length) c.deref.ensures.value) in
    let number : c.args.number - c.len.result ≡ c.args.number - length front = omega (arith, c.len.ensures, ap (length) c.deref.ensures.value) in
    let below : c.args.number - length front < length c.self.inside.tally.counts.missed = omega (arith, c.if-number-missed.false, number, ap (length) c.missed.ensures) in
    c.copied.ensures ∙ looked-up _ _ c.get-2.result c.get-2.ensures.lookup.0 c.get-2.ensures.lookup.1
    ∙ ap (λ these. slice_get these (c.args.number - c.len.result)) c.deref-2.ensures.value ∙ ap (slice_get rest) number
    ∙ sym (ap (λ these. slice_get these c.args.number) (due_is _ begun past stands ∙ ap due_seen (sym c.self.view_is)) ∙ rest-beyond front rest _ c.args.number from below)
