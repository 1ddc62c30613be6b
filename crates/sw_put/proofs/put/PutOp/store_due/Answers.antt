-- Behind the primaries stand the handoffs, each for a miss.
use Rattle.std.proofs.Common.{◌≡◌, ◌-◌, ◌≤◌, length, Some, None, sym, ap, ◌∙◌, arith}
use Rattle.std.specs.List.{slice_get}
use Rattle.std.proofs.lemmas.Option.{slice_get_within}
use Rattle.sw_quorum.proofs.Lookups.{looked-up, slice_get-behind, slice_get-front, slice_get_none}
use Rattle.sw_quorum.proofs.Places.{primaries_few}
use Rattle.sw_put.specs.Plans.{replacement}
use Rattle.sw_put.specs.Put.{place_of, replacements}
use Rattle.sw_quorum.specs.Targets.{targets_from}
use Rattle.sw_put.proofs.Changes.{stores_due_is, stores_due_seen}
use Rattle.sw_put.proofs.Dues.{length-targets_from, primary-at, replacement-at}
use Rattle.sw_put.proofs.put.PutOp.store_due.Goals as goal

-- the primary of that number
found : (c : goal.In-Some) → slice_get c.self.inside.primaries.items c.args.number ≡ Some c.in-Some.device
found c =
    ap (λ these. slice_get these c.args.number) (sym c.deref.ensures.value) ∙ sym (looked-up _ _ c.get.result c.get.ensures.lookup.0 c.get.ensures.lookup.1) ∙ sym c.copied.ensures ∙ c.in-Some.is

pub overflow_cast-index : goal.overflow_cast-index
overflow_cast-index c =
    let stood = c.self.invariant.0 in
    omega (
      arith,
      slice_get_within c.self.inside.primaries.items c.args.number c.in-Some.device (found c),
      primaries_few stood.0.cluster (place_of stood.0).part stood.2.valid.rules,
      ap length stood.2.primaries_are,
    )

pub returns-in-Some : goal.returns-in-Some
returns-in-Some c = λ begun past stands.
    sym (
    ap (λ these. slice_get these c.args.number) (stores_due_is _ begun past stands ∙ ap stores_due_seen (sym c.self.view_is))
    ∙ slice_get-front (targets_from 0 c.self.inside.primaries.items) _ c.args.number _ (primary-at 0 c.self.inside.primaries.items c.args.number c.args.number c.in-Some.device (omega arith) (found c))
    )

pub returns : goal.returns
returns c = λ begun past stands.
    let front = c.self.inside.primaries.items in
    let misses = c.self.inside.stores.counts.missed in
    let rest = c.self.inside.handoffs.items in
    let none : slice_get front c.args.number ≡ None =
    ap (λ these. slice_get these c.args.number) (sym c.deref.ensures.value) ∙ sym (looked-up _ _ c.get.result c.get.ensures.lookup.0 c.get.ensures.lookup.1) ∙ sym c.copied.ensures ∙ c.in_default.is in
    let from : length (targets_from 0 front) ≤ c.args.number = omega (arith, slice_get_none front c.args.number none, length-targets_from 0 front) in
    let number : c.args.number - length (targets_from 0 front) ≡ c.args.number - c.len.result = omega (arith, c.len.ensures, c.self.inside.primaries.ok, length-targets_from 0 front) in
    let miss = c.copied-missed.ensures ∙ looked-up _ _ c.get-2.result c.get-2.ensures.lookup.0 c.get-2.ensures.lookup.1 ∙ ap (λ these. slice_get these (c.args.number - c.len.result)) c.missed.ensures in
    let handoff = c.copied-handoff.ensures ∙ looked-up _ _ c.get-3.result c.get-3.ensures.lookup.0 c.get-3.ensures.lookup.1 ∙ ap (λ these. slice_get these (c.args.number - c.len.result)) c.deref-2.ensures.value in
    c.replacement.ensures ∙ ap (λ m. replacement m c.copied-handoff.result) miss ∙ ap (replacement (slice_get misses (c.args.number - c.len.result))) handoff
    ∙ sym (
    ap (λ these. slice_get these c.args.number) (stores_due_is _ begun past stands ∙ ap stores_due_seen (sym c.self.view_is))
    ∙ slice_get-behind (targets_from 0 front) (replacements misses rest) c.args.number from
    ∙ ap (slice_get (replacements misses rest)) number
    ∙ replacement-at misses rest (c.args.number - c.len.result)
    )
