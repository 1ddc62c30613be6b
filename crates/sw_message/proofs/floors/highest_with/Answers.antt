use Rattle.std.proofs.Common.{true, false, Some, map, sym, ap, ◌∙◌}
use Rattle.std.proofs.lemmas.List.{take_all}
use Rattle.sw_message.proofs.FloorLaws.{highest_from-append}
use Rattle.sw_message.specs.Floors.{durable_floor, higher, highest_from, tombstone_floor}
use Rattle.sw_message.proofs.Highest.{entry_floors, next_entry, next_stamp}
use Rattle.sw_message.proofs.floors.highest_with.Goals as goal
use Rattle.sw_message.proofs.floors.highest_with.Goals.{then-entry, else-entry}

pub loop-entry-preserved : goal.loop-entry-preserved
loop-entry-preserved c =
    let entry = c.entry-item.result in
    let next = next_entry c.args.best c.entries-entry-items.result.now c.loop-entry.entry-index entry in
    elim c.if-entry.branch [
      | then-entry w ↦ w.best-is ∙ ap (λ floor. Some floor) (w.higher.ensures ∙ ap (λ best. higher best (durable_floor entry)) c.loop-entry.invariant)
          ∙ sym (next true c.loop-entry-test.true c.entry-item.is w.if-entry.true)
      | else-entry w ↦ w.best-is ∙ c.loop-entry.invariant ∙ sym (next false c.loop-entry-test.true c.entry-item.is w.if-entry.false)
    ]

pub loop-stamp-preserved : goal.loop-stamp-preserved
loop-stamp-preserved c =
    ap (λ floor. Some floor) (c.higher-in-loop-stamp.ensures ∙ ap (λ best. higher best (tombstone_floor c.stamp-item.result)) c.loop-stamp.invariant)
    ∙ sym (next_stamp c.loop-entry.best c.tombstones-stamp-items.result.now c.loop-stamp.stamp-index c.stamp-item.result c.loop-stamp-test.true c.stamp-item.is)

pub returns : goal.returns
returns c =
    let entries = take_all c.loop-entry.entry-index c.entries-entry-items.result.now c.loop-entry-test.false ∙ c.entries-entry-items.ensures in
    let stamps = take_all c.loop-stamp.stamp-index c.tombstones-stamp-items.result.now c.loop-stamp-test.false ∙ c.tombstones-stamp-items.ensures in
    let best = c.loop-entry.invariant ∙ ap (λ entries. highest_from c.args.best (entry_floors entries)) entries in
    let listing = c.args.listing.now in
    c.loop-stamp.invariant ∙ ap (λ stamps. highest_from c.loop-entry.best (map tombstone_floor stamps)) stamps
    ∙ ap (λ best. highest_from best (map tombstone_floor listing.tombstones)) best
    ∙ sym (highest_from-append c.args.best (entry_floors listing.entries) (map tombstone_floor listing.tombstones))
