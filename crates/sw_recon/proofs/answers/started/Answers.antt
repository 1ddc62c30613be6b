-- The first entries, as many as are treated.
use Rattle.std.proofs.Common.{◌≡◌, ℕ, min, ap, arith, length, take, sym, ◌∙◌, ◌∷◌, ◌++◌, [], List}
use Rattle.std.proofs.lemmas.List.{length-take, take_all, take_min, take_more}
use Rattle.sw_hashdir.specs.declared.entry.Entry.{Entry}
use Rattle.sw_recon.specs.Course.{most_entries}
use Rattle.sw_recon.specs.Revert.{treat}
use Rattle.sw_recon.proofs.answers.started.Goals as goal
use Rattle.sw_recon.proofs.answers.started.Goals.{In_ok-with_capacity}

pub loop-entry-init : goal.loop-entry-init
loop-entry-init c = record { front = c.in_ok-later.ensures.items; room = omega (arith, c.in_ok-later.ensures.capacity) }

pub push_back_reserved-requires : goal.push_back_reserved-requires
push_back_reserved-requires c =
    omega (
      arith,
      c.loop-entry.invariant.room,
      ap length c.loop-entry.invariant.front,
      length-take c.loop-entry.entry-index (take c.min-count.result c.entries-entries.result.now),
      length-take c.min-count.result c.entries-entries.result.now,
      c.loop-entry.later.ok.0,
    )

pub loop-entry-preserved : goal.loop-entry-preserved
loop-entry-preserved c = record {
  front = c.push_back_reserved.ensures.items
      ∙ ap (λ (front : List Entry). front ++ c.entry-item.result ∷ []) c.loop-entry.invariant.front
      ∙ ap (λ (last : Entry). take c.loop-entry.entry-index (take c.min-count.result c.entries-entries.result.now) ++ last ∷ []) c.entry-item.is
      ∙ sym (take_more (take c.min-count.result c.entries-entries.result.now) c.loop-entry.entry-index c.entry-item.result c.loop-entry-test.true);
  room = omega (arith, c.loop-entry.invariant.room, c.push_back_reserved.ensures.capacity);
}

first_ones : (count most : ℕ) (these : List Entry) → count ≡ min (length these) most → take count these ≡ take most these
first_ones count most these is = ap (λ n. take n these) (omega (arith, is)) ∙ take_min most these

-- as many as are treated
all_treated : (c : In_ok-with_capacity) → c.loop-entry.later.items ≡ take most_entries c.args.listing.now.entries
all_treated c =
    let these = c.entries-entries.result.now in
    c.loop-entry.invariant.front ∙ take_all c.loop-entry.entry-index (take c.min-count.result these) (omega (arith, c.loop-entry-test.false))
    ∙ first_ones c.min-count.result most_entries these (omega (arith, c.min-count.ensures)) ∙ ap (take most_entries) c.entries-entries.ensures

pub treat-requires-clause-room : goal.treat-requires-clause-room
treat-requires-clause-room c =
    omega (
      arith,
      ap length c.in_ok-with_capacity.ensures.items,
      c.in_ok-with_capacity.ensures.capacity,
      ap length c.loop-entry.invariant.front,
      length-take c.loop-entry.entry-index (take c.min-count.result c.entries-entries.result.now),
      length-take c.min-count.result c.entries-entries.result.now,
    )

pub treat-requires-clause-few : goal.treat-requires-clause-few
treat-requires-clause-few c =
    omega (arith, ap length c.in_ok-with_capacity.ensures.items, ap length (all_treated c), length-take most_entries c.args.listing.now.entries)

pub returns : goal.returns
returns c =
    c.treat.ensures ∙ ap (λ (these : List Entry). treat c.args.total these 0 c.in_ok-with_capacity.field-0.items) (all_treated (goal.at.returns c).In_ok-with_capacity)
    ∙ ap (treat c.args.total (take most_entries c.args.listing.now.entries) 0) c.in_ok-with_capacity.ensures.items
