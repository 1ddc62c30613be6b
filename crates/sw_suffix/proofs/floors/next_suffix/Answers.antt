use Rattle.std.proofs.Common.{◌≡◌, None, Some, Option, subst, sym, ◌∙◌, refl}
use Rattle.std.specs.BTreeMap.Range.{IsEntryInRange, IsLeBy}
use Rattle.std.specs.Option.{IsSome}
use Rattle.std.specs.declared.ops.Bound.TheVariants.{Included, Unbounded}
use Rattle.sw_hashdir.specs.declared.floor.Floor.{Floor}
use Rattle.sw_suffix.specs.Entries.{key_cmp}
use Rattle.sw_suffix.specs.declared.key.Key.{Key}
use Rattle.sw_suffix.proofs.Keys.{suffix_small}
use Rattle.sw_suffix.proofs.Ranges.{IsFirst, clear, first_from, first_least, first_of, first_past, first_some, first_sound, in_order, low_key}
use Rattle.sw_suffix.proofs.floors.next_suffix.Goals as goal
use Rattle.sw_suffix.proofs.floors.next_suffix.Goals.{In_ok-key}

no_value : {A : Type 0} (value : A) → None ≡ Some value → ⊥
no_value value is = cc

some_value : (option : Option Floor) (value : Floor) → option ≡ Some value → IsSome option
some_value option value is = subst (λ (o : Option Floor). IsSome o) (sym is) refl

-- the entry that was found is the first one
first : (c : In_ok-key) → IsFirst c.args.part c.args.from c.args.floors.now.entries c.in_ok-key.key.now c.in_ok-key.field-0-1.now
first c =
    let range = c.range.ensures.in_range tt in
    let entry : Key × Floor = (c.in_ok-key.key.now, c.in_ok-key.field-0-1.now) in
    let here = first_of (IsEntryInRange key_cmp (Included (low_key c.args.part c.args.from)) Unbounded c.args.floors.now) c.range.result c.next.new.self entry c.in_ok-key.ensures.steps range.1 in
    record {
      after = here.0.0;
      there = here.1;
      least = λ q other from there. first_of (λ e. IsLeBy key_cmp e.0 q) c.range.result c.next.new.self entry c.in_ok-key.ensures.steps (range.2 q (from, tt) (some_value _ other there));
    }

pub returns-in_err-key-clause-next : goal.returns-in_err-key-clause-next
returns-in_err-key-clause-next c = rw c.from_residual.ensures (λ suffix le.
    clear c.args.part c.args.from suffix c.args.floors.now.entries c.requires c.range.ensures.ordered le
    (λ q floor from there p s. no_value floor (sym ((c.range.ensures.in_range tt).5 c.in_err-key.ensures.steps.0 q (from, tt)) ∙ there)))

pub returns-in_err-key-clause-ordered : goal.returns-in_err-key-clause-ordered
returns-in_err-key-clause-ordered c = in_order c.args.floors.now.entries c.requires c.range.ensures.ordered

pub returns-then-key-part-clause-next : goal.returns-then-key-part-clause-next
returns-then-key-part-clause-next c =
    let is_first = first (goal.at.returns-then-key-part-clause-next c).In_ok-key in (
      first_some c.args.part c.args.from c.args.floors.now.entries c.in_ok-key.key.now c.in_ok-key.field-0-1.now c.requires c.range.ensures.ordered is_first c.if-key-part.true,
      first_least c.args.part c.args.from c.args.floors.now.entries c.in_ok-key.key.now c.in_ok-key.field-0-1.now c.requires c.range.ensures.ordered is_first c.if-key-part.true,
    )

pub returns-then-key-part-clause-bounds : goal.returns-then-key-part-clause-bounds
returns-then-key-part-clause-bounds c =
    let is_first = first (goal.at.returns-then-key-part-clause-bounds c).In_ok-key in (
      first_from c.args.part c.args.from c.args.floors.now.entries c.in_ok-key.key.now c.in_ok-key.field-0-1.now c.requires c.range.ensures.ordered is_first c.if-key-part.true,
      suffix_small c.in_ok-key.key.now (first_sound c.args.part c.args.from c.args.floors.now.entries c.in_ok-key.key.now c.in_ok-key.field-0-1.now c.requires c.range.ensures.ordered is_first),
    )

pub returns-then-key-part-clause-ordered : goal.returns-then-key-part-clause-ordered
returns-then-key-part-clause-ordered c = in_order c.args.floors.now.entries c.requires c.range.ensures.ordered

pub returns-else-key-part-clause-next : goal.returns-else-key-part-clause-next
returns-else-key-part-clause-next c =
    first_past c.args.part c.args.from c.args.floors.now.entries c.in_ok-key.key.now c.in_ok-key.field-0-1.now c.requires c.range.ensures.ordered (first (goal.at.returns-else-key-part-clause-next c).In_ok-key) c.if-key-part.false

pub returns-else-key-part-clause-ordered : goal.returns-else-key-part-clause-ordered
returns-else-key-part-clause-ordered c = in_order c.args.floors.now.entries c.requires c.range.ensures.ordered
