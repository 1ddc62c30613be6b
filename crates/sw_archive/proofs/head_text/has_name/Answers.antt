use Rattle.std.proofs.Common.{◌≡◌, ℕ, ◌+◌, ◌||◌, ◌∷◌, Bool, List, drop, nat_eq, sym, ap, ◌∙◌, arith}
use Rattle.std.specs.Cmp.Lexicographic.{pointwise}
use Rattle.std.specs.List.{list_any}
use Rattle.sw_types.specs.Head.{Pair}
use Rattle.sw_archive.proofs.PairTexts.{is_further, is_next}
use Rattle.sw_archive.proofs.head_text.has_name.Goals as goal

abbrev named : List ℕ → Pair → Bool
named name other = pointwise nat_eq other.0 name

-- one that was read decides, or the others do
decides : (name : List ℕ) (pairs : List Pair) (at : ℕ) (pair : Pair) → list_any (named name) pairs ≡ list_any (named name) (drop at pairs) → drop at pairs ≡ pair ∷ drop (at + 1) pairs
    → list_any (named name) pairs ≡ (named name pair || list_any (named name) (drop (at + 1) pairs))
decides name pairs at pair before is = before ∙ ap (list_any (named name)) is

pub returns-in_default : goal.returns-in_default
returns-in_default c = λ pairs rest front counted.
    let before = c.loop.invariant pairs rest front counted in
    absurd (is_further pairs rest c.loop.rest.now c.loop.counter front.short (omega (arith, counted, c.loop-test.true)) before.0 c.in_default.ensures.none)

pub returns-then-eq : goal.returns-then-eq
returns-then-eq c = λ pairs rest front counted.
    let before = c.loop.invariant pairs rest front counted in
    let pair : Pair = (c.in-Some.other.now, c.in-Some.field-0-1.now) in
    let read = is_next pairs rest c.loop.rest.now c.loop.counter front.short (omega (arith, counted, c.loop-test.true)) before.0 pair c.in-Some.after.now c.in-Some.ensures.some.0 c.in-Some.ensures.some.1 in
    sym (decides c.args.name.now pairs c.loop.counter pair before.1 read.0 ∙ ap (λ (b : Bool). b || list_any (named c.args.name.now) (drop (c.loop.counter + 1) pairs)) (sym c.eq.ensures ∙ c.if-eq.true))

pub loop-preserved : goal.loop-preserved
loop-preserved c = λ pairs rest front counted.
    let before = c.loop.invariant pairs rest front counted in
    let pair : Pair = (c.in-Some.other.now, c.in-Some.field-0-1.now) in
    let read = is_next pairs rest c.loop.rest.now c.loop.counter front.short (omega (arith, counted, c.loop-test.true)) before.0 pair c.in-Some.after.now c.in-Some.ensures.some.0 c.in-Some.ensures.some.1 in
    (read.1, decides c.args.name.now pairs c.loop.counter pair before.1 read.0 ∙ ap (λ (b : Bool). b || list_any (named c.args.name.now) (drop (c.loop.counter + 1) pairs)) (sym c.eq.ensures ∙ c.if-eq.false))
