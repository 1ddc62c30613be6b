use Rattle.std.proofs.Common.{◌≡◌, List, slice_get, Some, sym, ap, subst, ◌∙◌, arith}
use Rattle.std.proofs.lemmas.Option.{slice_get_within}
use Rattle.sw_sim_exchange.specs.declared.letter.Letter.{Letter}
use Rattle.sw_sim_world.specs.Standing.{WorldModel}
use Rattle.sw_sim_world.proofs.Sweeps.{EachBetween, between-more}
use Rattle.sw_sim_world.proofs.Slots.{indexed}
use Rattle.sw_sim_world.proofs.inner.Inner.waiting_from.Goals as goal

pub slots-init : goal.slots-init
slots-init c = λ slot letter above below is. absurd (omega (arith, above, below))

pub returns-then-not-letters-slot : goal.returns-then-not-letters-slot
returns-then-not-letters-slot c =
    let letter = c.index-letters-slot.result in
    let same : c.letters-letters.result.now ≡ c.args.self.now.letters = c.letters-letters.ensures ∙ ap (λ (model : WorldModel). model.letters) c.self.view_is in
    let here = indexed c.letters-letters.result.now c.slots.slot letter c.slots-test.true c.index-letters-slot.is in (
      c.slots.auto.slot,
      letter,
      subst (λ (letters : List Letter). slice_get letters c.slots.slot ≡ Some letter) same here,
      ap (λ (one : Letter). one.is_delivered) c.index-letters-slot.is ∙ c.if-not-letters-slot.true,
      subst (λ (letters : List Letter). EachBetween letters c.args.from c.slots.slot) same c.slots.invariant,
    )

pub slots-preserved : goal.slots-preserved
slots-preserved c =
    between-more c.letters-letters.result.now c.args.from c.slots.slot c.index-letters-slot.result
    (indexed c.letters-letters.result.now c.slots.slot c.index-letters-slot.result c.slots-test.true c.index-letters-slot.is)
    (ap (λ (one : Letter). one.is_delivered) c.index-letters-slot.is ∙ c.if-not-letters-slot.false) c.slots.invariant

pub returns : goal.returns
returns c = λ slot letter above is.
    let same : c.letters-letters.result.now ≡ c.args.self.now.letters = c.letters-letters.ensures ∙ ap (λ (model : WorldModel). model.letters) c.self.view_is in
    let there = subst (λ (letters : List Letter). slice_get letters slot ≡ Some letter) (sym same) is in
    c.slots.invariant slot letter above (omega (arith, c.slots-test.false, slice_get_within c.letters-letters.result.now slot letter there)) there
