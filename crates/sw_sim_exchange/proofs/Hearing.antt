-- An operation that is kept under a number, as it is read and as it takes an answer.
use Rattle.std.proofs.Common.{◌≡◌, ℕ, suc, ◌<◌, ◌≤◌, List, length, Some, get_or, length-set, slice_get, slice_set, refl, sym, ap, subst, ◌∙◌, arith}
use Rattle.std.proofs.lemmas.List.{get_or-set_same, set-get_or}
use Rattle.std.proofs.lemmas.Option.{get_or_from_slice_get, slice_get_read, slice_get_within}
use Rattle.sw_message.specs.Transcript.{Step}
use Rattle.sw_operation.specs.Operating.{Begun}
use Rattle.sw_sim_exchange.specs.declared.lines.EndLine.{EndLine}
use Rattle.sw_sim_exchange.specs.Exchange.{ExchangeModel, Proceeded, slot_of}
use Rattle.sw_sim_exchange.specs.Work.{work_in, work_of}
use Rattle.sw_sim_exchange.specs.declared.operating.Operating.{Operating}
use Rattle.sw_sim_exchange.proofs.HandingOut.{heard-proceeded, with_letters, work-heard}

module _ (inside old : ExchangeModel) (same : inside ≡ old) (number : ℕ) (was : Operating) (value : was ≡ get_or inside.operations (slot_of number) was) where
  -- what is read there is what is kept
  pub read_kept : (kept : Operating) → slice_get old.operations (slot_of number) ≡ Some kept → was ≡ kept
  read_kept kept there = value ∙ get_or_from_slice_get inside.operations (slot_of number) kept was (subst (λ (all : ExchangeModel). slice_get all.operations (slot_of number) ≡ Some kept) (sym same) there)

  -- and stands there
  pub kept_there : (kept : Operating) → slice_get old.operations (slot_of number) ≡ Some kept → slice_get inside.operations (slot_of number) ≡ Some was
  kept_there kept there = subst (λ (all : ExchangeModel). slice_get all.operations (slot_of number) ≡ Some kept) (sym same) there ∙ ap Some (sym (read_kept kept there))

  -- where it stays as it is, all does
  pub unchanged : (now : Operating) → now ≡ was → with_letters inside number now inside.letters ≡ old
  unchanged now is =
      ap (λ (operations : List Operating). record { letters = inside.letters; operations = operations }) (ap (slice_set inside.operations (slot_of number)) (is ∙ value) ∙ set-get_or inside.operations (slot_of number) was)
      ∙ same

  module _ (heard : Operating) (there : slice_get inside.operations (slot_of number) ≡ Some was) where
    -- one that took an answer stands there
    pub heard_there : slice_get (slice_set inside.operations (slot_of number) heard) (slot_of number) ≡ Some heard
    heard_there = slice_get_read (slice_set inside.operations (slot_of number) heard) _ (slot_of number) heard refl (omega (arith, length-set inside.operations (slot_of number) heard, within)) (sym (get_or-set_same inside.operations (slot_of number) heard heard within))
      where
        within : slot_of number < length inside.operations
        within = slice_get_within inside.operations (slot_of number) was there

    -- and then went on
    pub went_on : (begun : Begun) (past : List Step) (new : ExchangeModel) (before after : List EndLine) → suc (work_in heard) ≡ work_in was
        → Proceeded number begun past (with_letters inside number heard inside.letters) new before after × (work_of new ≤ work_of (with_letters inside number heard inside.letters))
        → Proceeded number begun past old new before after × (work_of new < work_of old)
    went_on begun past new before after closed goes =
        subst (λ (one : ExchangeModel). Proceeded number begun past one new before after × (work_of new < work_of one)) same
        (heard-proceeded number begun past inside heard new before after goes.0, omega (arith, goes.1, work-heard inside (slot_of number) was there heard closed))
