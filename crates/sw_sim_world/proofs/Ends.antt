-- Which operations are over and were not: none where nothing changed, and at most the one that went on.
use Rattle.std.proofs.Common.{◌≡◌, ℕ, zero, suc, ◌+◌, Bool, true, false, not, ◌&&◌, List, [], ◌∷◌, ◌++◌, length, Some, refl, sym, ap, subst, ◌∙◌, append-nil, arith}
use Rattle.std.specs.List.{AllZip}
use Rattle.std.proofs.lemmas.Option.{none-some, same_Some}
use Rattle.sw_core.specs.World.{Operating, numbered, with_numbered}
use Rattle.sw_core.proofs.Numbered.{none-numbered}
use Rattle.sw_sim_exchange.specs.declared.lines.EndLine.{EndLine}
use Rattle.sw_sim_exchange.specs.Exchange.{EndsWith}
use Rattle.sw_sim_world.specs.Unfolding.{Ended, TellsEnd, ended_from, ended_if}
use Rattle.sw_sim_world.proofs.Ended.{none_ended, not_again}

-- one that was not over is new where it is over
is_new : (is_over was_over : Bool) → was_over ≡ false → (is_over && not was_over) ≡ is_over
is_new true was_over fresh = ap not fresh
is_new false was_over fresh = refl

-- one that did not change is not among them
same-first : (number : ℕ) (operation : Operating) (others : List Ended) → ended_if (operation.is_over && not operation.is_over) number operation ++ others ≡ others
same-first number operation others = ap (λ (ended : List Ended). ended ++ others) (not_again operation.is_over number operation)

-- ---- one that went on

module _ (later : Operating) where
  -- of those behind it none is new
  went : (number : ℕ) (old : Operating) → old.is_over ≡ false → (operations : List Operating) → ended_if (later.is_over && not old.is_over) number later ++ ended_from (number + 1) operations operations ≡ ended_if later.is_over number later
  went number old running operations =
      ap (λ (others : List Ended). ended_if (later.is_over && not old.is_over) number later ++ others) (none_ended (number + 1) operations)
      ∙ append-nil (ended_if (later.is_over && not old.is_over) number later)
      ∙ ap (λ (new : Bool). ended_if new number later) (is_new later.is_over old.is_over running)

  -- where another one stands at a number, that alone may be new
  ended-replaced : (from number : ℕ) (operations : List Operating) (old : Operating) → numbered operations number ≡ Some old → old.is_over ≡ false
      → ended_from (from + 1) operations (with_numbered number later operations) ≡ ended_if later.is_over (from + number) later
  ended-replaced from number [] old is running = absurd (none-numbered number old is)
  ended-replaced from zero (operation ∷ operations) old is running = absurd (none-some old is)
  ended-replaced from (suc zero) (operation ∷ operations) old is running = went (from + 1) operation (subst (λ (one : Operating). one.is_over ≡ false) (sym (same_Some operation old is)) running) operations
  ended-replaced from (suc (suc number)) (operation ∷ operations) old is running =
      let next : from + 1 + suc number ≡ from + suc (suc number) = omega arith in
      same-first (from + 1) operation (ended_from (from + 1 + 1) operations (with_numbered (suc number) later operations))
      ∙ ended-replaced (from + 1) (suc number) operations old is running
      ∙ ap (λ (at : ℕ). ended_if later.is_over at later) next

  -- so it is among them where it is over
  pub ended-one : (number : ℕ) (operations : List Operating) (old : Operating) → numbered operations number ≡ Some old → old.is_over ≡ false → ended_from 1 operations (with_numbered number later operations) ≡ ended_if later.is_over number later
  ended-one number operations old is running =
      let same : 0 + number ≡ number = omega arith in
      ended-replaced 0 number operations old is running ∙ ap (λ (at : ℕ). ended_if later.is_over at later) same

  -- one that began
  ended-pushed : (from number : ℕ) (operations : List Operating) (new : Operating) → number ≡ length operations + 1
      → ended_from (from + 1) operations (with_numbered number later (operations ++ new ∷ [])) ≡ ended_if later.is_over (from + number) later
  ended-pushed from zero operations new is = absurd (omega (arith, is))
  ended-pushed from (suc zero) [] new is = append-nil (ended_if later.is_over (from + 1) later)
  ended-pushed from (suc (suc number)) [] new is = absurd (omega (arith, is))
  ended-pushed from (suc zero) (operation ∷ operations) new is = absurd (omega (arith, is))
  ended-pushed from (suc (suc number)) (operation ∷ operations) new is =
      let next : from + 1 + suc number ≡ from + suc (suc number) = omega arith in
      same-first (from + 1) operation (ended_from (from + 1 + 1) operations (with_numbered (suc number) later (operations ++ new ∷ [])))
      ∙ ended-pushed (from + 1) (suc number) operations new (omega (arith, is))
      ∙ ap (λ (at : ℕ). ended_if later.is_over at later) next

  -- that is among them where it is over
  pub ended-begun : (operations : List Operating) (new : Operating)
      → ended_from 1 operations (with_numbered (length operations + 1) later (operations ++ new ∷ [])) ≡ ended_if later.is_over (length operations + 1) later
  ended-begun operations new =
      let same : 0 + (length operations + 1) ≡ length operations + 1 = omega arith in
      ended-pushed 0 (length operations + 1) operations new refl ∙ ap (λ (at : ℕ). ended_if later.is_over at later) same

  -- and how it ended is told
  pub told-end : (number : ℕ) (is_over : Bool) (mine : List EndLine) → EndsWith number later.begun later.past is_over mine → AllZip TellsEnd (ended_if is_over number later) mine
  told-end number true mine (end, is_end, one) = subst (AllZip TellsEnd (ended_if true number later)) (sym one) ((refl, is_end), tt)
  told-end number false mine none = subst (AllZip TellsEnd (ended_if false number later)) (sym none) tt
