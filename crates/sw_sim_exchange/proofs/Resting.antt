-- An operation that hands out nothing more is over, and its end is told, or it waits.
use Rattle.std.proofs.Common.{◌≡◌, ◌⊎◌, inl, inr, ℕ, ◌≤◌, Bool, true, false, MatchOption, List, [], ◌∷◌, ◌++◌, Option, Some, None, slice_get, append-nil, refl, sym, subst, ◌∙◌, arith}
use Rattle.std.proofs.lemmas.Option.{none-some}
use Rattle.sw_message.specs.Transcript.{Over, Step, Wait}
use Rattle.sw_operation.specs.Operating.{Begun, IsNext}
use Rattle.sw_core.specs.World.{Rests}
use Rattle.sw_operation.specs.Ends.{IsEndOf}
use Rattle.sw_sim_exchange.specs.declared.lines.EndLine.{EndLine}
use Rattle.sw_operation.specs.declared.end.OpEnd.{OpEnd}
use Rattle.sw_sim_exchange.specs.Exchange.{EndsWith, ExchangeModel, Proceeded, slot_of}
use Rattle.sw_sim_exchange.specs.Kept.{IsAt, IsKeptAt, ended_in}
use Rattle.sw_sim_exchange.specs.Work.{work_in, work_of}
use Rattle.sw_sim_exchange.specs.declared.letter.Letter.{Letter}
use Rattle.sw_sim_exchange.specs.declared.operating.Operating.{Operating}
use Rattle.sw_sim_exchange.proofs.HandingOut.{HasHandedOut, proceeded, with_letters}

-- an end is told, where there is one
abbrev pub TellsEnd : (number : ℕ) → Option OpEnd → (before after : List EndLine) → Type 0
TellsEnd number None before after = after ≡ before
TellsEnd number (Some end) before after = after ≡ before ++ record { operation = number; end = end } ∷ []

module _ (number : ℕ) (begun : Begun) (past : List Step) (old : ExchangeModel) (was now after kept : Operating) (letters : List Letter) (before ends : List EndLine)
    (there : slice_get old.operations (slot_of number) ≡ Some was) (so : HasHandedOut number begun past was now old.letters letters) (fewer : work_in after ≤ work_in now) (less : work_in kept ≤ work_in after) where
  -- it went on from the transcript, and no more remains to be done than before
  abbrev Went : List EndLine → Type 0
  Went told = Proceeded number begun past old (with_letters old number kept letters) before told × (work_of (with_letters old number kept letters) ≤ work_of old)

  -- it is so with the lines that were added
  went : (mine : List EndLine) (is_over : Bool) → Rests begun so.later is_over → IsKeptAt kept begun so.later is_over → EndsWith number begun so.later is_over mine → ends ≡ before ++ mine → Went ends
  went mine is_over rests is_kept told same =
      subst Went (sym same) (proceeded number begun past old was now kept letters before mine is_over there so rests is_kept (omega (arith, fewer, less)) told)

  -- by what the next message was found to be, which is none, and what was told then
  pub rested : (told : Option OpEnd) → (ended_in after.op ≡ true → MatchOption told ⊥ (λ (end : OpEnd). (kept.op ≡ None) × ((begun : Begun) (past : List Step) → IsAt after begun past → IsEndOf begun past end)))
      → (ended_in after.op ≡ false → (told ≡ None) × (kept ≡ after)) → TellsEnd number told before ends → IsAt after begun so.later
      → (IsNext begun so.later Over × (ended_in after.op ≡ true)) ⊎ (IsNext begun so.later Wait × (ended_in after.op ≡ false)) → Went ends
  rested None ended goes same at (inl over) = absurd (ended over.1)
  rested (Some end) ended goes same at (inl over) = let found = ended over.1 in went (record { operation = number; end = end } ∷ []) true over.0 found.0 (end, found.1 begun so.later at, refl) same
  rested None ended goes same at (inr waits) =
      went [] false waits.0 (subst (λ (one : Operating). IsAt one begun so.later × (ended_in one.op ≡ false)) (sym (goes waits.1).1) (at, waits.1)) refl (same ∙ sym (append-nil before))
  rested (Some end) ended goes same at (inr waits) = absurd (none-some end (sym (goes waits.1).0))
