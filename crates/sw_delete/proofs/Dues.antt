-- Where a delete has to go: that only grows, at its end.
use Rattle.std.proofs.Common.{◌≡◌, ℕ, zero, suc, ◌+◌, ◌-◌, ◌≤◌, ◌<◌, List, [], ◌∷◌, ◌++◌, append-nil, append_assoc, drop, length, length-append, take, None, refl, sym, ap, ◌∙◌, arith}
use Rattle.std.specs.List.{slice_get}
use Rattle.std.proofs.lemmas.List.{length-take, take-append-drop, take-take}
use Rattle.std.proofs.lemmas.Option.{slice_get_past}
use Rattle.sw_message.specs.Transcript.{Closed, Gave, Step}
use Rattle.sw_quorum.specs.Answers.{missed}
use Rattle.sw_quorum.specs.Dues.{Grew, IsLonger}
use Rattle.sw_quorum.proofs.Laws.{missed-grows}
use Rattle.sw_quorum.proofs.Lookups.{slice_get-behind}
use Rattle.sw_delete.specs.Delete.{Begun, deletes, due, handoffs, judge_delete, primaries}

more-taken : {A : Type 0} (front xs : List A) (m n : ℕ) → m ≤ n → IsLonger (front ++ take m xs) (front ++ take n xs)
more-taken front xs m n few = (
  drop m (take n xs),
  ap (λ these. front ++ these) (sym (take-append-drop m (take n xs)) ∙ ap (λ these. these ++ drop m (take n xs)) (take-take m n xs few)) ∙ sym (append_assoc front (take m xs) (drop m (take n xs))),
)

due-longer : (begun : Begun) (past : List Step) (step : Step) → IsLonger (due begun past) (due begun (step ∷ past))
due-longer begun past (Gave sent) = ([], sym (append-nil (due begun past)))
due-longer begun past (Closed sent answer) = more-taken (primaries begun) (handoffs begun) _ _ (missed-grows (deletes past) (judge_delete sent.device sent.msg answer))

pub grew : (begun : Begun) (past : List Step) → Grew (due begun) past
grew begun [] = tt
grew begun (step ∷ past) = (due-longer begun past step, grew begun past)

pub length-due : (front rest : List ℕ) (n : ℕ) → length (front ++ take n rest) ≤ length front + length rest
length-due front rest n = omega (arith, length-append front (take n rest), length-take n rest)

-- the messages are no more than the primaries and the handoffs
pub due-few : (begun : Begun) (past : List Step) → length (due begun past) ≤ length (primaries begun) + length (handoffs begun)
due-few begun past = length-due (primaries begun) (handoffs begun) (length (missed (deletes past)))

-- ---- what stands at a number

taken : {A : Type 0} (xs : List A) (n i : ℕ) → i < n → slice_get (take n xs) i ≡ slice_get xs i
taken xs zero i below = absurd (omega (arith, below))
taken [] (suc n) i below = refl
taken (x ∷ xs) (suc n) zero below = refl
taken (x ∷ xs) (suc n) (suc i) below = taken xs n i (omega (arith, below))

module _ (front rest : List ℕ) (n i : ℕ) (from : length front ≤ i) where
  pub none-beyond : n ≤ i - length front → slice_get (front ++ take n rest) i ≡ None
  none-beyond few = slice_get_past (front ++ take n rest) i (omega (arith, from, few, length-append front (take n rest), length-take n rest))

  pub rest-beyond : i - length front < n → slice_get (front ++ take n rest) i ≡ slice_get rest (i - length front)
  rest-beyond below = slice_get-behind front (take n rest) i from ∙ taken rest n (i - length front) below
