-- What the answers to a write say: what was done, which floors forbid it, and what was missed.
use Rattle.std.specs.Prelude.{Bool, true, false, List, [], ◌∷◌, ◌++◌, flat_map, Option}
use Rattle.sw_hashdir.specs.declared.floor.Floor.{Floor}
use Rattle.sw_message.specs.Transcript.{Closed, Gave, Step}
use Rattle.sw_message.specs.declared.miss.Miss.{Miss}
use Rattle.sw_message.specs.declared.miss.Miss.TheVariants as miss
use Rattle.sw_message.specs.declared.reply.Reply.{Reply}
use Rattle.sw_message.specs.declared.sent.Sent.{Sent}
use Rattle.sw_quorum.specs.declared.verdict.Verdict.{Verdict}
use Rattle.sw_quorum.specs.declared.verdict.Verdict.TheVariants.{Done, Forbidden, Missed}

-- what a refusal by a floor means: it forbids the write, or it is odd
abbrev pub forbidden_if : Bool → Floor → Verdict
forbidden_if true floor = Forbidden floor
forbidden_if false floor = Missed miss.Odd

-- an answer, judged: what it is about, and what it means for that
pub record Judged (T : Type 0) : Type 0 where
  pub about : T
  pub verdict : Verdict

-- the answers of a transcript that some judge takes, in the order in which they came
abbrev pub answers : {T : Type 0} → (Sent → Option Reply → List (Judged T)) → List Step → List (Judged T)
answers judge [] = []
answers judge (Gave sent ∷ past) = answers judge past
answers judge (Closed sent answer ∷ past) = answers judge past ++ judge sent answer

abbrev pub done_in : {T : Type 0} → T → Verdict → List T
done_in about Done = about ∷ []
done_in about (Forbidden floor) = []
done_in about (Missed miss) = []

abbrev pub floors_from : Verdict → List Floor
floors_from Done = []
floors_from (Forbidden floor) = floor ∷ []
floors_from (Missed miss) = []

abbrev pub missed_in : {T : Type 0} → T → Verdict → List (T × Miss)
missed_in about Done = []
missed_in about (Forbidden floor) = []
missed_in about (Missed miss) = (about, miss) ∷ []

-- of some answers: what was done, the floors that forbid it, and what was missed and why
abbrev pub done : {T : Type 0} → List (Judged T) → List T
done {T} judged = flat_map (λ (one : Judged T). done_in one.about one.verdict) judged

abbrev pub floors : {T : Type 0} → List (Judged T) → List Floor
floors {T} judged = flat_map (λ (one : Judged T). floors_from one.verdict) judged

abbrev pub missed : {T : Type 0} → List (Judged T) → List (T × Miss)
missed {T} judged = flat_map (λ (one : Judged T). missed_in one.about one.verdict) judged
