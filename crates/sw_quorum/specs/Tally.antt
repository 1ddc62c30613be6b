-- What contracts see of a tally.
use Rattle.std.specs.Prelude.{ℕ, ◌≤◌, List, length, Option}
use Rattle.sw_hashdir.specs.declared.floor.Floor.{Floor}
use Rattle.sw_message.specs.Floors.{highest}
use Rattle.sw_message.specs.declared.miss.Miss.{Miss}
use Rattle.sw_quorum.specs.Answers.{Judged, done, floors, missed}

-- what was done, the greatest floor that forbids it, what was missed and why, and how many answers there were
pub record Counts (T : Type 0) : Type 0 where
  pub done : List T
  pub floor : Option Floor
  pub missed : List (T × Miss)
  pub answered : ℕ

abbrev pub counts_of : {T : Type 0} → List (Judged T) → Counts T
counts_of answers = record { done = done answers; floor = highest (floors answers); missed = missed answers; answered = length answers }

-- those, and for how many answers there is room
pub record TallyModel (T : Type 0) : Type 0 where
  pub counts : Counts T
  pub room : ℕ

-- there are no more than there were answers
pub record IsWithin {T : Type 0} (counts : Counts T) : Type 0 where
  pub done : length counts.done ≤ counts.answered
  pub missed : length counts.missed ≤ counts.answered
