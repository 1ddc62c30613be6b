-- The answer of `play` to its whole input.
use Rattle.std.specs.Prelude.{◌≡◌, ◌⊎◌, ℕ, List, []}
use Rattle.sw_words.specs.Memory.{UnlessMemory}
use Rattle.swift_main.specs.declared.playing.Answer.{Answer}
use Rattle.swift_main.specs.declared.status.Status.{Status}
use Rattle.swift_main.specs.declared.status.Status.TheVariants.{NoMemory}
use Rattle.swift_main.specs.Outcome.{PlayGives, text_of}

-- Status and text are what the input gives, unless memory was wanted: then the text is what is told of some first events, each whole.
pub record IsAnswer (input : List ℕ) (answer : Answer) : Type 0 where
  pub whole : UnlessMemory NoMemory answer.status ((told : List ℕ) × PlayGives input answer.status told × (answer.text ≡ text_of answer.status told))
  pub part : answer.status ≡ NoMemory → (answer.text ≡ []) ⊎ PlayGives input NoMemory answer.text

-- the same of a part of the input, by what that gives
pub record IsAnswerBy (gives : Status → List ℕ → Type 0) (answer : Answer) : Type 0 where
  pub whole : UnlessMemory NoMemory answer.status ((told : List ℕ) × gives answer.status told × (answer.text ≡ text_of answer.status told))
  pub part : answer.status ≡ NoMemory → (answer.text ≡ []) ⊎ gives NoMemory answer.text

-- of a status that nothing is told with: its last line is all
pub record IsLastLine (status : Status) (answer : Answer) : Type 0 where
  pub whole : UnlessMemory NoMemory answer.status ((answer.status ≡ status) × (answer.text ≡ text_of status []))
  pub part : answer.status ≡ NoMemory → answer.text ≡ []
