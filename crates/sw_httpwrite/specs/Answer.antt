-- Answers to requests.
use Rattle.std.specs.Prelude.{◌≡◌, ◌<◌, ◌==◌, ◌||◌, ℕ, Bool, false, List, length, All, IsSome}
use Rattle.std.specs.List.{list_any}
use Rattle.http.specs.StatusCode.{IsStatusCode, reason_phrase}

-- the name of a field, and its value
abbrev pub Field : Type 0
Field = List ℕ × List ℕ

-- what contracts see of an answer
pub record AnswerModel : Type 0 where
  pub status : ℕ
  pub fields : List Field
  pub body : List ℕ
  -- whether the connection is closed behind it
  pub close : Bool

-- a status code that `http` has a phrase for
abbrev pub HasPhrase : ℕ → Type 0
HasPhrase status = IsStatusCode status × IsSome (reason_phrase status)

-- no carriage return and no line feed
abbrev pub IsInLine : List ℕ → Type 0
IsInLine text = list_any (λ byte. byte == 13 || byte == 10) text ≡ false

-- each field is one line
abbrev pub AreInLines : List Field → Type 0
AreInLines fields = All (λ field. IsInLine field.0 × IsInLine field.1) fields

-- a line that isn't empty
abbrev pub IsFullLine : List ℕ → Type 0
IsFullLine line = (0 < length line) × IsInLine line
