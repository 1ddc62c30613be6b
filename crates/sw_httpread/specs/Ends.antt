-- Where a head, a chunk line or a trailer section ends. Each has at most 8,192 bytes.
use Rattle.std.specs.Prelude.{◌≡◌, ℕ, ◌<◌, ◌≤◌, List, ◌++◌, length, take}
use Rattle.sw_httpread.specs.declared.ending.Ending.{Ending}
use Rattle.sw_httpread.specs.declared.ending.Ending.TheVariants.{Whole, Nowhere, Unended}

-- the greatest number of bytes of each
abbrev pub greatest_length : ℕ
greatest_length = 8192

-- the bytes begin with a whole one, of a length that is allowed
pub record Ends (IsWhole : List ℕ → Type 0) (bytes front rest : List ℕ) : Type 0 where
  pub split : bytes ≡ front ++ rest
  pub whole : IsWhole front
  pub bound : length front ≤ greatest_length

abbrev pub EndsNotYet : (List ℕ → Type 0) → List ℕ → Type 0
EndsNotYet IsWhole bytes = (front rest : List ℕ) → ¬ (Ends IsWhole bytes front rest)

-- it may still end within the limit
abbrev pub IsUnended : (List ℕ → Type 0) → List ℕ → Type 0
IsUnended IsWhole bytes = (length bytes < greatest_length) × EndsNotYet IsWhole bytes

-- so many bytes have come, and it doesn't end within the limit
abbrev pub EndsNowhere : (List ℕ → Type 0) → List ℕ → Type 0
EndsNowhere IsWhole bytes = (greatest_length ≤ length bytes) × EndsNotYet IsWhole bytes

-- no front of the bytes is a whole one
abbrev pub HasNoWhole : (List ℕ → Type 0) → List ℕ → Type 0
HasNoWhole IsWhole bytes = (front rest : List ℕ) → bytes ≡ front ++ rest → ¬ (IsWhole front)

-- the first so many bytes are a whole one
abbrev pub HasWhole : (List ℕ → Type 0) → List ℕ → ℕ → Type 0
HasWhole IsWhole bytes n = (n ≤ length bytes) × IsWhole (take n bytes)

-- where it ends, as far as some bytes tell
abbrev pub IsEnding : (List ℕ → Type 0) → List ℕ → Ending → Type 0
IsEnding IsWhole bytes (Whole n) = HasWhole IsWhole bytes n × (n ≤ greatest_length)
IsEnding IsWhole bytes Nowhere = EndsNowhere IsWhole bytes
IsEnding IsWhole bytes Unended = IsUnended IsWhole bytes
