-- What reading adds to the unused bytes, and that no more is read than is needed.
use Rattle.std.specs.Prelude.{◌≡◌, ◌⊎◌, ℕ, ◌≤◌, List, [], ◌++◌, length, Option}
use Rattle.std.specs.Io.KnownBytes.{Consumes, IsAtEnd}
use Rattle.sw_words.specs.Counts.{Rose, one_more}

-- the greatest number of bytes that one read brings
abbrev pub greatest_read : ℕ
greatest_read = 65536

-- one read brought so many bytes behind those that were unused, none only at the end
pub record IsRead (left left' : Option (List ℕ)) (unused unused' : List ℕ) (count : ℕ) : Type 0 where
  pub piece : List ℕ
  pub consumed : Consumes left left' piece
  pub grown : unused' ≡ unused ++ piece
  pub counted : length piece ≡ count
  pub bound : count ≤ greatest_read
  pub end : count ≡ 0 → IsAtEnd left'

-- what was read was needed: nothing was, or before the last of it, which one read brings, the bytes decided nothing
abbrev pub IsNeeded : (List ℕ → Type 0) → List ℕ → List ℕ → Type 0
IsNeeded IsOpen unused got =
    (got ≡ []) ⊎ ((before : List ℕ) × (last : List ℕ) × (got ≡ before ++ last) × (length last ≤ greatest_read) × IsOpen (unused ++ before))

-- bytes were read behind those that were unused, and no more than was needed
pub record Grew (IsOpen : List ℕ → Type 0) (left left' : Option (List ℕ)) (unused unused' : List ℕ) : Type 0 where
  pub got : List ℕ
  pub consumed : Consumes left left' got
  pub grown : unused' ≡ unused ++ got
  pub needed : IsNeeded IsOpen unused got

-- the count of faults rose by one where reading failed, and else it is what it was
pub record CountsFault (failed : Type 0) (before after : ℕ) : Type 0 where
  pub never_falls : before ≤ after
  pub cause : failed → Rose before after
  pub counted : failed → after ≡ one_more before
  pub quiet : (¬ failed) → after ≡ before
