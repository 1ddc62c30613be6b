-- Heads of requests, as they are read.
use Rattle.std.specs.Prelude.{ℕ, List}

-- what contracts see of a head: the fields are names and values, in order
pub record RequestHeadModel : Type 0 where
  pub method : List ℕ
  pub target : List ℕ
  pub minor : ℕ
  pub fields : List (List ℕ × List ℕ)
