-- What contracts see of a source and of a sink at one time. Either may tell nothing of its bytes.
use Rattle.std.specs.Prelude.{ℕ, List, Option}

pub record SourceSeen : Type 0 where
  -- the bytes that are left
  pub left : Option (List ℕ)
  pub faults : ℕ

pub record SinkSeen : Type 0 where
  -- the bytes that were written
  pub written : Option (List ℕ)
  pub faults : ℕ
