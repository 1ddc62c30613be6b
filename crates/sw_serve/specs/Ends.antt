-- What the count of a connection tells of its end.
use Rattle.std.specs.Prelude.{◌≡◌, ◌⊎◌, ◌≤◌, ℕ, ⊤}
use Rattle.sw_words.specs.Counts.{Rose, one_more}
use Rattle.sw_serve.specs.declared.end.ConnEnd.{ConnEnd}
use Rattle.sw_serve.specs.declared.end.ConnEnd.TheVariants.{Closed, Cut, ReadFault, WriteFault}

-- the connection's count rose
abbrev pub IsFaulty : ConnEnd → Type 0
IsFaulty ReadFault = ⊤
IsFaulty WriteFault = ⊤
IsFaulty other = ⊥

-- it is what it was
abbrev pub IsFaultless : ConnEnd → Type 0
IsFaultless Closed = ⊤
IsFaultless Cut = ⊤
IsFaultless other = ⊥

pub record CountsEnd (end : ConnEnd) (before after : ℕ) : Type 0 where
  pub never_falls : before ≤ after
  pub cause : IsFaulty end → Rose before after
  pub counted : IsFaulty end → after ≡ one_more before
  pub quiet : IsFaultless end → after ≡ before
  -- once at most, also where memory was wanted
  pub once : (after ≡ before) ⊎ (after ≡ one_more before)
