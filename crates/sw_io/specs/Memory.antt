-- A source, a sink, a connection or doors in memory, as their callers see them.
use Rattle.std.specs.Prelude.{◌≡◌, ℕ, ◌-◌, Bool, false, List, [], Option, None, Some}

pub record MemoryModel : Type 0 where
  -- what a source has not given yet, or what was written to a sink
  pub bytes : List ℕ
  -- how many calls go on until each fails, where it was set to fail
  pub calls_left : Option ℕ
  -- how many calls have failed
  pub faults : ℕ

pub record ConnModel : Type 0 where
  -- what the peer is yet to send
  pub remaining : List ℕ
  -- how many bytes a read gives at most
  pub most : ℕ
  -- what was written
  pub written : List ℕ
  -- how many calls go on until each fails, where it was set to fail
  pub calls_left : Option ℕ
  -- how many calls have failed
  pub faults : ℕ
  pub is_closed : Bool

-- a connection at which nothing was done yet
pub record IsUnused (conn : ConnModel) : Type 0 where
  pub unwritten : conn.written ≡ []
  pub no_fault : conn.faults ≡ 0
  pub not_closed : conn.is_closed ≡ false

pub record DoorsModel : Type 0 where
  -- the connections that are yet to come
  pub left : List ConnModel
  -- those that were taken back, as they then were
  pub back : List ConnModel
  -- how many can be back without taking memory
  pub room : ℕ
  -- the ports that the doors were to be opened at
  pub ports : List ℕ
  pub is_open : Bool
  -- how many connections were handed out
  pub handed : ℕ
  -- how many calls go on until each fails, where they were set to fail
  pub calls_left : Option ℕ
  -- how many calls have failed
  pub faults : ℕ

-- what is left of the calls after one more
abbrev pub one_fewer : Option ℕ → Option ℕ
one_fewer None = None
one_fewer (Some calls) = Some (calls - 1)
