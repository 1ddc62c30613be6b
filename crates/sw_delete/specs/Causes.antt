-- Why a delete ended as it did, by what was answered.
use Rattle.std.specs.Prelude.{◌≡◌, ◌≢◌, ◌⊎◌, ℕ, ◌≤◌, ◌<◌, Bool, true, List, length, Contains, Option, Some}
use Rattle.std.specs.List.{All, AllPairs}
use Rattle.sw_hashdir.specs.Directory.{IsAbove}
use Rattle.sw_hashdir.specs.declared.floor.Floor.{Floor}
use Rattle.sw_message.specs.Floors.{refuses}
use Rattle.sw_message.specs.Transcript.{Closed, Step}
use Rattle.sw_message.specs.declared.miss.Miss.{Miss}
use Rattle.sw_message.specs.declared.reply.Reply.{Reply}
use Rattle.sw_message.specs.declared.reply.Reply.TheVariants as reply
use Rattle.sw_message.specs.declared.sent.Sent.{Sent}
use Rattle.sw_quorum.specs.Answers.{done, missed}
use Rattle.sw_quorum.specs.declared.verdict.Verdict.TheVariants.{Missed}
use Rattle.sw_delete.specs.Delete.{Begun, delete_message, deletes, handoffs, primaries}
use Rattle.sw_quorum.specs.Verdicts.{delete_verdict}

-- a device of the place: a primary or a handoff
abbrev pub IsPlaced : Begun → ℕ → Type 0
IsPlaced begun device = Contains (primaries begun) device ⊎ Contains (handoffs begun) device

-- ---- what was answered

-- the device answered the delete: it has the tombstone
abbrev pub WasMarked : Begun → List Step → ℕ → Type 0
WasMarked begun past device = (ticket : ℕ) × (existed : Bool) × Contains past (Closed (delete_message begun ticket device) (Some (reply.Deleted existed)))

-- its answer, or that there was none, was a miss
abbrev pub WasMissed : Begun → List Step → ℕ → Miss → Type 0
WasMissed begun past device miss =
    (ticket : ℕ) × (answer : Option Reply) × Contains past (Closed (delete_message begun ticket device) answer) × (delete_verdict begun.stamp answer ≡ Missed miss)

-- some reply told of a floor that refuses the tombstone
abbrev pub WasTold : Begun → List Step → Floor → Type 0
WasTold begun past floor = ((sent : Sent) × Contains past (Closed sent (Some (reply.Superseded floor)))) × (refuses floor begun.stamp ≡ true)

-- some reply told that the object was there, durable
abbrev pub ToldExisted : List Step → Type 0
ToldExisted past = (sent : Sent) × Contains past (Closed sent (Some (reply.Deleted true)))

-- so many different devices of the place have the tombstone
pub record AreMarked (begun : Begun) (past : List Step) (count : ℕ) (devices : List ℕ) : Type 0 where
  pub counted : length devices ≡ count
  pub apart : AllPairs (λ one other. one ≢ other) devices
  pub placed : All (IsPlaced begun) devices
  pub marked : All (WasMarked begun past) devices

-- ---- the causes of the ends

pub record IsDeleted (begun : Begun) (past : List Step) (stamp marks : ℕ) (existed : Bool) : Type 0 where
  pub own : stamp ≡ begun.stamp
  pub counted : marks ≡ length (done (deletes past))
  pub enough : begun.cluster.policy.c ≤ marks
  pub devices : List ℕ
  pub marked : AreMarked begun past marks devices
  -- it existed exactly where some reply told so
  pub existed_told : existed ≡ true → ToldExisted past
  pub told_existed : ToldExisted past → existed ≡ true

pub record IsSuperseded (begun : Begun) (past : List Step) (floor : Floor) : Type 0 where
  pub told : WasTold begun past floor
  pub greatest : (other : Floor) → WasTold begun past other → IsAbove other floor → ⊥
  pub few : length (done (deletes past)) < begun.cluster.policy.c

pub record IsTooFewMarks (begun : Begun) (past : List Step) (have : ℕ) (misses : List (ℕ × Miss)) : Type 0 where
  pub counted : have ≡ length (done (deletes past))
  pub few : have < begun.cluster.policy.c
  pub no_floor : (floor : Floor) → WasTold begun past floor → ⊥
  pub devices : List ℕ
  pub marked : AreMarked begun past have devices
  -- each primary and each handoff was asked, and is among them or has a miss
  pub others : (device : ℕ) → IsPlaced begun device → Contains devices device ⊎ ((miss : Miss) × Contains misses (device, miss) × WasMissed begun past device miss)
  pub misses_are : misses ≡ missed (deletes past)
