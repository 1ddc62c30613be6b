-- Why a put ended as it did, by what was answered.
use Rattle.std.specs.Prelude.{◌≡◌, ◌≢◌, ◌⊎◌, ℕ, ◌+◌, ◌≤◌, ◌<◌, List, length, Contains, Option, Some}
use Rattle.std.specs.List.{All, AllPairs}
use Rattle.sw_hashdir.specs.Directory.{IsAbove, StandsAbove}
use Rattle.sw_hashdir.specs.declared.floor.Floor.{Floor}
use Rattle.sw_message.specs.Transcript.{Closed, Step, given}
use Rattle.sw_message.specs.Warrant.{IsHome}
use Rattle.sw_message.specs.declared.miss.Miss.{Miss}
use Rattle.sw_message.specs.declared.reply.Reply.{Reply}
use Rattle.sw_message.specs.declared.reply.Reply.TheVariants as reply
use Rattle.sw_message.specs.declared.sent.Sent.{Sent}
use Rattle.sw_message.specs.declared.target.Target.{Target}
use Rattle.sw_quorum.specs.Answers.{done}
use Rattle.sw_quorum.specs.declared.verdict.Verdict.TheVariants.{Missed}
use Rattle.sw_put.specs.Put.{Begun, commits, handoffs, misses, place_of, put_message, stores}
use Rattle.sw_quorum.specs.Verdicts.{commit_verdict, store_verdict}
use Rattle.sw_put.specs.declared.errand.Errand.TheVariants.{CommitAt, StoreAt}

-- ---- what was answered

-- the device answered that it has stored the fragment of the index, or made it durable
abbrev pub WasStored : Begun → List Step → Target → Type 0
WasStored begun past target = (ticket : ℕ) × Contains past (Closed (put_message begun ticket (StoreAt target)) (Some reply.Synced))

abbrev pub WasCommitted : Begun → List Step → Target → Type 0
WasCommitted begun past target = (ticket : ℕ) × Contains past (Closed (put_message begun ticket (CommitAt target)) (Some reply.Committed))

-- its answer to the fragment, or that there was none, was a miss
abbrev pub WasMissed : Begun → List Step → Target → Miss → Type 0
WasMissed begun past target miss =
    (ticket : ℕ) × (answer : Option Reply) × Contains past (Closed (put_message begun ticket (StoreAt target)) answer) × (store_verdict begun.stamp answer ≡ Missed miss)

-- its answer to the commit, or that there was none, was a miss
abbrev pub WasNotCommitted : Begun → List Step → Target → Miss → Type 0
WasNotCommitted begun past target miss =
    (ticket : ℕ) × (answer : Option Reply) × Contains past (Closed (put_message begun ticket (CommitAt target)) answer) × (commit_verdict begun.stamp answer ≡ Missed miss)

-- the fragment of the index was handed out to the device
abbrev pub WasSent : Begun → List Step → Target → Type 0
WasSent begun past target = (ticket : ℕ) × Contains (given past) (put_message begun ticket (StoreAt target))

-- some reply told of a floor that stands above the put's stamp
abbrev pub WasTold : Begun → List Step → Floor → Type 0
WasTold begun past floor = ((sent : Sent) × Contains past (Closed sent (Some (reply.Superseded floor)))) × StandsAbove floor begun.stamp

-- so many targets, of different indices
pub record AreMany (count : ℕ) (targets : List Target) : Type 0 where
  pub counted : length targets ≡ count
  pub indices : AllPairs (λ one other. one.index ≢ other.index) targets

-- ---- the causes of the ends

pub record IsCreated (begun : Begun) (past : List Step) (stamp count : ℕ) : Type 0 where
  pub own : stamp ≡ begun.stamp
  pub counted : count ≡ length (done (commits past))
  pub enough : begun.cluster.policy.c ≤ count
  pub targets : List Target
  pub many : AreMany count targets
  pub devices : AllPairs (λ one other. one.device ≢ other.device) targets
  pub homes : All (IsHome begun.cluster (place_of begun)) targets
  pub stored : All (WasStored begun past) targets
  pub committed : All (WasCommitted begun past) targets

pub record IsSuperseded (begun : Begun) (past : List Step) (floor : Floor) : Type 0 where
  pub told : WasTold begun past floor
  pub greatest : (other : Floor) → WasTold begun past other → IsAbove other floor → ⊥
  pub few : length (done (commits past)) < begun.cluster.policy.c

pub record IsTooFewSynced (begun : Begun) (past : List Step) (have : ℕ) (missed : List (ℕ × Miss)) : Type 0 where
  pub counted : have ≡ length (done (stores past))
  pub few : have < begun.cluster.policy.q
  pub no_floor : (floor : Floor) → WasTold begun past floor → ⊥
  pub targets : List Target
  pub many : AreMany have targets
  pub stored : All (WasStored begun past) targets
  -- each index is among them or has a miss, which is listed
  pub others : (index : ℕ) → index < begun.cluster.policy.k + begun.cluster.policy.m
      → ((target : Target) × Contains targets target × (target.index ≡ index))
      ⊎ ((target : Target) × (miss : Miss) × (target.index ≡ index) × WasMissed begun past target miss × Contains missed (target.device, miss))
  pub handoffs_used : All (λ handoff. (index : ℕ) × WasSent begun past (record { index = index; device = handoff })) (handoffs begun)
  pub misses_are : missed ≡ misses (stores past)
  -- each that is listed was the miss of a fragment; no device is listed twice; and each message was stored or is listed
  pub listed : (device : ℕ) (miss : Miss) → Contains missed (device, miss) → (index : ℕ) × WasMissed begun past (record { index = index; device = device }) miss
  pub devices : AllPairs (λ one other. one.0 ≢ other.0) missed
  pub all : have + length missed ≡ length (given past)

pub record IsTooFewCommits (begun : Begun) (past : List Step) (have : ℕ) (missed : List (ℕ × Miss)) : Type 0 where
  pub counted : have ≡ length (done (commits past))
  pub few : have < begun.cluster.policy.c
  pub no_floor : (floor : Floor) → WasTold begun past floor → ⊥
  pub enough : begun.cluster.policy.q ≤ length (done (stores past))
  pub targets : List Target
  pub many : AreMany have targets
  pub committed : All (WasCommitted begun past) targets
  -- each that was stored was made durable or has a miss, which is listed
  pub each : (target : Target) → Contains (done (stores past)) target
      → WasCommitted begun past target ⊎ ((miss : Miss) × WasNotCommitted begun past target miss × Contains missed (target.device, miss))
  -- each of them once
  pub others : have + length missed ≡ length (done (stores past))
  pub misses_are : missed ≡ misses (commits past)
  -- each that is listed was the miss of one that was stored; and no device is listed twice
  pub listed : (device : ℕ) (miss : Miss) → Contains missed (device, miss)
      → (index : ℕ) × Contains (done (stores past)) (record { index = index; device = device }) × WasNotCommitted begun past (record { index = index; device = device }) miss
  pub devices : AllPairs (λ one other. one.0 ≢ other.0) missed
