-- What a put counts is apart: fragments of different indices at different devices, each its index's primary or a handoff.
use Rattle.std.proofs.Common.{◌≡◌, ℕ, ◌≤◌, not, ◌&&◌, ◌||◌, List, [], length, Some, is_some, subst, arith}
use Rattle.std.specs.Prelude.{nat_lt}
use Rattle.std.specs.List.{sum_by}
use Rattle.std.proofs.lemmas.Bool.{cond_both}
use Rattle.std.proofs.lemmas.List.Elements.{All-weaker}
use Rattle.sw_ring.specs.Cluster.{ClusterModel}
use Rattle.sw_message.specs.Floors.{highest}
use Rattle.sw_message.specs.Targets.{ascending}
use Rattle.sw_message.specs.Transcript.{IsRun as IsRunOf, Step}
use Rattle.sw_message.specs.Warrant.{IsHome}
use Rattle.sw_message.specs.declared.target.Target.{Target}
use Rattle.sw_message.proofs.Ascents.{sum_ascending}
use Rattle.sw_quorum.specs.Answers.{Judged, done, floors}
use Rattle.sw_quorum.proofs.Laws.{parts}
use Rattle.sw_quorum.proofs.Places.{apart-from_once}
use Rattle.sw_put.specs.Causes.{WasStored}
use Rattle.sw_put.specs.Put as puts
use Rattle.sw_put.proofs.Causes.{IsMade, told-all}
use Rattle.sw_put.proofs.Dues.{commits_due_by, stores_due_by}
use Rattle.sw_put.proofs.Homes.{IsFit, known}
use Rattle.sw_put.proofs.Transcripts.{commits-balance, grew}
use Rattle.sw_put.proofs.Warrants.{device-once, devices-apart, index-once, indices-apart}
use Rattle.sw_put.proofs.Weights.{has_device, has_index}
use Rattle.sw_core.specs.Event.{Event, IsRun}
use Rattle.sw_operation.specs.Operating.{Begun, IsBegun, IsNext, Put}
use Rattle.sw_core.specs.World.{Operating, World, numbered}
use Rattle.sw_core.proofs.Happening.{run-sound}
use Rattle.sw_law_owed.specs.Decided.{AreApart}
use Rattle.sw_law_duties.specs.Counted.{CountsApart}

-- commits go out for no more than what is stored
due_within : (begun : puts.Begun) (judged : List (Judged Target)) (w : Target → ℕ) → sum_by w (commits_due_by begun judged) ≤ sum_by w (done judged)
due_within begun judged w =
    cond_both (not (nat_lt (length judged) (length (stores_due_by begun judged))) && not (is_some (highest (floors judged)) || nat_lt (length (done judged)) begun.cluster.policy.q)) (ascending (done judged)) []
    (λ (targets : List Target). sum_by w targets ≤ sum_by w (done judged)) (λ _. omega (arith, sum_ascending w (done judged))) (λ _. omega arith)

module _ (begun : puts.Begun) (past : List Step) (valid : puts.IsBegun begun) (run : IsRunOf (puts.IsNext begun) past) where
  -- what was stored
  pub stored_apart : AreApart begun.cluster (puts.place_of begun) (done (puts.stores past))
  stored_apart = record {
    indices = indices-apart begun past run;
    devices = devices-apart begun past run valid;
    homes = All-weaker (λ target. IsFit begun target × WasStored begun past target) (IsHome begun.cluster (puts.place_of begun)) (λ target was. was.0.home) (done (puts.stores past)) (known begun valid past run).stored;
  }

  -- each commit is for one that was stored
  within : (w : Target → ℕ) → sum_by w (done (puts.commits past)) ≤ sum_by w (done (puts.stores past))
  within w = omega (arith, commits-balance begun past run (grew begun past run) w, parts w (puts.commits past), due_within begun (puts.stores past) w)

  -- what was made durable
  pub committed_apart : AreApart begun.cluster (puts.place_of begun) (done (puts.commits past))
  committed_apart = record {
    indices = apart-from_once (λ (target : Target). target.index) (done (puts.commits past)) (λ k. omega (arith, within (has_index k), index-once begun past run k));
    devices = apart-from_once (λ (target : Target). target.device) (done (puts.commits past)) (λ k. omega (arith, within (has_device k), device-once begun past run valid k));
    homes = All-weaker (IsMade begun past) (IsHome begun.cluster (puts.place_of begun)) (λ target was. was.0.home) (done (puts.commits past)) (told-all begun valid past run).made;
  }

-- so it is for each put of a run
pub counts_apart : (cluster : ClusterModel) (events : List Event) (world : World) → IsRun cluster events world → CountsApart world
counts_apart cluster events world run = record {
  stored = λ number operation begun is put. stored_apart begun operation.past (valid number operation begun is put) (runs number operation begun is put);
  committed = λ number operation begun is put. committed_apart begun operation.past (valid number operation begun is put) (runs number operation begun is put);
}
  where
    valid : (number : ℕ) (operation : Operating) (begun : puts.Begun) → numbered world.operations number ≡ Some operation → operation.begun ≡ Put begun → puts.IsBegun begun
    valid number operation begun is put = subst IsBegun put ((run-sound cluster events world run).operations number operation is).valid

    runs : (number : ℕ) (operation : Operating) (begun : puts.Begun) → numbered world.operations number ≡ Some operation → operation.begun ≡ Put begun → IsRunOf (puts.IsNext begun) operation.past
    runs number operation begun is put = subst (λ (one : Begun). IsRunOf (IsNext one) operation.past) put ((run-sound cluster events world run).operations number operation is).run
