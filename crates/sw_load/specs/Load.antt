-- The run of a list of events in an empty world, and how its operations ended.
use Rattle.std.specs.Prelude.{◌≡◌, List, [], ◌∷◌}
use Rattle.sw_ring.specs.Cluster.{ClusterModel}
use Rattle.sw_operation.specs.declared.end.OpEnd.{OpEnd}
use Rattle.sw_operation.specs.declared.end.OpEnd.TheVariants.{Delete, Get, Head, Put, Revert, Sync}
use Rattle.sw_script.specs.declared.event.Event.{Event}
use Rattle.sw_sim_exchange.specs.declared.lines.EndLine.{EndLine}
use Rattle.sw_sim_world.specs.Doing.{DoesEvent, Done}
use Rattle.sw_sim_world.specs.ScriptedWorld.{ScriptedWorld, empty_script}
use Rattle.sw_lab.specs.Summary.{empty_summary, with_delete, with_get, with_job, with_put}
use Rattle.sw_lab.specs.declared.summary.Summary.{Summary}

-- ---- what is done

-- each of these events was done, one after the other
abbrev pub DoesEach : (before : ScriptedWorld) → List Event → List Done → (after : ScriptedWorld) → Type 0
DoesEach before [] [] after = after ≡ before
DoesEach before (event ∷ events) (done ∷ story) after = (done.event ≡ event) × DoesEvent before done × DoesEach done.after events story after
DoesEach before events story after = ⊥

-- ---- what is counted

abbrev pub with_end : OpEnd → Summary → Summary
with_end (Put end) summary = with_put end summary
with_end (Get end) summary = with_get end summary
with_end (Head end) summary = with_get end summary
with_end (Delete end) summary = with_delete end summary
with_end (Sync end) summary = with_job summary
with_end (Revert end) summary = with_job summary

-- the first of these ends first
abbrev pub with_ends : List EndLine → Summary → Summary
with_ends [] summary = summary
with_ends (line ∷ lines) summary = with_ends lines (with_end line.end summary)

-- all ends that are told in a story
abbrev pub with_story : List Done → Summary → Summary
with_story [] summary = summary
with_story (done ∷ story) summary = with_story story (with_ends done.told.ends summary)

-- ---- the run

-- All of these events were done, from the empty world of a cluster on, and this is the summary of all that ended.
pub record HasRun (cluster : ClusterModel) (events : List Event) (summary : Summary) : Type 0 where
  pub story : List Done
  pub after : ScriptedWorld
  pub does : DoesEach (empty_script cluster) events story after
  pub counted : summary ≡ with_story story empty_summary
