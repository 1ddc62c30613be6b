-- A line that runs a job leads alone to where its operation is over.
use Rattle.std.proofs.Common.{◌≡◌, ℕ, ◌≤◌, Bool, true, Contains, List, [], ◌∷◌, length, Option, Some, None, refl, sym, ap, subst, ◌∙◌}
use Rattle.std.specs.List.{All}
use Rattle.std.proofs.lemmas.Bool.{true≢false}
use Rattle.std.proofs.lemmas.Option.{same_Some}
use Rattle.sw_diskfile.proofs.Lists.{Contains-none}
use Rattle.sw_hashdir.specs.Listing.{ListingModel}
use Rattle.sw_ring.specs.Cluster.{ClusterModel}
use Rattle.sw_message.specs.Transcript.{Closed}
use Rattle.sw_message.specs.declared.reply.Reply.{Reply}
use Rattle.sw_message.specs.declared.reply.Reply.TheVariants as reply
use Rattle.sw_get.specs.Get as gets
use Rattle.sw_law_scene.specs.Scene.{is_up}
use Rattle.sw_core.specs.Event.{Event, Happens, Start}
use Rattle.sw_operation.specs.Operating.{Begun}
use Rattle.sw_core.specs.Sound.{IsSoundWorld}
use Rattle.sw_core.specs.World.{Operating, World, numbered}
use Rattle.sw_law_steady.specs.Steady.{MissesAlike}
use Rattle.sw_law_alone.specs.Alone.{LeadsAlone}
use Rattle.sw_law_complete.specs.Complete.{IsDelivery}
use Rattle.sw_script.specs.declared.event.Job.{Job}
use Rattle.sw_sim_world.specs.ScriptedWorld.{AreSteps, IsOver, ScriptedWorld, Step, events_in}
use Rattle.sw_sim_world.specs.Unfolding.{StartsAndRunsOut, job_of}
use Rattle.sw_play.proofs.Answering.{IsHeld}
use Rattle.sw_play.proofs.OwnRuns.{AllUp, runs_out}
use Rattle.sw_play.proofs.OwnStarts.{begun_by, next_number, starts_on_way}
use Rattle.sw_play.proofs.Waits.{IsOnWay}

-- The job starts, and nothing steps beside its operation until that is over. None of its messages is given up where all that it asks are up.
pub record RanAlone (cluster : ClusterModel) (before : ScriptedWorld) (of : Job) (after : ScriptedWorld) : Type 0 where
  pub started : World
  pub starts : Happens (Start (job_of of)) before.world started
  pub own : List Event
  pub leads : LeadsAlone (next_number before.world) started own after.world
  pub delivers : AllUp (next_number before.world) (is_up before.world.scene) after.world → All IsDelivery own
  pub on_way : IsOnWay cluster (next_number before.world) (begun_by before.world (job_of of)) (is_up before.world.scene) after
  pub over : IsOver (next_number before.world) after

pub ran_alone : (cluster : ClusterModel) (before : ScriptedWorld) → IsSoundWorld cluster before.world → ((message : ℕ) → Contains before.delivered message → message ≤ length before.world.scene.messages) → (of : Job) (steps : List Step) (after : ScriptedWorld)
    → AreSteps before steps after → StartsAndRunsOut of before steps → RanAlone cluster before of after
ran_alone cluster before sound within of [] after same out = absurd out
ran_alone cluster before sound within of (first ∷ steps) after (is_step, are) (event_is, out) =
    let number = next_number before.world in
    let begun = begun_by before.world (job_of of) in
    let up = is_up before.world.scene in
    let on_way = starts_on_way cluster before sound within (job_of of) first is_step event_is in
    let run = runs_out cluster number begun up steps first.after after [] on_way (λ ticket has. absurd (Contains-none ticket has)) are out in
    record {
      started = first.after.world;
      starts = subst (λ (event : Event). Happens event before.world first.after.world) event_is is_step.happens;
      own = events_in steps;
      leads = run.leads;
      delivers = run.delivers;
      on_way = run.on_way;
      over = run.over;
    }

-- ---- a get

-- what is held is a listing
held : (answer : Reply) → IsHeld answer → (same : ListingModel) × (Some answer ≡ Some (reply.Held same))
held (reply.Held listing) is = (listing, refl)
held reply.Synced none = absurd none
held reply.Committed none = absurd none
held (reply.Deleted existed) none = absurd none
held (reply.Superseded floor) none = absurd none
held reply.Missing none = absurd none
held (reply.Fragment bytes) none = absurd none
held (reply.Gone listing) none = absurd none
held (reply.Spoiled spoil) none = absurd none
held reply.Kept none = absurd none
held reply.Removed none = absurd none
held other none = absurd none

module _ (cluster : ClusterModel) (number : ℕ) (begun : Begun) (up : ℕ → Bool) (after : ScriptedWorld) (is : IsOnWay cluster number begun up after) (operation : Operating) (there : numbered after.world.operations number ≡ Some operation) where
  same_operation : is.answering.operation ≡ operation
  same_operation = same_Some is.answering.operation operation (sym is.answering.goes.there ∙ there)

  -- what it was begun with
  pub begun_so : operation.begun ≡ begun
  begun_so = ap (λ (one : Operating). one.begun) (sym same_operation) ∙ is.answering.goes.begun_is

  -- a device that misses a question of it misses all
  pub misses_alike : (get : gets.Begun) → MissesAlike get operation.past
  misses_alike get device ticket other answer listing here there_too = by_answer answer there_too
    where
      is_up_now : up device ≡ true
      is_up_now =
          let made = (is.sound.operations number operation there).told (gets.ask_message get ticket device) (reply.Held listing) here in
          (is.answering.goes.answers made.0 (gets.ask_message get ticket device) (reply.Held listing) made.2).0

      by_answer : (answer : Option Reply) → Contains operation.past (Closed (gets.ask_message get other device) answer) → (same : ListingModel) × (answer ≡ Some (reply.Held same))
      by_answer None missed =
          let is_down = is.answering.goes.missed (gets.ask_message get other device) (subst (λ (one : Operating). Contains one.past (Closed (gets.ask_message get other device) None)) (sym same_operation) missed) in
          absurd (true≢false (sym is_up_now ∙ is_down))
      by_answer (Some given) told =
          let made = (is.sound.operations number operation there).told (gets.ask_message get other device) given told in
          held given (is.answering.goes.answers made.0 (gets.ask_message get other device) given made.2).1
