-- How operations end beside which nothing steps; and so those that a line runs to its end.
use Rattle.std.specs.Prelude.{◌≡◌, ◌≤◌, ℕ, ◌+◌, Bool, true, List, [], ◌∷◌, ◌++◌, Contains, length, Some}
use Rattle.sw_types.specs.Name.{NameModel}
use Rattle.sw_types.specs.Object.{ObjectModel}
use Rattle.sw_ring.specs.Cluster.{place_of_name}
use Rattle.sw_message.specs.Message.{IsMember}
use Rattle.sw_delete.specs.Causes.{ToldExisted}
use Rattle.sw_delete.specs.declared.end.DeleteEnd.TheVariants.{Deleted}
use Rattle.sw_get.specs.Get as gets
use Rattle.sw_get.specs.declared.end.GetEnd.{GetEnd}
use Rattle.sw_get.specs.declared.end.GetEnd.TheVariants.{Overtaken}
use Rattle.sw_get.specs.declared.round_end.KeptEvent.{KeptEvent}
use Rattle.sw_put.specs.declared.end.PutEnd.TheVariants.{Created}
use Rattle.sw_law_scene.specs.Scene.{Scene, is_up}
use Rattle.sw_core.specs.Event.{stamp_in}
use Rattle.sw_operation.specs.Operating.{IsGetOf}
use Rattle.sw_core.specs.World.{Operating, numbered}
use Rattle.sw_law_steady.specs.Steady.{MissesAlike, kept_events}
use Rattle.sw_law_alone.specs.Alone.{IsAlone}
use Rattle.sw_law_complete.specs.Complete.{HasOwnPlace, HaveRoom}
use Rattle.sw_law_complete.specs.Ends.{EndsByWhatIsThere}
use Rattle.sw_script.specs.declared.event.Event.TheVariants as event
use Rattle.sw_script.specs.declared.event.Job.{Job}
use Rattle.sw_script.specs.declared.event.Job.TheVariants as job
use Rattle.sw_sim_exchange.specs.declared.lines.EndLine.{EndLine}
use Rattle.sw_operation.specs.declared.end.OpEnd.{OpEnd}
use Rattle.sw_operation.specs.declared.end.OpEnd.TheVariants as end
use Rattle.sw_sim_world.specs.Doing.{Done}
use Rattle.sw_sim_world.specs.ScriptedWorld.{ScriptedWorld, count_of}
use Rattle.sw_play.specs.Promised.{IsGetEnd, TellsEndOf}

-- the world after some lines
abbrev pub after_lines : ScriptedWorld → List Done → ScriptedWorld
after_lines first [] = first
after_lines first (done ∷ story) = after_lines done.after story

-- a line of a story, and the world before it
pub record IsLineOf (first : ScriptedWorld) (story : List Done) (before : ScriptedWorld) (done : Done) : Type 0 where
  pub front : List Done
  pub back : List Done
  pub is : story ≡ front ++ done ∷ back
  pub before_is : before ≡ after_lines first front

-- A line runs a job to its end, which is told.
pub record RunsJob (before : ScriptedWorld) (done : Done) (of : Job) (operation : Operating) (how : OpEnd) : Type 0 where
  pub event_is : done.event ≡ event.Run of
  pub line : EndLine
  pub told : Contains done.told.ends line
  pub number_is : line.operation ≡ count_of before + 1
  pub there : numbered done.after.world.operations line.operation ≡ Some operation
  pub end_is : line.end ≡ how

-- A line tells the end of a get, or a head, beside which nothing steps; and each device that misses a question of it misses all.
pub record TellsLoneGet (before : ScriptedWorld) (done : Done) (operation : Operating) (how : OpEnd) (begun : gets.Begun) : Type 0 where
  pub tells : TellsEndOf done operation how
  pub begun_is : IsGetOf operation.begun begun
  pub alone : IsAlone before.world.scene.cluster done.after.world tells.line.operation
  pub alike : MissesAlike begun operation.past

-- it is a get of a name, or a head
abbrev pub IsReading : NameModel → Job → Type 0
IsReading name (job.Get other) = other ≡ name
IsReading name (job.Head other) = other ≡ name
IsReading name other = ⊥

-- each device is up
abbrev pub AreUp : Scene → Type 0
AreUp scene = (device : ℕ) → IsMember scene.cluster device → is_up scene device ≡ true

-- A get beside which nothing steps keeps one round at most as an event and is not overtaken, and no get that a line runs is. Where all
-- devices are up before the line, a put for whose archives every disk has room is created with k + m commits, a delete is done with
-- k + m marks, and a get of a name whose place no other name has that was put ends by what devices have there.
pub record EndsInFull (first : ScriptedWorld) (story : List Done) : Type 0 where
  pub kept : (before : ScriptedWorld) (done : Done) (operation : Operating) (how : OpEnd) (begun : gets.Begun) (turns : List gets.Turn) → IsLineOf first story before done → TellsLoneGet before done operation how begun
      → gets.AreTurns begun operation.past turns → length (kept_events begun turns) ≤ 1
  pub lone : (before : ScriptedWorld) (done : Done) (operation : Operating) (how : OpEnd) (begun : gets.Begun) (events : List KeptEvent) → IsLineOf first story before done → TellsLoneGet before done operation how begun
      → IsGetEnd how (Overtaken events) → ⊥
  pub not_overtaken : (before : ScriptedWorld) (done : Done) (of : Job) (operation : Operating) (how : OpEnd) (events : List KeptEvent) → IsLineOf first story before done → RunsJob before done of operation how → IsGetEnd how (Overtaken events) → ⊥
  pub created : (before : ScriptedWorld) (done : Done) (name : NameModel) (object : ObjectModel) (operation : Operating) (how : OpEnd) → IsLineOf first story before done → RunsJob before done (job.Put name object) operation how
      → AreUp before.world.scene → HaveRoom before.world.scene (stamp_in before.world) name object
      → how ≡ end.Put (Created (stamp_in before.world) (before.world.scene.cluster.policy.k + before.world.scene.cluster.policy.m))
  pub deleted : (before : ScriptedWorld) (done : Done) (name : NameModel) (operation : Operating) (how : OpEnd) → IsLineOf first story before done → RunsJob before done (job.Delete name) operation how → AreUp before.world.scene
      → (existed : Bool) × (how ≡ end.Delete (Deleted (stamp_in before.world) (before.world.scene.cluster.policy.k + before.world.scene.cluster.policy.m) existed))
      × (existed ≡ true → ToldExisted operation.past) × (ToldExisted operation.past → existed ≡ true)
  pub gets : (before : ScriptedWorld) (done : Done) (name : NameModel) (of : Job) (operation : Operating) (how : OpEnd) → IsLineOf first story before done → RunsJob before done of operation how → IsReading name of
      → AreUp before.world.scene → HasOwnPlace before.world.scene name → (ending : GetEnd) × IsGetEnd how ending × EndsByWhatIsThere before.world.scene (place_of_name before.world.scene.cluster name) ending
