-- What contracts see of a pass, and the transcripts that it stands for.
use Rattle.std.specs.Prelude.{◌≡◌, ◌⊎◌, ℕ, Bool, false, List, [], length, Option, Some, None}
use Rattle.sw_ring.specs.Cluster.{ClusterModel}
use Rattle.sw_message.specs.Transcript.{IsRun, Step, given}
use Rattle.sw_daemon.specs.Coursing.{Course, IsCourse, IsSound, IsStatus, is_over}
use Rattle.sw_daemon.specs.Pass.{Begun, Ends, IsBegun, IsNext, IsOver, IsState, State, Turns, stage_of}
use Rattle.sw_daemon.specs.Stage as stages
use Rattle.sw_daemon.specs.Staging as staging
use Rattle.sw_daemon.specs.declared.report.PassReport.{PassReport}
use Rattle.sw_daemon.specs.declared.stage.Stage.{Stage}

pub record PassModel : Type 0 where
  pub cluster : ClusterModel
  pub device : ℕ
  pub course : Course
  -- the stage of its task, once it was begun
  pub stage : Option Stage
  -- how many messages were handed out before that, and how many in all
  pub before : ℕ
  pub count : ℕ

abbrev pub has_ended : PassModel → Bool
has_ended pass = is_over pass.course.task

-- its stage is over, as far as it has seen
abbrev pub is_over_in : Option Stage → Bool
is_over_in None = false
is_over_in (Some stage) = staging.has_ended stage

abbrev pub is_stage_over : PassModel → Bool
is_stage_over pass = is_over_in pass.stage

-- a stage that was not begun stands for the transcript with no steps
abbrev pub StandsOn : Option Stage → stages.Begun → List Step → Type 0
StandsOn None begun own = own ≡ []
StandsOn (Some stage) begun own = staging.Stands stage begun own

-- a stage that was begun has handed out nothing
abbrev pub IsFresh : Option Stage → Type 0
IsFresh None = ⊥
IsFresh (Some stage) = (begun : stages.Begun) × staging.Stands stage begun []

-- it does what a state says
pub record DoesIn (pass : PassModel) (begun : Begun) (state : State) : Type 0 where
  pub course_is : IsCourse pass.course state.course
  pub sound : IsSound pass.cluster pass.course
  pub before_is : pass.before ≡ state.before
  pub stage_is : StandsOn pass.stage (stage_of begun state.course.task) state.own

-- it is over, or does what a state says that follows
abbrev pub StandsIn : PassModel → Begun → State → Type 0
StandsIn pass begun state =
    ((report : PassReport) × IsOver begun state report × IsStatus pass.course (Ends report))
    ⊎ ((turned : State) × Turns begun pass.count state turned × DoesIn pass begun turned)

-- a pass stands for each transcript of its machine that leads to its state
pub record Stands (pass : PassModel) (begun : Begun) (past : List Step) : Type 0 where
  pub valid : IsBegun begun
  pub run : IsRun (IsNext begun) past
  pub cluster_is : pass.cluster ≡ begun.cluster
  pub device_is : pass.device ≡ begun.device
  pub count_is : pass.count ≡ length (given past)
  pub state : State
  pub is : IsState begun past state
  pub stands : StandsIn pass begun state
