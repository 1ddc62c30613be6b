-- Memory is wanted only at a line that has no fault in the world, and for which a stamp is left.
use Rattle.std.proofs.Common.{◌≡◌, ◌≤◌, ℕ, Bool, true, true≢false, false, Option, Some, None, Result, Ok, Err, IfErr, IsErrAnd, if◌then◌else◌, refl, sym, ap, ap₂, subst, ◌∙◌, arith}
use Rattle.sw_types.specs.Stamp.{greatest_stamp}
use Rattle.sw_ring.specs.Cluster.{ClusterModel, ids_of}
use Rattle.sw_ring.specs.Ring.{is_among}
use Rattle.sw_law_scene.specs.Moves.{next_stamp}
use Rattle.sw_core.specs.Event.{stamp_in}
use Rattle.sw_operation.specs.Operating.{Begun}
use Rattle.sw_script.specs.declared.event.Event.{Event}
use Rattle.sw_script.specs.declared.event.Event.TheVariants as event
use Rattle.sw_script.specs.declared.event.Job.{Job}
use Rattle.sw_script.specs.declared.event.Job.TheVariants as job
use Rattle.sw_script.specs.declared.fault.LineFault.{LineFault}
use Rattle.sw_script.specs.declared.fault.LineFault.TheVariants.{NoDevice}
use Rattle.sw_sim_world.specs.Doing.{device_fault, draws, event_fault, is_drawing, job_fault}
use Rattle.sw_sim_world.specs.Leading.{FaultsBy, IsBegunBy, IsNotBegun, MayBeDone}
use Rattle.sw_sim_world.specs.ScriptedWorld.{ScriptedWorld}
use Rattle.sw_sim_world.specs.Standing.{StandsFor, WorldModel}
use Rattle.sw_sim_world.specs.declared.fault.StepFault.{StepFault}
use Rattle.sw_sim_world.specs.declared.fault.StepFault.TheVariants.{NoMemory, NoSuchDevice, NoSuchMessage, NoSuchOperation, StampsSpent}

-- what is answered where memory is wanted
pub wanted : {A : Type 0} (line : Event) (before : ScriptedWorld) (old new : WorldModel) (result : Result A StepFault) → IsErrAnd result (λ fault. fault ≡ NoMemory) → MayBeDone before line → IfErr result (λ fault. FaultsBy line before fault old new)
wanted line before old new (Ok answer) is may = absurd is
wanted line before old new (Err fault) is may = subst (λ (one : StepFault). FaultsBy line before one old new) (sym is) may

-- a line that draws no stamp
pub drawing-none : (line : Event) (before : ScriptedWorld) → event_fault before line ≡ None → is_drawing line ≡ false → MayBeDone before line
drawing-none line before fine none = (fine, λ spent. true≢false (sym spent.0 ∙ none))

module _ (model : WorldModel) (before : ScriptedWorld) (stands : StandsFor model before) where
  -- a device that was found is one of the cluster
  pub known-device : (number : ℕ) → is_among (ids_of model.cluster) number ≡ true → device_fault before.world.scene.cluster number ≡ None
  known-device number found =
      ap (λ (is_known : Bool). if is_known then None else Some NoDevice) (subst (λ (cluster : ClusterModel). is_among (ids_of cluster) number ≡ true) (sym stands.cluster_is) found)

  -- the stamp that is drawn next
  next_is : next_stamp model.clock model.last ≡ stamp_in before.world
  next_is = ap₂ next_stamp (sym stands.clock_is) (sym stands.last_is)

  -- a job that was begun
  pub begun-may : (one : Job) (begun : Begun) (later : Option ℕ) → IsBegunBy model.cluster model.clock model.last one begun later → MayBeDone before (event.Start one)
  begun-may (job.Put name object) begun later is = (refl, λ spent. omega (arith, is.0, next_is, spent.1))
  begun-may (job.Get name) begun later is = drawing-none (event.Start (job.Get name)) before refl refl
  begun-may (job.Head name) begun later is = drawing-none (event.Start (job.Head name)) before refl refl
  begun-may (job.Delete name) begun later is = (refl, λ spent. omega (arith, is.0, next_is, spent.1))
  begun-may (job.Recon device name) begun later is = drawing-none (event.Start (job.Recon device name)) before (known-device device is.0) refl

  -- the fault of a job's line
  fault-is : (one : Job) (found : Option LineFault) → job_fault model.cluster one ≡ found → event_fault before (event.Start one) ≡ found
  fault-is one found is = subst (λ (cluster : ClusterModel). job_fault cluster one ≡ found) (sym stands.cluster_is) is

  -- one that was not is at fault, or memory was wanted
  pub not-begun : (one : Job) (fault : StepFault) (new : WorldModel) → IsNotBegun model.cluster model.clock model.last one fault model new → FaultsBy (event.Start one) before fault model new
  not-begun one NoSuchMessage new is = absurd is
  not-begun one NoSuchDevice new is = (fault-is one (Some NoDevice) is.0, is.1)
  not-begun one NoSuchOperation new is = absurd is
  not-begun one StampsSpent new is = (fault-is one None is.0, (is.1, omega (arith, is.2, next_is)), is.3)
  not-begun one NoMemory new is = (fault-is one None is.0, λ spent. omega (arith, is.1 spent.0, next_is, spent.1))

-- a job for which memory was wanted
pub wanted-begun : {A : Type 0} (cluster : ClusterModel) (clock : ℕ) (last : Option ℕ) (one : Job) (old new : WorldModel) (result : Result A StepFault) → IsErrAnd result (λ fault. fault ≡ NoMemory)
    → job_fault cluster one ≡ None → (draws one ≡ true → next_stamp clock last ≤ greatest_stamp) → IfErr result (λ fault. IsNotBegun cluster clock last one fault old new)
wanted-begun cluster clock last one old new (Ok answer) is fine spare = absurd is
wanted-begun cluster clock last one old new (Err fault) is fine spare = subst (λ (given : StepFault). IsNotBegun cluster clock last one given old new) (sym is) (fine, spare)

-- what holds of the fault that is passed on holds of the answer
pub passed-on : {A : Type 0} (P : StepFault → Type 0) (result : Result A StepFault) (fault : StepFault) → IsErrAnd result (λ one. one ≡ fault) → P fault → IfErr result P
passed-on P (Ok answer) fault is holds = absurd is
passed-on P (Err other) fault is holds = subst P (sym is) holds
