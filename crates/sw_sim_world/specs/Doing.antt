-- What a world does of an event of a line, and which it does not.
use Rattle.std.specs.Prelude.{◌≡◌, ◌<◌, ℕ, Bool, true, false, if◌then◌else◌, List, Option, Some, None}
use Rattle.sw_types.specs.Stamp.{greatest_stamp}
use Rattle.sw_ring.specs.Cluster.{ClusterModel, ids_of}
use Rattle.sw_ring.specs.Ring.{is_among}
use Rattle.sw_law_scene.specs.Scene.{Answer, Message, Request}
use Rattle.sw_core.specs.Event.{stamp_in}
use Rattle.sw_core.specs.World.{Operating, numbered}
use Rattle.sw_script.specs.declared.event.Event.{Event}
use Rattle.sw_script.specs.declared.event.Event.TheVariants as event
use Rattle.sw_script.specs.declared.event.Job.{Job}
use Rattle.sw_script.specs.declared.event.Job.TheVariants as job
use Rattle.sw_script.specs.declared.fault.LineFault.{LineFault}
use Rattle.sw_script.specs.declared.fault.LineFault.TheVariants.{NoDevice, NoMessage, NoOperation}
use Rattle.sw_sim_world.specs.declared.told.Told.{Told}
use Rattle.sw_sim_world.specs.ScriptedWorld.{AreSteps, ScriptedWorld, Step}
use Rattle.sw_sim_world.specs.Unfolding.{Tells, Unfolds}

-- ---- which lines name something that there is

abbrev pub device_fault : ClusterModel → ℕ → Option LineFault
device_fault cluster device = if is_among (ids_of cluster) device then None else Some NoDevice

-- the device of a reconstructor is one of the cluster
abbrev pub job_fault : ClusterModel → Job → Option LineFault
job_fault cluster (job.Recon device name) = device_fault cluster device
job_fault cluster other = None

abbrev pub message_fault : Option Message → Option LineFault
message_fault None = Some NoMessage
message_fault (Some messages) = None

abbrev pub request_fault : Option Message → Option LineFault
request_fault None = Some NoMessage
request_fault (Some (Answer at operation sent reply)) = Some NoMessage
request_fault (Some (Request at operation sent)) = None

abbrev pub operation_fault : Option Operating → Option LineFault
operation_fault None = Some NoOperation
operation_fault (Some operation) = None

-- the fault of an event's line in a world: it names no message, no device or no operation
abbrev pub event_fault : ScriptedWorld → Event → Option LineFault
event_fault before (event.Run job) = job_fault before.world.scene.cluster job
event_fault before (event.Start job) = job_fault before.world.scene.cluster job
event_fault before (event.Deliver message) = message_fault (numbered before.world.scene.messages message)
event_fault before (event.Crash message calls pick) = request_fault (numbered before.world.scene.messages message)
event_fault before (event.Stop device) = device_fault before.world.scene.cluster device
event_fault before (event.Restart device) = device_fault before.world.scene.cluster device
event_fault before (event.Lose device) = device_fault before.world.scene.cluster device
event_fault before (event.GiveUp operation) = operation_fault (numbered before.world.operations operation)
event_fault before (event.Show device name) = device_fault before.world.scene.cluster device
event_fault before event.All = None
event_fault before (event.SetClock stamp) = None

-- ---- stamps

abbrev pub draws : Job → Bool
draws (job.Put name object) = true
draws (job.Delete name) = true
draws other = false

-- an event that draws a stamp
abbrev pub is_drawing : Event → Bool
is_drawing (event.Run job) = draws job
is_drawing (event.Start job) = draws job
is_drawing other = false

-- it was to draw one after the last that there is
abbrev pub IsSpent : ScriptedWorld → Event → Type 0
IsSpent before event = (is_drawing event ≡ true) × (greatest_stamp < stamp_in before.world)

-- ---- what was done

-- an event of a line that was done
pub record Done : Type 0 where
  pub event : Event
  pub steps : List Step
  pub told : Told
  pub after : ScriptedWorld

pub record DoesEvent (before : ScriptedWorld) (done : Done) : Type 0 where
  pub unfolds : Unfolds done.event before done.steps done.after
  pub steps : AreSteps before done.steps done.after
  pub tells : Tells done.event before done.steps done.after done.told
