-- What an operator is promised of a get that begins after a put or a delete was acknowledged.
use Rattle.std.specs.Prelude.{◌≡◌, ◌⊎◌, ◌≤◌, ◌<◌, ℕ, ◌+◌, Bool, List, Contains, length, Some}
use Rattle.sw_types.specs.Name.{NameModel}
use Rattle.sw_ring.specs.Cluster.{ClusterModel}
use Rattle.sw_message.specs.Transcript.{Step}
use Rattle.sw_delete.specs.Delete as deletes
use Rattle.sw_delete.specs.declared.end.DeleteEnd.TheVariants.{Deleted}
use Rattle.sw_get.specs.Get as gets
use Rattle.sw_get.specs.declared.end.GetEnd.{GetEnd}
use Rattle.sw_put.specs.Put as puts
use Rattle.sw_put.specs.declared.end.PutEnd.TheVariants.{Created}
use Rattle.sw_law_scene.specs.Scene.{IsLostSince, StartedDelete, StartedPut}
use Rattle.sw_core.specs.Event.{Event, IsRun, Lead}
use Rattle.sw_operation.specs.Operating.{Delete, IsGetOf, Put}
use Rattle.sw_core.specs.World.{Operating, World, numbered}
use Rattle.sw_law_rounds.specs.Ends.{IsNotOlder, IsOvertaken, Shows}
use Rattle.sw_law_rounds.specs.Missed.{HasMissed}

-- ---- acknowledgements

-- an operation of a world
pub record IsOperation (world : World) (operation : Operating) : Type 0 where
  pub number : ℕ
  pub there : numbered world.operations number ≡ Some operation

-- in a world a put has ended as created, with so many commits
pub record IsCreatedIn (world : World) (begun : puts.Begun) (commits : ℕ) : Type 0 where
  pub operation : Operating
  pub there : IsOperation world operation
  pub begun_is : operation.begun ≡ Put begun
  pub ended : puts.put_end begun operation.past ≡ Some (Created begun.stamp commits)

-- in a world a delete has ended as deleted, with so many marks
pub record IsDeletedIn (world : World) (begun : deletes.Begun) (marks : ℕ) (existed : Bool) : Type 0 where
  pub operation : Operating
  pub there : IsOperation world operation
  pub begun_is : operation.begun ≡ Delete begun
  pub ended : deletes.delete_end begun operation.past ≡ Some (Deleted begun.stamp marks existed)

-- ---- later gets

-- These devices are out for a get: every one that was lost since a step, and every one that missed a message of it.
pub record AreOut (world : World) (begun : gets.Begun) (past : List Step) (start : ℕ) (out : List ℕ) : Type 0 where
  pub lost : (device : ℕ) → IsLostSince world.scene device start → Contains out device
  pub missed : (device : ℕ) → HasMissed begun past device → Contains out device

-- A run leads from one world to another.
pub record LeadsOn (cluster : ClusterModel) (old new : World) : Type 0 where
  pub earlier : List Event
  pub run : IsRun cluster earlier old
  pub later : List Event
  pub lead : Lead old later new

-- In the new world a get, or a head, of a name has ended that began in the old world or later; and these devices are out for it since a
-- step.
pub record EndsLater (old new : World) (name : NameModel) (start : ℕ) (out : List ℕ) (end : GetEnd) : Type 0 where
  pub operation : Operating
  pub there : IsOperation new operation
  pub begun : gets.Begun
  pub begun_is : IsGetOf operation.begun begun
  pub same_name : begun.name ≡ name
  pub later : old.scene.now ≤ operation.start
  pub ended : gets.IsEnd begun operation.past end
  pub are_out : AreOut new begun operation.past start out

-- ---- promises

-- A put was acknowledged, and a get of its name has ended that began later, with some devices out since the put's start.
pub record IsAfterPut (cluster : ClusterModel) (stamp commits : ℕ) (out : List ℕ) (end : GetEnd) : Type 0 where
  pub old : World
  pub new : World
  pub leads : LeadsOn cluster old new
  pub begun : puts.Begun
  pub created : IsCreatedIn old begun commits
  pub stamp_is : begun.stamp ≡ stamp
  pub put : StartedPut
  pub started : Contains new.scene.book put
  pub put_is : put.booked.stamp ≡ stamp
  pub ends : EndsLater old new begun.name put.start out end

-- likewise after a delete
pub record IsAfterDelete (cluster : ClusterModel) (stamp marks : ℕ) (out : List ℕ) (end : GetEnd) : Type 0 where
  pub old : World
  pub new : World
  pub leads : LeadsOn cluster old new
  pub begun : deletes.Begun
  pub existed : Bool
  pub deleted : IsDeletedIn old begun marks existed
  pub stamp_is : begun.stamp ≡ stamp
  pub delete : StartedDelete
  pub started : Contains new.scene.marks delete
  pub delete_is : delete.marked.stamp ≡ stamp
  pub ends : EndsLater old new begun.name delete.start out end

-- With fewer devices out than commits the get tells of nothing older.
abbrev pub NeverOlder : ClusterModel → Type 0
NeverOlder cluster = (stamp commits : ℕ) (out : List ℕ) (end : GetEnd) → IsAfterPut cluster stamp commits out end → length out < commits → IsNotOlder stamp end

-- If besides at most q - k are out, it shows the put or something newer, or it was overtaken.
abbrev pub ShowsOrOvertaken : ClusterModel → Type 0
ShowsOrOvertaken cluster = (stamp commits : ℕ) (out : List ℕ) (end : GetEnd) → IsAfterPut cluster stamp commits out end → length out < commits
    → length out + cluster.policy.k ≤ cluster.policy.q → Shows stamp end ⊎ IsOvertaken end

-- With fewer devices out than marks the get tells of nothing older than the delete.
abbrev pub StaysDeleted : ClusterModel → Type 0
StaysDeleted cluster = (stamp marks : ℕ) (out : List ℕ) (end : GetEnd) → IsAfterDelete cluster stamp marks out end → length out < marks → IsNotOlder stamp end
