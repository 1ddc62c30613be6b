-- How operations end beside which nothing steps, on devices that are all up and sure of their disks.
use Rattle.std.specs.Prelude.{◌≡◌, ◌+◌, Bool, true, Some}
use Rattle.sw_types.specs.Name.{NameModel}
use Rattle.sw_types.specs.Object.{ObjectModel}
use Rattle.sw_ring.specs.Cluster.{ClusterModel}
use Rattle.sw_delete.specs.Causes.{ToldExisted}
use Rattle.sw_delete.specs.Delete as deletes
use Rattle.sw_delete.specs.declared.end.DeleteEnd.TheVariants.{Deleted}
use Rattle.sw_get.specs.Get as gets
use Rattle.sw_get.specs.declared.end.GetEnd.{GetEnd}
use Rattle.sw_put.specs.Put as puts
use Rattle.sw_put.specs.declared.end.PutEnd.TheVariants.{Created}
use Rattle.sw_core.specs.Event.{Job, stamp_in}
use Rattle.sw_core.specs.Event as job
use Rattle.sw_operation.specs.Operating.{Delete, IsGetOf, Put}
use Rattle.sw_core.specs.World.{Operating, World}
use Rattle.sw_law_alone.specs.Alone.{IsReading}
use Rattle.sw_law_complete.specs.Complete.{AreReady, HasOwnPlace, HaveRoom, RunsAlone}
use Rattle.sw_law_complete.specs.Ends.{EndsByWhatIsThere}

-- A put for whose archives every disk has room is acknowledged with all k + m commits.
abbrev pub PutsEndInFull : ClusterModel → Type 0
PutsEndInFull cluster = (old new : World) (name : NameModel) (object : ObjectModel) (operation : Operating) (begun : puts.Begun) → RunsAlone cluster old (job.Put name object) new operation → AreReady old.scene
    → HaveRoom old.scene (stamp_in old) name object → operation.begun ≡ Put begun → puts.put_end begun operation.past ≡ Some (Created (stamp_in old) (cluster.policy.k + cluster.policy.m))

-- A delete is acknowledged with all k + m marks; it tells that the object existed exactly where some reply told so.
abbrev pub DeletesEndInFull : ClusterModel → Type 0
DeletesEndInFull cluster = (old new : World) (name : NameModel) (operation : Operating) (begun : deletes.Begun) → RunsAlone cluster old (job.Delete name) new operation → AreReady old.scene → operation.begun ≡ Delete begun
    → (existed : Bool) × (deletes.delete_end begun operation.past ≡ Some (Deleted (stamp_in old) (cluster.policy.k + cluster.policy.m) existed)) × (existed ≡ true → ToldExisted operation.past)
    × (ToldExisted operation.past → existed ≡ true)

-- A get of a name whose place no other name has that was put ends by what the devices have there.
abbrev pub GetsEndInFull : ClusterModel → Type 0
GetsEndInFull cluster = (old new : World) (name : NameModel) (reading : Job) (operation : Operating) (begun : gets.Begun) (end : GetEnd) → RunsAlone cluster old reading new operation → IsReading name reading → AreReady old.scene
    → HasOwnPlace old.scene name → IsGetOf operation.begun begun → gets.IsEnd begun operation.past end → EndsByWhatIsThere old.scene (gets.place_of begun) end
