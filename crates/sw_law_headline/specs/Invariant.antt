-- What holds of every world of a run.
use Rattle.std.specs.Prelude.{ℕ, Contains}
use Rattle.sw_ring.specs.Cluster.{ClusterModel}
use Rattle.sw_message.specs.Learnt.{Booked, Marked}
use Rattle.sw_message.specs.Step.{Folders}
use Rattle.sw_law_scene.specs.Disks.{AreOfPlaces, IsSide}
use Rattle.sw_law_scene.specs.Filed.{IsDiskFiled}
use Rattle.sw_law_scene.specs.Scene.{Message, disk_of, known_to}
use Rattle.sw_law_scene.specs.Sound.{IsDrawn, MayBeMade}
use Rattle.sw_core.specs.Sound.{IsSoundWorld}
use Rattle.sw_core.specs.World.{World}
use Rattle.sw_law_owed.specs.Decided.{KeepsStamps}
use Rattle.sw_law_duties.specs.Counted.{CountsApart}
use Rattle.sw_law_owed.specs.Duties.{KeepsDuties}

pub record Invariant (cluster : ClusterModel) (world : World) : Type 0 where
  -- each operation's transcript is a run of its machine, no two puts have one stamp, and each reply answers an earlier request
  pub sound : IsSoundWorld cluster world
  -- each archive in the files of a device is that of a put, in the folder of its name's place, whatever its disk may hold
  pub filed : (device : ℕ) → IsDiskFiled cluster (known_to world.scene).book (disk_of world.scene device)
  -- and no other folder has a file
  pub of_places : (device : ℕ) (side : Folders) → IsSide (disk_of world.scene device) side → AreOfPlaces cluster side
  -- each request is warranted by what is known, and each archive in a message or a reply is that of a put
  pub made : (posted : Message) → Contains world.scene.messages posted → MayBeMade cluster (known_to world.scene) posted
  -- no stamp of a put or a delete is above the last that was drawn
  pub booked : (booked : Booked) → Contains (known_to world.scene).book booked → IsDrawn world.scene.last booked.stamp
  pub marked : (marked : Marked) → Contains (known_to world.scene).marks marked → IsDrawn world.scene.last marked.stamp
  -- what is held, shown and sent is of puts and deletes that were started, and what is durable was decided before
  pub stamps : KeepsStamps world.scene
  -- what devices answered for they hold, or it went to its primary, or was lost
  pub duties : KeepsDuties world.scene
  -- what a put counts is apart
  pub counted : CountsApart world
