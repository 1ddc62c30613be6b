-- What every scene of a run keeps.
use Rattle.std.specs.Prelude.{◌≤◌, ℕ, Contains}
use Rattle.sw_types.specs.Stamp.{greatest_stamp}
use Rattle.sw_message.specs.Learnt.{Marked}
use Rattle.sw_law_scene.specs.Disks.{AreOfPlaces}
use Rattle.sw_law_scene.specs.Scene.{Scene, known_to}
use Rattle.sw_law_scene.specs.Sound.{IsSoundScene}
use Rattle.sw_law_owed.specs.Decided.{KeepsStamps}
use Rattle.sw_law_owed.specs.Duties.{KeepsDuties}
use Rattle.sw_law_owed.specs.Promise.{KeepsPromises, OnDisk}

-- the stamp of each delete that was started is one that there is
abbrev pub AreMarksStamped : Scene → Type 0
AreMarksStamped scene = (marked : Marked) → Contains (known_to scene).marks marked → marked.stamp ≤ greatest_stamp

pub record KeepsAll (scene : Scene) : Type 0 where
  -- archives are those of puts, each message is warranted, and each reply answers an earlier request
  pub sound : IsSoundScene scene
  pub stamped : AreMarksStamped scene
  -- whatever a disk may hold, only the folders of the cluster's places have files
  pub of_places : (device : ℕ) → OnDisk scene device (AreOfPlaces scene.cluster)
  -- what replies claimed is borne still, or was lost, or handed on
  pub promises : KeepsPromises scene
  -- what is held, shown and sent is of puts and deletes that were started, and what is durable was decided before
  pub stamps : KeepsStamps scene
  -- what devices answered for they hold, or it went to its primary, or was lost
  pub duties : KeepsDuties scene
