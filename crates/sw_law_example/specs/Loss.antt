-- A put that is acknowledged, a disk that is lost then, and a get that finds the object.
use Rattle.std.specs.Prelude.{◌≡◌, ◌≤◌, ◌<◌, ℕ, ◌+◌, List, [], ◌∷◌}
use Rattle.sw_types.specs.Name.{NameModel}
use Rattle.sw_types.specs.Object.{ObjectModel}
use Rattle.sw_ring.specs.Cluster.{ClusterModel}
use Rattle.sw_message.specs.declared.target.Target.{Target}
use Rattle.sw_get.specs.declared.end.GetEnd.TheVariants.{Found}
use Rattle.sw_law_scene.specs.Scene.{IsLostSince}
use Rattle.sw_core.specs.Event.{Get, Happens, Lose, Put}
use Rattle.sw_core.specs.World.{Operating, World, empty_world}
use Rattle.sw_law_complete.specs.Complete.{AreReady, HasOwnPlace, RunsAlone}
use Rattle.sw_law_headline.specs.Headline.{IsAfterPut}

pub record FindsAfterLoss (cluster : ClusterModel) (name : NameModel) (object : ObjectModel) (device : ℕ) : Type 0 where
  -- the put runs alone, from the empty world, in which all devices are up and sure of their disks
  pub ready_first : AreReady (empty_world cluster).scene
  pub written : World
  pub put : Operating
  pub writes : RunsAlone cluster (empty_world cluster) (Put name object) written put
  -- the disk of a device is lost; all are up and sure of their disks still
  pub left : World
  pub loses : Happens (Lose device) written left
  pub ready : AreReady left.scene
  pub own_place : HasOwnPlace left.scene name
  -- a get of the name runs alone
  pub read : World
  pub get : Operating
  pub reads : RunsAlone cluster left (Get name) read get
  -- the put was acknowledged, and with that device alone out the get has found its object, at its stamp
  pub stamp : ℕ
  pub commits : ℕ
  pub sources : List Target
  pub after : IsAfterPut cluster stamp commits (device ∷ []) (Found stamp object sources)
  pub from : after.old ≡ written
  pub to : after.new ≡ read
  pub begun : after.begun ≡ record { cluster = cluster; stamp = stamp; name = name; object = object }
  pub of_put : after.created.operation ≡ put
  pub of_get : after.ends.operation ≡ get
  -- it lost its disk once the put was acknowledged, and so few are out as the promises suppose
  pub lost : IsLostSince read.scene device written.scene.now
  pub few : 1 < commits
  pub enough : 1 + cluster.policy.k ≤ cluster.policy.q
