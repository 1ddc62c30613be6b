-- The bytes that a disk uses stay those of all its files, whatever a node does.
use Rattle.std.proofs.Common.{ℕ, List, Option, Result}
use Rattle.sw_disk.specs.Runs.{Past, Seen}
use Rattle.sw_disk.specs.declared.refusal.DiskRefusal.{DiskRefusal}
use Rattle.sw_disk.proofs.Used.{runs_accounted}
use Rattle.sw_hashpath.specs.Place.{PlaceModel}
use Rattle.sw_hashdir.specs.declared.floor.Floor.{Floor}
use Rattle.sw_ring.specs.Cluster.{ClusterModel}
use Rattle.sw_message.specs.declared.message.Msg.{Msg}
use Rattle.sw_message.specs.declared.reply.Reply.{Reply}
use Rattle.sw_objsrv.specs.Handling.{IsAnswered}
use Rattle.sw_objsrv.specs.Mounting.{MountCalls}
use Rattle.sw_objsrv.specs.Node.{StaysAccounted}
use Rattle.sw_objsrv.specs.declared.fault.MountFault.{MountFault}
use Rattle.sw_objsrv.proofs.Walks.{IsKept, answered_keeps, mount_keeps}

module _ {D : Type 0} (seen : D → Seen) (left_since : D → Past) where
  abbrev StayAccounted : D → D → Type 0
  StayAccounted a b = StaysAccounted (seen a) (seen b)

  kept : IsKept seen left_since StayAccounted
  kept = record { none = λ a is. is; more = λ a b c first second is. second (first is); run = λ calls reason a b run. runs_accounted seen left_since calls reason a b run }

  module _ (cluster : ClusterModel) (device : ℕ) where
    pub answered_accounted : (floors : List (PlaceModel × Floor)) (message : Msg) (result : Result Reply DiskRefusal) (a b : D) → IsAnswered seen left_since cluster device floors message result a b → StayAccounted a b
    answered_accounted floors message result a b answered = answered_keeps seen left_since StayAccounted kept cluster device floors message result a b answered

    pub mount_accounted : (fault : Option MountFault) (a b : D) → MountCalls seen left_since cluster device fault a b → StayAccounted a b
    mount_accounted fault a b calls = mount_keeps seen left_since StayAccounted kept cluster device fault a b calls
