-- What holds in every world of a run.
use Rattle.std.proofs.Common.{◌≡◌, ◌≤◌, ℕ, Contains, List, Some, sym, subst}
use Rattle.sw_types.specs.Object.{ObjectModel}
use Rattle.sw_ring.specs.Cluster.{ClusterModel}
use Rattle.sw_message.specs.Learnt.{AreKnown, IsSoundBook, Learnt}
use Rattle.sw_message.specs.Step.{Folders}
use Rattle.sw_message.specs.Transcript.{Closed, IsRun as IsRunOf, Step}
use Rattle.sw_message.specs.declared.reply.Reply.{Reply}
use Rattle.sw_message.specs.declared.sent.Sent.{Sent}
use Rattle.sw_message.specs.declared.target.Target.{Target}
use Rattle.sw_get.specs.Causes.{IsPutFound}
use Rattle.sw_get.specs.Get as gets
use Rattle.sw_get.specs.declared.end.GetEnd.TheVariants.{Found}
use Rattle.sw_get.proofs.Founds.{found_put}
use Rattle.sw_law_scene.specs.Disks.{IsSide}
use Rattle.sw_law_scene.specs.Filed.{AreFiled, FoldersFiled}
use Rattle.sw_law_scene.specs.Scene.{Answer, Request, disk_of, known_to}
use Rattle.sw_law_scene.specs.Sound.{MayBeSent}
use Rattle.sw_core.specs.Event.{Event, IsRun}
use Rattle.sw_operation.specs.Operating.{Begun, Get, Head, IsBegun, IsGetOf, IsNext, cluster_of}
use Rattle.sw_core.specs.World.{Operating, World, numbered}
use Rattle.sw_core.proofs.Happening.{run-sound}
use Rattle.sw_core.proofs.Proceeding.{stands-known}

pub warranted : (cluster : ClusterModel) (events : List Event) (world : World) → IsRun cluster events world → (at number : ℕ) (sent : Sent) → Contains world.scene.messages (Request at number sent)
    → MayBeSent cluster (known_to world.scene) sent.msg
warranted cluster events world run at number sent has =
    let sound = run-sound cluster events world run in
    subst (λ (one : ClusterModel). MayBeSent one (known_to world.scene) sent.msg) sound.same_cluster (sound.scene.messages (Request at number sent) has)

pub filed : (cluster : ClusterModel) (events : List Event) (world : World) → IsRun cluster events world → (side : ℕ → Folders) → ((device : ℕ) → IsSide (disk_of world.scene device) (side device))
    → AreFiled cluster (known_to world.scene).book side
filed cluster events world run side are = λ device.
    let sound = run-sound cluster events world run in
    subst (λ (one : ClusterModel). FoldersFiled one (known_to world.scene).book (side device)) sound.same_cluster (sound.scene.filed device (side device) (are device))

pub told : (cluster : ClusterModel) (events : List Event) (world : World) (number : ℕ) (operation : Operating) (sent : Sent) (reply : Reply) → IsRun cluster events world → numbered world.operations number ≡ Some operation
    → Contains operation.past (Closed sent (Some reply)) → (at : ℕ) × (operation.start ≤ at) × Contains world.scene.messages (Answer at number sent reply)
told cluster events world number operation sent reply run is has = ((run-sound cluster events world run).operations number operation is).told sent reply has

-- ---- what a get finds

module _ (learnt : Learnt) (past : List Step) (stamp : ℕ) (object : ObjectModel) (sources : List Target) where
  get-found : (begun : gets.Begun) → gets.IsBegun begun → IsSoundBook begun.cluster.policy learnt.book → IsRunOf (gets.IsNext begun) past → AreKnown begun.cluster learnt past → (other : gets.Begun) → begun ≡ other
      → gets.IsEnd other past (Found stamp object sources) → IsPutFound other past learnt stamp object sources
  get-found begun valid book run known other same end =
      subst (λ (one : gets.Begun). IsPutFound one past learnt stamp object sources) same
      (found_put begun past learnt stamp object sources valid run (record { one = book.one; objects = λ booked there. (book.puts booked there).object_rules }) known
      (subst (λ (one : gets.Begun). gets.IsEnd one past (Found stamp object sources)) (sym same) end))

  found-by : (begun : Begun) → IsBegun begun → IsSoundBook (cluster_of begun).policy learnt.book → IsRunOf (IsNext begun) past → AreKnown (cluster_of begun) learnt past → (other : gets.Begun) → IsGetOf begun other
      → gets.IsEnd other past (Found stamp object sources) → IsPutFound other past learnt stamp object sources
  found-by (Get begun) valid book run known other same end = get-found begun valid book run known other same end
  found-by (Head begun) valid book run known other same end = get-found begun valid book run known other same end
  found-by begun valid book run known other none end = absurd none

pub found : (cluster : ClusterModel) (events : List Event) (world : World) (number : ℕ) (operation : Operating) (begun : gets.Begun) (stamp : ℕ) (object : ObjectModel) (sources : List Target) → IsRun cluster events world
    → numbered world.operations number ≡ Some operation → IsGetOf operation.begun begun → gets.IsEnd begun operation.past (Found stamp object sources)
    → IsPutFound begun operation.past (known_to world.scene) stamp object sources
found cluster events world number operation begun stamp object sources run is get end =
    let sound = run-sound cluster events world run in
    let stands = sound.operations number operation is in
    let book = subst (λ (one : ClusterModel). IsSoundBook one.policy (known_to world.scene).book) (sym stands.cluster) sound.scene.book in
    found-by (known_to world.scene) operation.past stamp object sources operation.begun stands.valid book stands.run (stands-known world.scene sound.scene number operation stands) begun get end
