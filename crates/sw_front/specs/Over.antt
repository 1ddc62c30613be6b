-- What a put, a get or a delete over a link did.
use Rattle.std.specs.Prelude.{◌≡◌, ℕ, List, Option, Some, None, Result, Ok, Err, ⊤}
use Rattle.sw_types.specs.Name.{NameModel}
use Rattle.sw_types.specs.Object.{ObjectModel}
use Rattle.sw_ring.specs.Cluster.{ClusterModel}
use Rattle.sw_message.specs.Learnt.{Learnt, Nothing, Own, OwnDelete, OwnPut}
use Rattle.sw_message.specs.Running.{AreCalls, StillKnows}
use Rattle.sw_message.specs.Transcript.{IsRun, Next, Step}
use Rattle.sw_message.specs.declared.draw.DrawFault.{DrawFault}
use Rattle.sw_message.specs.declared.draw.DrawFault.TheVariants as draw
use Rattle.sw_message.specs.declared.message.Msg.{Msg}
use Rattle.sw_message.specs.declared.reply.Reply.{Reply}
use Rattle.sw_message.specs.declared.target.Target.{Target}
use Rattle.sw_delete.specs.Delete as deletes
use Rattle.sw_delete.specs.declared.end.DeleteEnd.{DeleteEnd}
use Rattle.sw_get.specs.Causes.{IsPutFound}
use Rattle.sw_get.specs.Get as gets
use Rattle.sw_get.specs.declared.end.GetEnd.{GetEnd}
use Rattle.sw_get.specs.declared.end.GetEnd.TheVariants.{Found}
use Rattle.sw_put.specs.Put as puts
use Rattle.sw_put.specs.declared.end.PutEnd.{PutEnd}
use Rattle.sw_front.specs.declared.fault.FrontFault.{FrontFault}
use Rattle.sw_front.specs.declared.fault.FrontFault.TheVariants.{NoMemory, StampsSpent}
use Rattle.sw_types.specs.declared.memory.NoMemory.{NoMemory as Refused}

-- what a call of a link, and a draw, may answer and leave
abbrev pub Calling : Type 0 → Type 1
Calling L = L → ℕ → Msg → Option Reply → L → Type 0

abbrev pub Drawing : Type 0 → Type 1
Drawing L = L → NameModel → Option ObjectModel → Result ℕ DrawFault → L → Type 0

-- What a link has learnt, where it tells.
abbrev pub Learning : Type 0 → Type 0
Learning L = L → Option Learnt

-- A transcript of a machine, each message of which went to the link once. Where the link tells still, it has learnt what the operation
-- started, and the replies.
pub record WentOver {L : Type 0} (calls : Calling L) (losses : L → ℕ) (learnt : Learning L) (cluster : ClusterModel) (own : Own) (machine : List Step → Next → Type 0) (before : L) (past : List Step) (after : L) : Type 0 where
  pub run : IsRun machine past
  pub calls_are : AreCalls calls losses before past after
  pub knows : StillKnows cluster own past (learnt after)

-- what a put of an object starts, or a delete where there is none
abbrev pub own_of : NameModel → Option ObjectModel → ℕ → Own
own_of name None stamp = OwnDelete (record { stamp = stamp; name = name })
own_of name (Some object) stamp = OwnPut (record { stamp = stamp; name = name; object = object })

-- a stamp was drawn before it
pub record DrewAndWent {L : Type 0} (draws : Drawing L) (calls : Calling L) (losses : L → ℕ) (learnt : Learning L) (cluster : ClusterModel) (name : NameModel) (object : Option ObjectModel) (machine : ℕ → List Step → Next → Type 0) (before : L) (stamp : ℕ) (past : List Step) (after : L) : Type 0 where
  pub drawn : L
  pub draw : draws before name object (Ok stamp) drawn
  pub went : WentOver calls losses learnt cluster (own_of name object stamp) (machine stamp) drawn past after

-- ---- puts

abbrev pub put_of : ClusterModel → NameModel → ObjectModel → ℕ → puts.Begun
put_of cluster name object stamp = record { cluster = cluster; stamp = stamp; name = name; object = object }

abbrev pub put_machine : ClusterModel → NameModel → ObjectModel → ℕ → List Step → Next → Type 0
put_machine cluster name object stamp past next = puts.IsNext (put_of cluster name object stamp) past next

-- A put drew its stamp and ran to its end, or as far as memory was there; or no stamp was drawn.
abbrev pub PutsOver : {L : Type 0} → Drawing L → Calling L → (L → ℕ) → Learning L → ClusterModel → NameModel → ObjectModel → (before : L) → Result PutEnd FrontFault → (after : L) → Type 0
PutsOver draws calls losses learnt cluster name object before (Ok end) after =
    (stamp : ℕ) × (past : List Step) × DrewAndWent draws calls losses learnt cluster name (Some object) (put_machine cluster name object) before stamp past after
    × (puts.put_end (put_of cluster name object stamp) past ≡ Some end)
PutsOver draws calls losses learnt cluster name object before (Err StampsSpent) after = draws before name (Some object) (Err draw.StampsSpent) after
PutsOver draws calls losses learnt cluster name object before (Err NoMemory) after =
    (stamp : ℕ) × (past : List Step) × DrewAndWent draws calls losses learnt cluster name (Some object) (put_machine cluster name object) before stamp past after

-- ---- deletes

abbrev pub delete_of : ClusterModel → NameModel → ℕ → deletes.Begun
delete_of cluster name stamp = record { cluster = cluster; stamp = stamp; name = name }

abbrev pub delete_machine : ClusterModel → NameModel → ℕ → List Step → Next → Type 0
delete_machine cluster name stamp past next = deletes.IsNext (delete_of cluster name stamp) past next

-- likewise a delete
abbrev pub DeletesOver : {L : Type 0} → Drawing L → Calling L → (L → ℕ) → Learning L → ClusterModel → NameModel → (before : L) → Result DeleteEnd FrontFault → (after : L) → Type 0
DeletesOver draws calls losses learnt cluster name before (Ok end) after =
    (stamp : ℕ) × (past : List Step) × DrewAndWent draws calls losses learnt cluster name None (delete_machine cluster name) before stamp past after
    × (deletes.delete_end (delete_of cluster name stamp) past ≡ Some end)
DeletesOver draws calls losses learnt cluster name before (Err StampsSpent) after = draws before name None (Err draw.StampsSpent) after
DeletesOver draws calls losses learnt cluster name before (Err NoMemory) after =
    (stamp : ℕ) × (past : List Step) × DrewAndWent draws calls losses learnt cluster name None (delete_machine cluster name) before stamp past after

-- ---- gets

-- a fact of a found object
abbrev pub IfFound : GetEnd → (ℕ → ObjectModel → List Target → Type 0) → Type 0
IfFound (Found stamp object sources) P = P stamp object sources
IfFound other P = ⊤

-- where the link still tells, what was found is the whole object of one put that it has learnt
abbrev pub FindsOnePut : Option Learnt → gets.Begun → List Step → GetEnd → Type 0
FindsOnePut None begun past end = ⊤
FindsOnePut (Some learnt) begun past end = IfFound end (IsPutFound begun past learnt)

-- A get ran to its end, or as far as memory was there.
abbrev pub GetsOver : {L : Type 0} → Calling L → (L → ℕ) → Learning L → gets.Begun → (before : L) → Result GetEnd Refused → (after : L) → Type 0
GetsOver calls losses learnt begun before (Ok end) after =
    (past : List Step) × WentOver calls losses learnt begun.cluster Nothing (gets.IsNext begun) before past after × gets.IsEnd begun past end × FindsOnePut (learnt after) begun past end
GetsOver calls losses learnt begun before (Err refused) after = (past : List Step) × WentOver calls losses learnt begun.cluster Nothing (gets.IsNext begun) before past after
