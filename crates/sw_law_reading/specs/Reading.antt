-- Operations over a link whose calls let a view grow, and what a get is promised of a put that the view knew as acknowledged.
use Rattle.std.specs.Prelude.{◌≡◌, ◌⊎◌, ◌≤◌, ◌<◌, ◌+◌, ℕ, List, [], ◌∷◌, Contains, length, Option, Some, None, ⊤}
use Rattle.std.specs.List.{All}
use Rattle.sw_types.specs.Object.{ObjectModel}
use Rattle.sw_ring.specs.Cluster.{ClusterModel, place_of_name}
use Rattle.sw_message.specs.Message.{IsMember}
use Rattle.sw_message.specs.Transcript.{Closed, Gave, IsRun, Step}
use Rattle.sw_message.specs.declared.message.Msg.{Msg}
use Rattle.sw_message.specs.declared.message.Msg.TheVariants as message
use Rattle.sw_message.specs.declared.reply.Reply.{Reply}
use Rattle.sw_message.specs.declared.reply.Reply.TheVariants as reply
use Rattle.sw_message.specs.declared.sent.Sent.{Sent}
use Rattle.sw_message.specs.declared.target.Target.{Target}
use Rattle.sw_get.specs.Causes.{IsPutFound}
use Rattle.sw_get.specs.Get as gets
use Rattle.sw_get.specs.declared.end.GetEnd.{GetEnd}
use Rattle.sw_get.specs.declared.end.GetEnd.TheVariants.{Found}
use Rattle.sw_put.specs.Put as puts
use Rattle.sw_put.specs.declared.end.PutEnd.TheVariants.{Created}
use Rattle.sw_law_owed.specs.Decided.{AreApart}
use Rattle.sw_law_rounds.specs.Ends.{IsNotOlder, IsOvertaken, Shows}
use Rattle.sw_law_rounds.specs.Missed.{HasMissed}
use Rattle.sw_view.specs.History.{Continues}
use Rattle.sw_view.specs.View.{DrawnPut, Grows, IsSoundView, View, known_to}
use Rattle.sw_view.specs.declared.event.Event.{Event}
use Rattle.sw_view.specs.declared.event.Event.TheVariants.{Faulted, Handled, Replaced}

-- ---- calls

-- the latest event of the device is this one, on a history that goes on from the one that was known before the call
abbrev pub IsLatest : (before after : View) → (device : ℕ) → Event → Type 0
IsLatest before after device event = (past : List Event) × Continues past (before.history device) × (after.history device ≡ event ∷ past)

-- a reply but want of memory is the latest event of its device
abbrev pub AddsReply : (before after : View) → (device : ℕ) → Msg → Option Reply → Type 0
AddsReply before after device msg None = ⊤
AddsReply before after device msg (Some reply.NoMemory) = ⊤
AddsReply before after device msg (Some reply.DiskFault) = IsLatest before after device (Faulted msg)
AddsReply before after device msg (Some given) = IsLatest before after device (Handled msg given)

-- a call of a device over the link: the view grows by it, and is sound again
pub record IsCall (cluster : ClusterModel) (before : View) (device : ℕ) (msg : Msg) (answer : Option Reply) (after : View) : Type 0 where
  pub member : IsMember cluster device
  pub grows : Grows before after
  pub sound : IsSoundView cluster after
  pub adds : AddsReply before after device msg answer

-- the calls that the steps of a transcript were: each message once, and its answer next
abbrev pub AreCallsOver : ClusterModel → View → List Step → View → Type 0
AreCallsOver cluster before [] after = before ≡ after
AreCallsOver cluster before (Closed sent answer ∷ Gave same ∷ more) after =
    (between : View) × AreCallsOver cluster before more between × (same ≡ sent) × IsCall cluster between sent.device sent.msg answer after
AreCallsOver cluster before (Closed sent answer ∷ Closed same again ∷ more) after = ⊥
AreCallsOver cluster before (Closed sent answer ∷ []) after = ⊥
AreCallsOver cluster before (Gave sent ∷ more) after = ⊥

-- ---- what the view has of an operation that ended

-- a reply but want of memory is an event of its device
abbrev pub IsEventIn : View → (device : ℕ) → Msg → Reply → Type 0
IsEventIn view device msg reply.NoMemory = ⊤
IsEventIn view device msg reply.DiskFault = Contains (view.history device) (Faulted msg)
IsEventIn view device msg given = Contains (view.history device) (Handled msg given)

-- What a get found is one put's whole object, and that put is known to the view; each reply that the get took is an event in the histories.
pub record IsFoundIn (cluster : ClusterModel) (view : View) (begun : gets.Begun) (past : List Step) (stamp : ℕ) (object : ObjectModel) (sources : List Target) : Type 0 where
  pub put : IsPutFound begun past (known_to cluster view) stamp object sources
  pub events : (sent : Sent) (given : Reply) → Contains past (Closed sent (Some given)) → IsEventIn view sent.device sent.msg given

-- so it is of each get that found an object over the link
abbrev pub FoundOver : ClusterModel → Type 0
FoundOver cluster = (before after : View) (begun : gets.Begun) (past : List Step) (stamp : ℕ) (object : ObjectModel) (sources : List Target) → IsSoundView cluster before → begun.cluster ≡ cluster → IsRun (gets.IsNext begun) past
    → AreCallsOver cluster before past after → gets.IsEnd begun past (Found stamp object sources) → IsFoundIn cluster after begun past stamp object sources

-- ---- acknowledged puts

-- A view knows a put acknowledged with so many commits: devices committed fragments of different indices, each the primary of its index or
-- a handoff.
pub record KnowsCreated (cluster : ClusterModel) (view : View) (put : DrawnPut) (commits : ℕ) : Type 0 where
  pub known : Contains view.puts put
  pub targets : List Target
  pub count : commits ≤ length targets
  pub apart : AreApart cluster (place_of_name cluster put.booked.name) targets
  pub committed : All (λ (target : Target). Contains (view.history target.device) (Handled (message.Commit (place_of_name cluster put.booked.name) put.booked.stamp target.index) reply.Committed)) targets

-- A put that ended as created over the link is known as acknowledged.
abbrev pub CreatedOver : ClusterModel → Type 0
CreatedOver cluster = (before after : View) (begun : puts.Begun) (past : List Step) (put : DrawnPut) (commits : ℕ) → puts.IsBegun begun → begun.cluster ≡ cluster → IsRun (puts.IsNext begun) past → AreCallsOver cluster before past after
    → Contains before.puts put → put.booked.stamp ≡ begun.stamp → put.booked.name ≡ begun.name → puts.put_end begun past ≡ Some (Created begun.stamp commits) → KnowsCreated cluster after put commits

-- ---- a get after a put

-- These devices are out: each whose disk was replaced from a mark on, as the view knows, and each that missed a message of the get.
pub record AreOut (view : View) (begun : gets.Begun) (past : List Step) (mark : ℕ) (out : List ℕ) : Type 0 where
  pub replaced : (device loss : ℕ) → Contains (view.history device) (Replaced loss) → mark ≤ loss → Contains out device
  pub missed : (device : ℕ) → HasMissed begun past device → Contains out device

-- A get of the put's name went over the link, from a view that knew the put acknowledged, and has ended.
pub record ReadsAfter (cluster : ClusterModel) (put : DrawnPut) (commits : ℕ) (out : List ℕ) (end : GetEnd) : Type 0 where
  pub before : View
  pub after : View
  pub sound : IsSoundView cluster before
  pub knows : KnowsCreated cluster before put commits
  pub begun : gets.Begun
  pub cluster_is : begun.cluster ≡ cluster
  pub same_name : begun.name ≡ put.booked.name
  pub past : List Step
  pub run : IsRun (gets.IsNext begun) past
  pub calls : AreCallsOver cluster before past after
  pub ended : gets.IsEnd begun past end
  pub out_of : AreOut after begun past put.mark out

-- ---- promises

-- With fewer devices out than commits the get tells of nothing older.
abbrev pub NeverOlderOver : ClusterModel → Type 0
NeverOlderOver cluster = (put : DrawnPut) (commits : ℕ) (out : List ℕ) (end : GetEnd) → ReadsAfter cluster put commits out end → length out < commits → IsNotOlder put.booked.stamp end

-- If besides at most q - k are out, it shows the put or something newer, or it was overtaken.
abbrev pub ShowsOver : ClusterModel → Type 0
ShowsOver cluster = (put : DrawnPut) (commits : ℕ) (out : List ℕ) (end : GetEnd) → ReadsAfter cluster put commits out end → length out < commits → length out + cluster.policy.k ≤ cluster.policy.q
    → Shows put.booked.stamp end ⊎ IsOvertaken end
