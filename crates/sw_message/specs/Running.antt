-- Operations over a link: what is to be known before one goes on, and what the calls of the link are.
use Rattle.std.specs.Prelude.{◌≡◌, ◌≤◌, ℕ, List, [], ◌∷◌, Contains, Option, Some, None, IsSome, ⊤}
use Rattle.sw_words.specs.Counts.{Rose}
use Rattle.sw_types.specs.Name.{NameModel}
use Rattle.sw_types.specs.Object.{ObjectModel}
use Rattle.sw_ring.specs.Cluster.{ClusterModel}
use Rattle.sw_message.specs.Learnt.{HasOwn, IsSoundLearnt, Keeps, KnowsReplies, KnowsReply, Learnt, Own}
use Rattle.sw_message.specs.Message.{IsMember, IsPlaceOf, place_in}
use Rattle.sw_message.specs.Transcript.{Closed, Gave, Step, opens}
use Rattle.sw_message.specs.declared.message.Msg.{Msg}
use Rattle.sw_message.specs.declared.reply.Reply.{Reply}

-- the device is one of the cluster, and so is the place of the message
pub record IsOf (cluster : ClusterModel) (device : ℕ) (msg : Msg) : Type 0 where
  pub member : IsMember cluster device
  pub place : IsPlaceOf cluster (place_in msg)

-- A link that tells what it has learnt has a cluster, and what it has learnt of puts and deletes is sound.
abbrev pub TellsSoundly : Option ClusterModel → Option Learnt → Type 0
TellsSoundly of None = ⊤
TellsSoundly None (Some learnt) = ⊥
TellsSoundly (Some cluster) (Some learnt) = IsSoundLearnt cluster.policy learnt

-- A link that tells keeps what it has learnt, unless it may be silent. One that is silent stays so.
abbrev pub StillTells : Type 0 → Option Learnt → Option Learnt → Type 0
StillTells MayBeSilent None after = after ≡ None
StillTells MayBeSilent (Some before) None = MayBeSilent
StillTells MayBeSilent (Some before) (Some after) = Keeps before after

-- What a link has learnt by a call of a device, where it tells still: the reply, and that an archive in it is that of a put.
abbrev pub Hears : Option ClusterModel → Option Learnt → ℕ → Msg → Option Reply → Type 0
Hears (Some cluster) (Some learnt) device msg answer = KnowsReply cluster learnt device msg answer
Hears of learnt device msg answer = ⊤

-- a message is lost only where the count of losses rose
pub record CountsLoss (before after : ℕ) (answer : Option Reply) : Type 0 where
  pub never_falls : before ≤ after
  pub lost : answer ≡ None → Rose before after
  pub quiet : IsSome answer → after ≡ before

-- The calls of a link that the last steps of a transcript were: each message once, and its answer next.
abbrev pub AreCalls : {L : Type 0} → (L → ℕ → Msg → Option Reply → L → Type 0) → (L → ℕ) → L → List Step → L → Type 0
AreCalls calls losses before [] after = before ≡ after
AreCalls {L} calls losses before (Closed sent answer ∷ Gave same ∷ more) after =
    (between : L) × AreCalls calls losses before more between × (same ≡ sent) × calls between sent.device sent.msg answer after
    × CountsLoss (losses between) (losses after) answer
AreCalls calls losses before (Closed sent answer ∷ Closed same again ∷ more) after = ⊥
AreCalls calls losses before (Closed sent answer ∷ []) after = ⊥
AreCalls calls losses before (Gave sent ∷ more) after = ⊥

-- Before an operation goes on over a link, no message is open; where the link has a cluster, it is that of the operation; where it
-- then tells what it has learnt, it has learnt what the operation started and the replies that it took.
pub record MayRun (cluster : ClusterModel) (own : Own) (past : List Step) (of : Option ClusterModel) (learnt : Option Learnt) : Type 0 where
  pub nothing_open : opens past ≡ []
  pub same_cluster : (other : ClusterModel) → of ≡ Some other → cluster ≡ other
  pub known : (known : Learnt) → learnt ≡ Some known → HasOwn own known × KnowsReplies cluster known past

-- So it is before an operation begins that has handed out nothing.
pub record MayBegin (cluster : ClusterModel) (own : Own) (of : Option ClusterModel) (learnt : Option Learnt) : Type 0 where
  pub same_cluster : (other : ClusterModel) → of ≡ Some other → cluster ≡ other
  pub known : (known : Learnt) → learnt ≡ Some known → HasOwn own known

-- where a link tells still, it has learnt what an operation started and the replies that it took
abbrev pub StillKnows : ClusterModel → Own → List Step → Option Learnt → Type 0
StillKnows cluster own past None = ⊤
StillKnows cluster own past (Some known) = HasOwn own known × KnowsReplies cluster known past

-- a put of an object was learnt, or a delete where there is none
abbrev pub LearnsOwn : Learnt → NameModel → Option ObjectModel → ℕ → Type 0
LearnsOwn learnt name None stamp = Contains learnt.marks (record { stamp = stamp; name = name })
LearnsOwn learnt name (Some object) stamp = Contains learnt.book (record { stamp = stamp; name = name; object = object })

-- what a link has learnt by a draw, where it tells still
abbrev pub Draws : Option Learnt → NameModel → Option ObjectModel → ℕ → Type 0
Draws None name object stamp = ⊤
Draws (Some learnt) name object stamp = LearnsOwn learnt name object stamp
