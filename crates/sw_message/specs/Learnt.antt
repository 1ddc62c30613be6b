-- What is known of puts, deletes and replies.
use Rattle.std.specs.Prelude.{◌≡◌, ◌≢◌, ℕ, List, [], ◌∷◌, Contains, Option, Some, None, ⊤}
use Rattle.sw_types.specs.Name.{NameModel}
use Rattle.sw_types.specs.Object.{ObjectModel}
use Rattle.sw_types.specs.Policy.{PolicyModel}
use Rattle.sw_archive.specs.Archive.{ArchiveModel, IsArchive}
use Rattle.sw_archive.specs.Put.{IsPut, put_fields}
use Rattle.sw_ring.specs.Cluster.{ClusterModel}
use Rattle.sw_message.specs.Transcript.{Closed, Gave, Step}
use Rattle.sw_message.specs.declared.message.Msg.{Msg}
use Rattle.sw_message.specs.declared.reply.Reply.{Reply}
use Rattle.sw_message.specs.declared.reply.Reply.TheVariants as reply

-- a put that was started, and a delete
pub record Booked : Type 0 where
  pub stamp : ℕ
  pub name : NameModel
  pub object : ObjectModel

pub record Marked : Type 0 where
  pub stamp : ℕ
  pub name : NameModel

-- a reply, with the device that gave it and the message that it answers
pub record Heard : Type 0 where
  pub device : ℕ
  pub msg : Msg
  pub reply : Reply

-- the puts and the deletes that were started, and replies that were given
pub record Learnt : Type 0 where
  pub book : List Booked
  pub marks : List Marked
  pub heard : List Heard

-- all that was known still is
pub record Keeps (old new : Learnt) : Type 0 where
  pub book : (booked : Booked) → Contains old.book booked → Contains new.book booked
  pub marks : (marked : Marked) → Contains old.marks marked → Contains new.marks marked
  pub heard : (heard : Heard) → Contains old.heard heard → Contains new.heard heard

-- the puts that were started: each keeps the bounds of what may be put, and no two have one stamp
pub record IsSoundBook (policy : PolicyModel) (book : List Booked) : Type 0 where
  pub puts : (booked : Booked) → Contains book booked → IsPut policy booked.stamp booked.name booked.object
  pub one : (a b : Booked) → Contains book a → Contains book b → a.stamp ≡ b.stamp → a ≡ b

-- What was learnt of puts and deletes is sound: the puts are, no two deletes have one stamp, and no delete has that of a put.
pub record IsSoundLearnt (policy : PolicyModel) (learnt : Learnt) : Type 0 where
  pub book : IsSoundBook policy learnt.book
  pub one_mark : (a b : Marked) → Contains learnt.marks a → Contains learnt.marks b → a.stamp ≡ b.stamp → a ≡ b
  pub apart : (booked : Booked) (marked : Marked) → Contains learnt.book booked → Contains learnt.marks marked → booked.stamp ≢ marked.stamp

-- ---- what an operation knows

-- what an operation started itself
pub data Own : Type 0 where
  OwnPut : (booked : Booked) → Own
  OwnDelete : (marked : Marked) → Own
  Nothing : Own

abbrev pub HasOwn : Own → Learnt → Type 0
HasOwn (OwnPut booked) learnt = Contains learnt.book booked
HasOwn (OwnDelete marked) learnt = Contains learnt.marks marked
HasOwn Nothing learnt = ⊤

-- the archive is that of its index of a put
abbrev pub IsOfBook : ClusterModel → List Booked → ArchiveModel → Type 0
IsOfBook cluster book archive = (booked : Booked) × Contains book booked × (archive ≡ put_fields cluster.policy booked.stamp booked.name booked.object archive.index)

-- an archive in a reply is that of a put
abbrev pub IsGenuine : ClusterModel → Learnt → Reply → Type 0
IsGenuine cluster learnt (reply.Fragment bytes) = (archive : ArchiveModel) → IsArchive bytes archive → IsOfBook cluster learnt.book archive
IsGenuine cluster learnt other = ⊤

-- a reply but want of memory is known, with its device and message
abbrev pub IsHeard : Learnt → ℕ → Msg → Reply → Type 0
IsHeard learnt device msg given = given ≢ reply.NoMemory → Contains learnt.heard (record { device = device; msg = msg; reply = given })

-- a reply to a message is known, if there is one, and an archive in it is that of a put
abbrev pub KnowsReply : ClusterModel → Learnt → ℕ → Msg → Option Reply → Type 0
KnowsReply cluster learnt device msg None = ⊤
KnowsReply cluster learnt device msg (Some given) = IsHeard learnt device msg given × IsGenuine cluster learnt given

-- the replies of a transcript are known
abbrev pub KnowsReplies : ClusterModel → Learnt → List Step → Type 0
KnowsReplies cluster learnt [] = ⊤
KnowsReplies cluster learnt (Gave sent ∷ past) = KnowsReplies cluster learnt past
KnowsReplies cluster learnt (Closed sent answer ∷ past) = KnowsReply cluster learnt sent.device sent.msg answer × KnowsReplies cluster learnt past

-- they are, and the puts that are known are sound
abbrev pub AreKnown : ClusterModel → Learnt → List Step → Type 0
AreKnown cluster learnt [] = IsSoundBook cluster.policy learnt.book
AreKnown cluster learnt (Gave sent ∷ past) = AreKnown cluster learnt past
AreKnown cluster learnt (Closed sent answer ∷ past) = KnowsReply cluster learnt sent.device sent.msg answer × AreKnown cluster learnt past
