-- What a node behind its lock needs for a message, and what it leaves of what its seat knows.
use Rattle.std.specs.Prelude.{◌≡◌, ◌≢◌, ℕ, Bool, true, Option, Some, None}
use Rattle.sw_words.specs.Counts.{one_more}
use Rattle.sw_ring.specs.Cluster.{ClusterModel}
use Rattle.sw_message.specs.declared.message.Msg.{Msg}
use Rattle.sw_message.specs.declared.reply.Reply.{Reply}
use Rattle.sw_message.specs.declared.reply.Reply.TheVariants.{DiskFault}
use Rattle.sw_objsrv.specs.declared.fault.MountFault.{MountFault}
use Rattle.sw_objsrv.specs.declared.fault.MountFault.TheVariants.{Failed}
use Rattle.sw_view.specs.View.{IsFirm, IsSoundView, known_to}
use Rattle.sw_law_scene.specs.Disks.{Disk}
use Rattle.sw_view.specs.History.{Replays}
use Rattle.sw_law_replayed.specs.Keeping.{HasStep}
use Rattle.sw_pass.specs.Known.{HasSlot, history, view_of}
use Rattle.sw_pass.specs.declared.known.Known.{Known}

-- The seat owes no loss, the device's history, as it knows it, has a disk that it may leave, and where the disk tells what it holds the message is
-- firmly warranted by what the seat knows, and has a step.
pub record MayReply (cluster : ClusterModel) (tells : Bool) (slot : ℕ) (msg : Msg) (known : Known) : Type 0 where
  pub none_owed : known.owing ≡ None
  pub replayed : (device : ℕ) → HasSlot cluster device slot → (disk : Disk) × Replays cluster device (history known.histories slot) disk
  pub firm : tells ≡ true → IsFirm cluster (known_to cluster (view_of cluster known)) msg
  pub step : tells ≡ true → (device : ℕ) → HasSlot cluster device slot → HasStep cluster device (history known.histories slot) msg

-- The seat owes no loss, what it knows is sound, and where the disk tells what it holds the message is firmly warranted by that.
pub record MayHandle (cluster : ClusterModel) (tells : Bool) (slot : ℕ) (msg : Msg) (known : Known) : Type 0 where
  pub none_owed : known.owing ≡ None
  pub sound : IsSoundView cluster (view_of cluster known)
  pub firm : tells ≡ true → IsFirm cluster (known_to cluster (view_of cluster known)) msg

-- All that a seat knew it knows, and the history at a slot alone may be another.
pub record HasAdded (slot : ℕ) (before after : Known) : Type 0 where
  pub kind : after.kind ≡ before.kind
  pub drawn : after.drawn ≡ before.drawn
  pub mark : after.mark ≡ before.mark
  pub others : (other : ℕ) → other ≢ slot → history after.histories other ≡ history before.histories other

-- the count of faults of a disk rose by one where the reply tells of a failure, and nowhere else
abbrev pub CountsReply : Reply → (before after : ℕ) → Type 0
CountsReply reply before after = (reply ≡ DiskFault → after ≡ one_more before) × (reply ≢ DiskFault → after ≡ before)

-- likewise at a mount
abbrev pub CountsMount : Option MountFault → (before after : ℕ) → Type 0
CountsMount reason before after = (reason ≡ Some Failed → after ≡ one_more before) × (reason ≢ Some Failed → after ≡ before)
