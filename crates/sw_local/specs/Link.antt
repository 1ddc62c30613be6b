-- What contracts see of the nodes of a cluster behind locks as a link, and what its calls and draws do.
use Rattle.std.specs.Prelude.{◌≡◌, ◌==◌, ◌||◌, ◌⊎◌, ◌≤◌, ℕ, Bool, true, false, not, List, [], ◌∷◌, filter, Contains, Option, Some, None, Result, Ok, Err}
use Rattle.sw_words.specs.Counts.{one_more}
use Rattle.sw_types.specs.Name.{NameModel}
use Rattle.sw_types.specs.Object.{ObjectModel}
use Rattle.sw_ring.specs.Cluster.{ClusterModel}
use Rattle.sw_message.specs.Learnt.{Booked, Learnt, Marked}
use Rattle.sw_message.specs.Message.{IsMember}
use Rattle.sw_message.specs.Soundly.{told_soundly}
use Rattle.sw_message.specs.declared.draw.DrawFault.{DrawFault}
use Rattle.sw_message.specs.declared.message.Msg.{Msg}
use Rattle.sw_message.specs.declared.reply.Reply.{Reply}
use Rattle.sw_message.specs.declared.reply.Reply.TheVariants.{NoMemory}
use Rattle.sw_view.specs.View.{IsSoundView, known_to}
use Rattle.sw_pass.specs.Known.{AllAgree, history, slot_of, view_of}
use Rattle.sw_pass.specs.Losses.{LossesBelow}
use Rattle.sw_pass.specs.Steps.{IsFresh, counted, drew, filled, marked, raised}
use Rattle.sw_pass.specs.declared.known.Known.{Known}
use Rattle.sw_cell.specs.Calling.{IsCalled}

-- What the pass of a link knows, its clock, the calls that are lost, what was counted: calls, losses, and draws that were refused; and whether a node
-- said that memory was wanted.
pub record LocalModel (T : Type 0) : Type 0 where
  pub known : Known
  pub clock : T
  pub lost : List ℕ
  pub calls : ℕ
  pub losses : ℕ
  pub refused : ℕ
  pub wants : Bool

-- what a seat knows is sound
abbrev pub KnowsSoundly : ClusterModel → Known → Type 0
KnowsSoundly cluster known = IsSoundView cluster (view_of cluster known) × AllAgree known.drawn known.drawn

-- one of each stamp, the first in the list
abbrev pub firsts : {T : Type 0} → (stamp_of : T → ℕ) → List T → List T
firsts stamp_of [] = []
firsts stamp_of (one ∷ others) = one ∷ filter (λ other. not (stamp_of other == stamp_of one)) (firsts stamp_of others)

-- all that a seat knows, each put and each delete once
abbrev pub learnt_of : ClusterModel → Known → Learnt
learnt_of cluster known =
    let all = known_to cluster (view_of cluster known) in
    record { book = firsts (λ (booked : Booked). booked.stamp) all.book; marks = firsts (λ (marked : Marked). marked.stamp) all.marks; heard = all.heard }

-- That is told where the disks tell what they hold. It is put to the test whether it is sound, as a link tells nothing else; what a link
-- knows is.
abbrev pub told_by : ClusterModel → (tells : Bool) → Known → Option Learnt
told_by cluster false known = None
told_by cluster true known = told_soundly cluster.policy (learnt_of cluster known)

-- ---- calls

-- the node says that memory was wanted
abbrev pub wants_memory : Reply → Bool
wants_memory NoMemory = true
wants_memory other = false

-- The call is not among those that are lost: the device was called, and the pass knows what happened.
pub record WasCalled {T : Type 0} (cluster : ClusterModel) (tells : Bool) (before : LocalModel T) (device : ℕ) (msg : Msg) (reply : Reply) (after : LocalModel T) : Type 0 where
  pub member : IsMember cluster device
  pub kept : Contains before.lost (one_more before.calls) → ⊥
  pub called : IsCalled cluster tells (slot_of cluster device) msg reply before.known after.known
  pub after_is : after ≡ record before { known = after.known; calls = one_more before.calls; wants = before.wants || wants_memory reply }

-- The call is among them: the pass knows no more than before.
pub record WasNotCalled {T : Type 0} (cluster : ClusterModel) (before : LocalModel T) (device : ℕ) (after : LocalModel T) : Type 0 where
  pub member : IsMember cluster device
  pub lost : Contains before.lost (one_more before.calls)
  pub after_is : after ≡ record before { calls = one_more before.calls; losses = one_more before.losses }

abbrev pub Calls : {T : Type 0} → ClusterModel → (tells : Bool) → LocalModel T → (device : ℕ) → Msg → Option Reply → LocalModel T → Type 0
Calls cluster tells before device msg (Some reply) after = WasCalled cluster tells before device msg reply after
Calls cluster tells before device msg None after = WasNotCalled cluster before device after

-- ---- draws

-- A seat looked how many losses there were, and raised to a time that the clock showed.
pub record HasRaised {T : Type 0} (shows : T → ℕ → Type 0) (before : LocalModel T) (raised_to : Known) : Type 0 where
  pub time : ℕ
  pub shown : shows before.clock time
  pub mark : ℕ
  pub rises : before.known.mark ≤ mark
  pub above : (slot : ℕ) → LossesBelow mark (history before.known.histories slot)
  pub raised_is : raised_to ≡ raised time (marked mark before.known)

-- Then it drew a stamp for this name and object, or for a delete of this name, no less than the time and above all that it knew.
pub record Drew {T : Type 0} (shows : T → ℕ → Type 0) (before : LocalModel T) (name : NameModel) (object : Option ObjectModel) (stamp : ℕ) (after : LocalModel T) : Type 0 where
  pub raised_to : Known
  pub raises : HasRaised shows before raised_to
  pub drawn : after.known ≡ drew stamp name object raised_to
  pub fresh : IsFresh stamp raised_to
  pub after_is : after ≡ record before { known = after.known }

-- Or it found that the stamps are spent, at the raise or at the draw.
pub record Spent {T : Type 0} (shows : T → ℕ → Type 0) (before after : LocalModel T) : Type 0 where
  pub raised_to : Known
  pub raises : HasRaised shows before raised_to
  pub spent : (after.known ≡ filled raised_to) ⊎ (after.known ≡ filled (counted raised_to))
  pub after_is : after ≡ record before { known = after.known; refused = one_more before.refused }

-- what the pass knows is sound behind it
abbrev pub Draws : {T : Type 0} → ClusterModel → (T → ℕ → Type 0) → LocalModel T → NameModel → Option ObjectModel → Result ℕ DrawFault → LocalModel T → Type 0
Draws cluster shows before name object (Ok stamp) after = Drew shows before name object stamp after × KnowsSoundly cluster after.known
Draws cluster shows before name object (Err fault) after = Spent shows before after × KnowsSoundly cluster after.known
