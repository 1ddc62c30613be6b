-- Which event comes of a mount and of a reply, by cases.
use Rattle.std.proofs.Common.{◌≡◌, ◌≢◌, Bool, true, false, List, ◌∷◌, Option, None, Some, refl, ap, ◌∙◌, sym}
use Rattle.sw_ring.specs.Cluster.{ClusterModel}
use Rattle.sw_message.specs.Learnt.{Learnt}
use Rattle.sw_message.specs.Message.{IsPlaceOf, place_in}
use Rattle.sw_message.specs.declared.message.Msg.{Msg}
use Rattle.sw_message.specs.declared.reply.Reply.{Reply}
use Rattle.sw_message.specs.declared.reply.Reply.TheVariants.{DiskFault, NoMemory}
use Rattle.sw_objsrv.specs.declared.fault.MountFault.{MountFault}
use Rattle.sw_objsrv.specs.declared.fault.MountFault.TheVariants as fault
use Rattle.sw_view.specs.View.{IsFairEvent, IsFirm}
use Rattle.sw_view.specs.declared.event.Event.{Event}
use Rattle.sw_view.specs.declared.event.Event.TheVariants.{Faulted, Mounted}
use Rattle.sw_law_replayed.specs.Keeping.{handled_events, mounted_events}
use Rattle.sw_cell.specs.Calling.{event_of, mount_event, remounted_events, replied_events, shown}

-- ---- mounts

-- unless memory was wanted, the event of a mount is added
pub mount_added : (tells : Bool) (msg : Msg) (reason : Option MountFault) (events : List Event) → reason ≢ Some fault.NoMemory → remounted_events tells msg reason events ≡ mount_event tells msg reason ∷ events
mount_added tells msg None events some = refl
mount_added tells msg (Some fault.Failed) events some = refl
mount_added tells msg (Some fault.NoMemory) events some = absurd (some refl)

-- where the disk tells, the history is the one that the law of replays speaks of
mounted_told : (msg : Msg) (reason : Option MountFault) (events : List Event) → mounted_events msg reason events ≡ remounted_events true msg reason events
mounted_told msg None events = refl
mounted_told msg (Some fault.Failed) events = refl
mounted_told msg (Some fault.NoMemory) events = refl

pub mounted_if : (tells : Bool) (msg : Msg) (reason : Option MountFault) (events : List Event) → tells ≡ true → mounted_events msg reason events ≡ remounted_events tells msg reason events
mounted_if tells msg reason events told = mounted_told msg reason events ∙ ap (λ b. remounted_events b msg reason events) (sym told)

-- where it tells nothing the event is a mount
mount_untold : (msg : Msg) (reason : Option MountFault) → mount_event false msg reason ≡ Mounted
mount_untold msg None = refl
mount_untold msg (Some reason) = refl

pub mount_unless : (tells : Bool) (msg : Msg) (reason : Option MountFault) → tells ≡ false → mount_event tells msg reason ≡ Mounted
mount_unless tells msg reason silent = ap (λ b. mount_event b msg reason) silent ∙ mount_untold msg reason

-- ---- replies

-- unless memory was wanted, the event of a reply is added
pub reply_added : (tells : Bool) (msg : Msg) (reply : Reply) (events : List Event) → reply ≢ NoMemory → replied_events tells msg reply events ≡ shown tells (event_of msg reply) ∷ events
reply_added tells msg NoMemory events some = absurd (some refl)
reply_added tells msg other events some = refl

-- where the disk tells, the history is the one that the law of replays speaks of
handled_told : (msg : Msg) (reply : Reply) (events : List Event) → handled_events msg reply events ≡ replied_events true msg reply events
handled_told msg DiskFault events = refl
handled_told msg NoMemory events = refl
handled_told msg other events = refl

pub handled_if : (tells : Bool) (msg : Msg) (reply : Reply) (events : List Event) → tells ≡ true → handled_events msg reply events ≡ replied_events tells msg reply events
handled_if tells msg reply events told = handled_told msg reply events ∙ ap (λ b. replied_events b msg reply events) (sym told)

-- where it tells nothing the event is a mount
pub shown_unless : (tells : Bool) (event : Event) → tells ≡ false → shown tells event ≡ Mounted
shown_unless tells event silent = ap (λ b. shown b event) silent

-- ---- what every such event is

-- each is fair, where the message is firmly warranted if the disk tells
module _ (cluster : ClusterModel) (learnt : Learnt) (msg : Msg) (place : IsPlaceOf cluster (place_in msg)) where
  shown_fair : (tells : Bool) (event : Event) → (tells ≡ true → IsFairEvent cluster learnt event) → IsFairEvent cluster learnt (shown tells event)
  shown_fair true event fair = fair refl
  shown_fair false event fair = tt

  reply_fair_at : (reply : Reply) → IsFirm cluster learnt msg → IsFairEvent cluster learnt (event_of msg reply)
  reply_fair_at DiskFault firm = (place, firm)
  reply_fair_at other firm = (place, firm)

  pub mount_fair : (tells : Bool) (reason : Option MountFault) → (tells ≡ true → IsFirm cluster learnt msg) → IsFairEvent cluster learnt (mount_event tells msg reason)
  mount_fair tells None firm = tt
  mount_fair tells (Some reason) firm = shown_fair tells (Faulted msg) (λ told. (place, firm told))

  pub reply_fair : (tells : Bool) (reply : Reply) → (tells ≡ true → IsFirm cluster learnt msg) → IsFairEvent cluster learnt (shown tells (event_of msg reply))
  reply_fair tells reply firm = shown_fair tells (event_of msg reply) (λ told. reply_fair_at reply (firm told))
