-- A call of a node behind its lock, by the pass of a link: it is warranted by what the pass knows, and the pass knows the reply then.
use Rattle.std.proofs.Common.{◌≡◌, ℕ, Bool, true, false, Contains, List, Some, refl, sym, subst}
use Rattle.sw_ring.specs.Cluster.{ClusterModel, ids_of}
use Rattle.sw_ring.proofs.Among.{Contains-from_among}
use Rattle.sw_diskfile.proofs.Lists.{Contains-first}
use Rattle.sw_message.specs.Learnt.{KnowsReply, Learnt}
use Rattle.sw_message.specs.Message.{IsMember}
use Rattle.sw_message.specs.Running.{Hears, StillTells}
use Rattle.sw_message.specs.Warrant.{IsWarranted}
use Rattle.sw_message.specs.declared.message.Msg.{Msg}
use Rattle.sw_message.specs.declared.reply.Reply.{Reply}
use Rattle.sw_message.specs.declared.reply.Reply.TheVariants.{DiskFault, NoMemory}
use Rattle.sw_law_scene.proofs.Knowledge.{genuine_kept, warranted_kept}
use Rattle.sw_view.specs.View.{Grows, IsSoundView, View, known_to}
use Rattle.sw_view.specs.declared.event.Event.{Event}
use Rattle.sw_view.specs.declared.event.Event.TheVariants.{Faulted, Handled}
use Rattle.sw_view.proofs.Known.{failed_known, handled_known}
use Rattle.sw_law_view.proofs.Replies.{replies}
use Rattle.sw_pass.specs.Known.{AllAgree, history, slot_of, view_of}
use Rattle.sw_pass.specs.declared.known.Known.{Known}
use Rattle.sw_pass.proofs.Views.{grows_with}
use Rattle.sw_cell.specs.Calling.{IsCalled, MayCall, replied_events}
use Rattle.sw_cell.specs.Learning.{HasGrown}
use Rattle.sw_local.specs.Link.{KnowsSoundly, learnt_of, told_by}
use Rattle.sw_local.proofs.Telling.{no_less, no_more, still_told, told_all}

-- what is warranted by what the link tells is so by what the pass knows
pub may_call : (cluster : ClusterModel) (tells : Bool) (msg : Msg) (known : Known) → KnowsSoundly cluster known
    → ((of : ClusterModel) (learnt : Learnt) → Some cluster ≡ Some of → told_by cluster tells known ≡ Some learnt → IsWarranted of learnt msg) → MayCall cluster tells msg known
may_call cluster tells msg known knows warranted = λ told.
    warranted_kept cluster (learnt_of cluster known) (known_to cluster (view_of cluster known)) (no_more cluster known) msg
    (warranted cluster (learnt_of cluster known) refl (subst (λ (b : Bool). told_by cluster b known ≡ Some (learnt_of cluster known)) (sym told) (told_all cluster known knows)))

-- ---- the reply

module _ (cluster : ClusterModel) (known : Known) (sound : IsSoundView cluster (view_of cluster known)) (agree : AllAgree known.drawn known.drawn)
    (device : ℕ) (member : IsMember cluster device) (msg : Msg) where
  abbrev view : View
  view = view_of cluster known

  -- where the latest event of the device is that it handled the message, the link has learnt of the reply
  heard_handled : (given : Reply) → Contains (view.history device) (Handled msg given) → KnowsReply cluster (learnt_of cluster known) device msg (Some given)
  heard_handled given has = (
    λ some. handled_known view device (ids_of cluster) msg given (Contains-from_among (ids_of cluster) device member) has,
    genuine_kept cluster (known_to cluster view) (learnt_of cluster known) (no_less cluster known sound agree) given ((replies cluster view sound).genuine device msg given has),
  )

  -- likewise of a failure
  heard_failed : Contains (view.history device) (Faulted msg) → KnowsReply cluster (learnt_of cluster known) device msg (Some DiskFault)
  heard_failed has = (λ some. failed_known view device (ids_of cluster) msg (Contains-from_among (ids_of cluster) device member) has, tt)

  -- so it is behind each reply
  heard : (given : Reply) (events : List Event) → view.history device ≡ replied_events true msg given events → KnowsReply cluster (learnt_of cluster known) device msg (Some given)
  heard DiskFault events latest = heard_failed (subst (λ (all : List Event). Contains all (Faulted msg)) (sym latest) (Contains-first (Faulted msg) events))
  heard NoMemory events latest = (λ some. absurd (some refl), tt)
  heard given events latest = heard_handled given (subst (λ (all : List Event). Contains all (Handled msg given)) (sym latest) (Contains-first (Handled msg given) events))

-- ---- the call

pub learnt_grows : (cluster : ClusterModel) (before after : Known) → HasGrown before after → Grows (view_of cluster before) (view_of cluster after)
learnt_grows cluster before after grown = grows_with cluster before.drawn after.drawn before.histories after.histories grown.covers.drawn grown.covers.histories

module _ (cluster : ClusterModel) (tells : Bool) (device : ℕ) (msg : Msg) (given : Reply) (before after : Known)
    (called : IsCalled cluster tells (slot_of cluster device) msg given before after) where
  pub knows_after : KnowsSoundly cluster after
  knows_after = (called.learnt.sound, called.learnt.agree)

  pub tells_after : KnowsSoundly cluster before → StillTells ⊥ (told_by cluster tells before) (told_by cluster tells after)
  tells_after was = still_told cluster before after was knows_after tells (learnt_grows cluster before after called.learnt.grown)

  hears_by : (b : Bool) → tells ≡ b → IsMember cluster device → Hears (Some cluster) (told_by cluster b after) device msg (Some given)
  hears_by false silent member = tt
  hears_by true told member =
      rw (told_all cluster after knows_after)
      (heard cluster after called.learnt.sound called.learnt.agree device member msg given called.replied.middle
      (subst (λ (b : Bool). history after.histories (slot_of cluster device) ≡ replied_events b msg given called.replied.middle) told called.replied.latest))

  pub hears_after : IsMember cluster device → Hears (Some cluster) (told_by cluster tells after) device msg (Some given)
  hears_after member = hears_by tells refl member
