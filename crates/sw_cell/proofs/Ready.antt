-- What a reply needs, from what a call gives: before the mount that was due, and behind it.
use Rattle.std.proofs.Common.{◌≡◌, ⊎_elim, ℕ, Bool, Contains, List, [], ◌∷◌, None, refl, sym, subst}
use Rattle.sw_diskfile.proofs.Lists.{Contains-cases}
use Rattle.sw_ring.specs.Cluster.{ClusterModel}
use Rattle.sw_message.specs.Message.{IsPlaceOf, place_in}
use Rattle.sw_message.specs.declared.message.Msg.{Msg}
use Rattle.sw_law_scene.specs.Disks.{Disk, Sure}
use Rattle.sw_law_possible.proofs.Disks.{found_of}
use Rattle.sw_law_replayed.specs.Keeping.{HasStep}
use Rattle.sw_view.specs.History.{Replays}
use Rattle.sw_view.specs.View.{IsFairEvent, IsSoundView, known_to}
use Rattle.sw_view.specs.declared.event.Event.{Event}
use Rattle.sw_view.specs.declared.event.Event.TheVariants.{Mounted}
use Rattle.sw_view.proofs.Growth.{firm_kept, keeps}
use Rattle.sw_pass.specs.Known.{HasSlot, history, view_of}
use Rattle.sw_pass.specs.declared.known.Known.{Known}
use Rattle.sw_cell.specs.Handling.{HasAdded, MayHandle, MayReply}
use Rattle.sw_cell.proofs.Growing.{added_grows}
use Rattle.sw_cell.proofs.Slots.{slot_is}
use Rattle.sw_cell.proofs.Stepping.{has_step}

-- ---- what a sound seat knows of a device

module _ (cluster : ClusterModel) (slot : ℕ) (known : Known) (sound : IsSoundView cluster (view_of cluster known)) (device : ℕ) (at : HasSlot cluster device slot) where
  -- its history has a disk that it may leave
  pub replayed_at : (disk : Disk) × Replays cluster device (history known.histories slot) disk
  replayed_at =
      let one = sound.closed.replayed device in (one.0, subst (λ (place : ℕ). Replays cluster device (history known.histories place) one.0) (slot_is cluster device slot sound.rules at) one.1)

  -- each event in it is fair
  fair_at : (event : Event) → Contains (history known.histories slot) event → IsFairEvent cluster (known_to cluster (view_of cluster known)) event
  fair_at event has = sound.closed.fair device event (subst (λ (place : ℕ). Contains (history known.histories place) event) (sym (slot_is cluster device slot sound.rules at)) has)

  -- and so is a mount
  fair_mounted : (event : Event) → Contains (Mounted ∷ history known.histories slot) event → IsFairEvent cluster (known_to cluster (view_of cluster known)) event
  fair_mounted event has = ⊎_elim
      (λ same. subst (IsFairEvent cluster (known_to cluster (view_of cluster known))) same tt)
      (λ past. fair_at event past)
      (Contains-cases Mounted (history known.histories slot) event has)

-- ---- what a reply needs

module _ (cluster : ClusterModel) (tells : Bool) (slot : ℕ) (msg : Msg) (right : IsPlaceOf cluster (place_in msg)) where
  -- where no mount was due
  pub may_reply : (known : Known) → MayHandle cluster tells slot msg known → MayReply cluster tells slot msg known
  may_reply known may = record {
    none_owed = may.none_owed;
    replayed = λ device at. replayed_at cluster slot known may.sound device at;
    firm = may.firm;
    step = λ told device at. has_step cluster (view_of cluster known) may.sound device (history known.histories slot) msg (fair_at cluster slot known may.sound device at) right (may.firm told);
  }

  -- behind a mount
  pub may_reply_mounted : (before after : Known) → MayHandle cluster tells slot msg before → HasAdded slot before after → history after.histories slot ≡ Mounted ∷ history before.histories slot → after.owing ≡ None → MayReply cluster tells slot msg after
  may_reply_mounted before after may added is none = record {
    none_owed = none;
    replayed = λ device at.
        let one = replayed_at cluster slot before may.sound device at in
        let found = found_of cluster device one.0 in
        (Sure found.0, subst (λ (events : List Event). Replays cluster device events (Sure found.0)) (sym is) (one.0, found.0, one.1, found.1, refl));
    firm = λ told.
        firm_kept cluster _ _ (keeps (view_of cluster before) (view_of cluster after) (added_grows cluster slot before after added (Mounted ∷ [], is)) cluster) msg (may.firm told);
    step = λ told device at.
        let sound = may.sound in
        subst (λ (events : List Event). HasStep cluster device events msg) (sym is)
        (has_step cluster (view_of cluster before) sound device (Mounted ∷ history before.histories slot) msg (fair_mounted cluster slot before sound device at) right (may.firm told));
  }
