-- A view stays closed as an event is added at a slot.
use Rattle.std.proofs.Common.{◌≡◌, ⊎_elim, ℕ, suc, ◌<◌, ◌==◌, if◌then◌else◌, Contains, List, [], ◌∷◌, length, Some, refl, sym, ap, subst, inl, inr, arith}
use Rattle.std.specs.Prelude.{slice_get}
use mathlib.Core.Logic.{dite}
use native.Mathlib.Decide.{ℕ_discrete}
use Rattle.sw_diskfile.proofs.Lists.{Contains-cases}
use Rattle.sw_ring.specs.Cluster.{ClusterModel, ids_of}
use Rattle.sw_law_scene.specs.Disks.{Disk}
use Rattle.sw_view.specs.History.{Replays}
use Rattle.sw_view.specs.View.{IsClosed, IsFairEvent, View, known_to}
use Rattle.sw_view.specs.declared.event.Event.{Event}
use Rattle.sw_pass.specs.Known.{HasSlot, history, size_of, slot_in, slot_of, view_with, with_history}
use Rattle.sw_pass.specs.declared.known.Drawn.{Drawn}
use Rattle.sw_pass.proofs.Histories.{continues_one, history_other, history_same, with_more}
use Rattle.sw_pass.proofs.Losses.{same_or_not}
use Rattle.sw_pass.proofs.Views.{closed_after, grows_with}

-- a slot that is found is the device's
pub slot_found : (ids : List ℕ) (device slot : ℕ) → slot_in ids device ≡ slot → slot < length ids → slice_get ids slot ≡ Some device
slot_found [] device slot is inside = absurd (omega (arith, inside))
slot_found (id ∷ ids) device slot is inside =
    same_or_not id device (λ b. (if b then 0 else suc (slot_in ids device)) ≡ slot → slice_get (id ∷ ids) slot ≡ Some device) (id == device) refl
    (λ same here. subst (λ z. slice_get (id ∷ ids) z ≡ Some device) here (ap Some same))
    (λ apart later. subst (λ z. slice_get (id ∷ ids) z ≡ Some device) later (slot_found ids device (slot_in ids device) refl (omega (arith, later, inside))))
    is

module _ (cluster : ClusterModel) (drawn : List Drawn) (histories : List (List Event)) (slot : ℕ) (event : Event) where
  abbrev before : View
  before = view_with cluster drawn histories

  abbrev after : View
  after = view_with cluster drawn (with_history histories slot (event ∷ history histories slot))

  pub added_closed : slot < size_of cluster → IsFairEvent cluster (known_to cluster before) event → ((device : ℕ) → HasSlot cluster device slot → (disk : Disk) × Replays cluster device (event ∷ history histories slot) disk)
      → IsClosed cluster before → IsClosed cluster after
  added_closed inside fair replayed closed =
      closed_after cluster before after
      (grows_with cluster drawn drawn histories (with_history histories slot (event ∷ history histories slot)) (λ fact has. has) (with_more histories slot (event ∷ history histories slot) (continues_one event (history histories slot))))
      (λ device one has. dite (ℕ_discrete (slot_of cluster device) slot)
      (λ same.
      let here : Contains (event ∷ history histories slot) one = subst (λ events. Contains events one) (history_same histories slot (event ∷ history histories slot)) (subst (λ z. Contains (history (with_history histories slot (event ∷ history histories slot)) z) one) same has) in
      ⊎_elim (λ first. inr (subst (IsFairEvent cluster (known_to cluster before)) first fair))
      (λ later. inl (subst (λ z. Contains (history histories z) one) (sym same) later))
      (Contains-cases event (history histories slot) one here))
      (λ apart. inl (subst (λ events. Contains events one) (history_other histories slot (slot_of cluster device) (event ∷ history histories slot) apart) has)))
      (λ device. dite (ℕ_discrete (slot_of cluster device) slot)
      (λ same.
      let one = replayed device (slot_found (ids_of cluster) device slot same inside) in (
        one.0,
        subst (λ z. Replays cluster device (history (with_history histories slot (event ∷ history histories slot)) z) one.0) (sym same)
            (subst (λ events. Replays cluster device events one.0) (sym (history_same histories slot (event ∷ history histories slot))) one.1),
      ))
      (λ apart. let one = closed.replayed device in (one.0, subst (λ events. Replays cluster device events one.0) (sym (history_other histories slot (slot_of cluster device) (event ∷ history histories slot) apart)) one.1)))
      closed
