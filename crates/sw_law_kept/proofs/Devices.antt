-- What devices bear where one of them has another state.
use Rattle.std.proofs.Common.{◌⊎◌, inl, inr, ⊎_elim, ℕ, refl, sym, subst}
use Rattle.std.proofs.lemmas.Bool.{cases_eq}
use Rattle.sw_hashpath.specs.Place.{PlaceModel}
use Rattle.sw_law_claim.specs.Claim.{Claim}
use Rattle.sw_law_scene.specs.Scene.{DeviceState, Scene, set_device}
use Rattle.sw_law_scene.proofs.Disks.{disk_here, disk_there}
use Rattle.sw_law_owed.specs.Promise.{BearsAt}
use Rattle.sw_law_owed.proofs.Kept.{DiskBears}

module _ (scene : Scene) (device : ℕ) (state : DeviceState) where
  module _ (place : PlaceModel) (claim : Claim) where
    -- the device bears what that disk does
    pub here_bears : DiskBears scene.cluster device place claim state.disk → BearsAt (set_device device state scene) device place claim
    here_bears borne = subst (DiskBears scene.cluster device place claim) (sym (disk_here scene device state device refl)) borne

    -- what a device bore it bears still, unless something else holds, where that is so of the device itself
    pub set_bears : (Else : ℕ → Type 0) → (BearsAt scene device place claim → DiskBears scene.cluster device place claim state.disk ⊎ Else device) → (other : ℕ) → BearsAt scene other place claim
        → BearsAt (set_device device state scene) other place claim ⊎ Else other
    set_bears Else itself other borne = ⊎_elim
        (λ same. subst (λ (d : ℕ). BearsAt (set_device device state scene) d place claim ⊎ Else d) (sym same)
        (⊎_elim (λ bears. inl (here_bears bears)) (λ is. inr is) (itself (subst (λ (d : ℕ). BearsAt scene d place claim) same borne))))
        (λ apart. inl (subst (DiskBears scene.cluster other place claim) (sym (disk_there scene device state other apart)) borne))
        (cases_eq other device)
