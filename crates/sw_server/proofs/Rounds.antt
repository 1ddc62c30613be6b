-- Passes of devices, one behind the other.
use Rattle.std.proofs.Common.{◌≡◌, ℕ, ◌+◌, ◌<◌, ◌∷◌, Bool, true, false, List, inl, inr, refl, sym, ap, subst, arith, drop, get_or, length, Result, Ok, Err, is_ok}
use Rattle.std.specs.Prelude.{IsErr}
use Rattle.std.proofs.Math.ListN.{drop_of_length-le}
use Rattle.std.proofs.lemmas.List.{drop_more}
use Rattle.sw_ring.specs.Cluster.{ClusterModel}
use Rattle.sw_ring.specs.Rules.{device_ids}
use Rattle.sw_ring.specs.declared.device.Device.{Device}
use Rattle.sw_front.specs.Answering.{Ways}
use Rattle.sw_server.specs.Passes.{RunPasses, RunsPass}

abbrev pub nowhere : Device
nowhere = record { id = 0; capacity = 0 }

module _ {L : Type 0} (ways : Ways L) (cluster : ClusterModel) (items : List Device) (index : ℕ) where
  -- the passes of the devices from a place on
  abbrev pub FromOn : (is_whole : Bool) → (before after : L) → Type 0
  FromOn is_whole before after = RunPasses ways cluster (device_ids (drop index items)) is_whole before after

  abbrev device : ℕ
  device = (get_or items index nowhere).id

  ids_are : index < length items → device_ids (drop index items) ≡ device ∷ device_ids (drop (index + 1) items)
  ids_are within = ap device_ids (drop_more items index nowhere within)

  -- one more ran to its end
  pub one_more_ran : (is_whole : Bool) (before between after : L) → index < length items → RunsPass ways cluster device true before between → RunPasses ways cluster (device_ids (drop (index + 1) items)) is_whole between after
      → FromOn is_whole before after
  one_more_ran is_whole before between after within ran rest = subst (λ (ids : List ℕ). RunPasses ways cluster ids is_whole before after) (sym (ids_are within)) (inl (between, ran, rest))

  -- memory was wanted in it
  pub one_wanted : (before after : L) → index < length items → RunsPass ways cluster device false before after → FromOn false before after
  one_wanted before after within ran = subst (λ (ids : List ℕ). RunPasses ways cluster ids false before after) (sym (ids_are within)) (inr (refl, ran))

  -- none is left
  pub none_is_left : (link : L) → length items < index + 1 → FromOn true link link
  none_is_left link past = subst (λ (rest : List Device). RunPasses ways cluster (device_ids rest) true link link) (sym (drop_of_length-le items {i = index} (omega (arith, past)))) (refl, refl)

-- an error is no success
pub no_success : {T E : Type 0} (result : Result T E) → IsErr result → is_ok result ≡ false
no_success (Ok value) is = sym is
no_success (Err error) is = refl
