-- Each device of a list is among their numbers.
use Rattle.std.proofs.Common.{◌≡◌, ℕ, ◌<◌, ◌==◌, true, Contains, List, get_or, length, map, refl}
use Rattle.std.proofs.lemmas.Bool.{eq-eqb}
use Rattle.std.proofs.lemmas.List.Elements.{All-contains_itself, All-get_or}
use Rattle.sw_gather.proofs.Lists.{any_passes, in_map}
use Rattle.sw_ring.specs.Ring.{is_among}
use Rattle.sw_ring.specs.declared.device.Device.{Device}

pub member_at : (devices : List Device) (place : ℕ) (default : Device) → place < length devices → is_among (map (λ (one : Device). one.id) devices) (get_or devices place default).id ≡ true
member_at devices place default within =
    let device = get_or devices place default in
    any_passes (λ other. other == device.id) (map (λ (one : Device). one.id) devices) device.id
    (in_map (λ (one : Device). one.id) devices device (All-get_or (λ (one : Device). Contains devices one) devices place default within (All-contains_itself devices))) (eq-eqb device.id device.id refl)
