use Rattle.std.proofs.Common.{◌≡◌, ℕ, ◌==◌, ◌||◌, List, [], ◌∷◌, rules, refl, ap, ◌∙◌}
use borrow.Author.Tests.{tests}
use Rattle.std.specs.List.{list_any}
use Rattle.std.proofs.lemmas.Iterator.{YieldsList-from_slice}
use Rattle.std.proofs.lemmas.Iterator.Search.{any_from_yields_List}
use Rattle.sw_ring.specs.Ring.{is_among}
use Rattle.sw_ring.specs.Rules.{device_ids}
use Rattle.sw_ring.specs.declared.device.Device.{Device}
use Rattle.sw_operation.proofs.tests.is_member.Goals as goal

any_id : (id : ℕ) (devices : List Device) → list_any (λ (one : Device). one.id == id) devices ≡ is_among (device_ids devices) id
any_id id [] = refl
any_id id (first ∷ devices) = ap (λ rest. (first.id == id) || rest) (any_id id devices)

pub returns : goal.returns
returns c =
    any_from_yields_List (λ (one : Device). one.id == c.args.device) _ _ _ c.any.ensures.ran (YieldsList-from_slice c.devices.result.now cc) (λ x b q k. search (rules, tests))
    ∙ any_id c.args.device c.devices.result.now ∙ ap (λ devices. is_among (device_ids devices) c.args.device) c.devices.ensures.listed
