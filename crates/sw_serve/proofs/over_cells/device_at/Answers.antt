use Rattle.std.proofs.Common.{◌≡◌, List, Some, ap, subst, sym, ◌∙◌}
use Rattle.std.specs.List.{slice_get}
use Rattle.std.proofs.lemmas.Option.{slice_get-get_or}
use Rattle.sw_ring.specs.declared.device.Device.{Device}
use Rattle.sw_sim_nodes.proofs.Making.{is_member}
use Rattle.sw_serve.proofs.over_cells.device_at.Goals as goal

pub returns : goal.returns
returns c =
    let device = c.in_ok-get.field-0.now in
    let lookup = c.in_ok-get.ensures.lookup in
    is_member c.args.cluster.now c.devices.ensures.rules c.args.slot device
    (subst (λ (all : List Device). slice_get all c.args.slot ≡ Some device) c.devices.ensures.listed (slice_get-get_or c.devices.result.now c.args.slot device lookup.3.0 ∙ ap Some (sym lookup.1)))
