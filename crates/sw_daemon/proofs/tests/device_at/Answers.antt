use Rattle.std.proofs.Common.{◌≡◌, true, List, get_or, map, subst}
use Rattle.sw_ring.specs.Ring.{is_among}
use Rattle.sw_ring.specs.declared.device.Device.{Device}
use Rattle.sw_daemon.proofs.Members.{member_at}
use Rattle.sw_daemon.proofs.tests.device_at.Goals as goal

pub returns : goal.returns
returns c =
    let devices = c.devices-devices.result.now in
    let none : Device = record { id = 0; capacity = 0 } in
    subst (λ (these : List Device). is_among (map (λ (one : Device). one.id) these) (get_or devices c.args.slot none).id ≡ true) c.devices-devices.ensures.listed
    (member_at devices c.args.slot none c.if-slot-devices.false)
