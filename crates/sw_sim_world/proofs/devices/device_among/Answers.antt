use Rattle.std.proofs.Common.{◌==◌, is_some, sym, ap, ◌∙◌}
use Rattle.std.proofs.lemmas.Bool.{eqb-true}
use Rattle.std.proofs.lemmas.List.Quantifiers.{position-Some}
use Rattle.sw_ring.specs.declared.device.Device.{Device}
use Rattle.sw_sim_nodes.proofs.Placing.{some_slot}
use Rattle.sw_sim_world.proofs.devices.device_among.Goals as goal

pub returns-in_err-slot-clause-known : goal.returns-in_err-slot-clause-known
returns-in_err-slot-clause-known c = ap is_some (c.from_residual.ensures ∙ c.in_err-slot.ensures) ∙ some_slot c.args.number c.args.devices.now

pub returns-clause-known : goal.returns-clause-known
returns-clause-known c = ap is_some c.in_ok-slot.ensures ∙ some_slot c.args.number c.args.devices.now

pub returns-clause-id : goal.returns-clause-id
returns-clause-id c = eqb-true _ _ (position-Some (λ (device : Device). device.id == c.args.number) c.args.devices.now c.in_ok-slot.slot (record { id = 0; capacity = 0 }) (sym c.in_ok-slot.ensures)).1
