use Rattle.std.proofs.Common.{◌++◌, take, map, ap, sym, ◌∙◌, append_assoc, append-nil, take_all, ℕ}
use Rattle.std.proofs.lemmas.List.{map_more}
use Rattle.sw_script.specs.declared.event.Event.{Event}
use Rattle.sw_script.specs.declared.event.Event.TheVariants.{Run}
use Rattle.sw_script.specs.declared.event.Job.TheVariants.{Recon}
use Rattle.sw_lab.specs.Workload.{name_of, repairs_of}
use Rattle.sw_lab.proofs.step.add_repairs.Goals as goal

pub loop-device-init : goal.loop-device-init
loop-device-init c = sym (append-nil c.args.events.now.items)

pub loop-device-preserved : goal.loop-device-preserved
loop-device-preserved c =
    let devices = c.args.devices.now in
    let i = c.loop-device.device-index in
    let repair : ℕ → Event = λ device. Run (Recon device (name_of c.args.draw.name)) in
    c.in_ok-push_back.ensures.items ∙ rw (c.loop-device.invariant, c.from-device.ensures, c.in_ok-name.ensures)
    (append_assoc c.args.events.now.items (map repair (take i devices)) _
    ∙ ap (λ events. c.args.events.now.items ++ events) (sym (map_more repair devices i 0 c.loop-device-test.true)))

pub returns : goal.returns
returns c = c.loop-device.invariant ∙ ap (λ devices. c.args.events.now.items ++ repairs_of devices c.args.draw) (take_all c.loop-device.device-index c.args.devices.now c.loop-device-test.false)
