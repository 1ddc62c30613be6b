use Rattle.std.proofs.Common.{[], inr, refl, sym, ap, length, arith, ◌∙◌}
use Rattle.std.proofs.KnownBytes.{Appends-nil}
use Rattle.std.proofs.lemmas.List.{length-map}
use Rattle.sw_ring.specs.Cluster.{ClusterModel}
use Rattle.sw_ring.specs.declared.device.Device.{Device}
use Rattle.sw_cell.proofs.Devices.{some_device}
use Rattle.sw_server.proofs.serving.serve_cluster.Goals as goal

pub new-requires-clause-devices : goal.new-requires-clause-devices
new-requires-clause-devices g c =
    let listed = ap (length {A = Device}) c.devices.ensures.listed in
    let some = some_device c.args.cluster c.devices.ensures.rules in
    let few = c.devices.ensures.rules.few in
    (omega (arith, listed, some), omega (arith, listed, few), listed ∙ ap (λ (cluster : ClusterModel). length cluster.devices) c.requires.cluster ∙ sym (length-map g.C.OfCluster.cluster.devices (λ (device : Device). device.id)))

pub returns-in-Err-clause-serves : goal.returns-in-Err-clause-serves
returns-in-Err-clause-serves g c = ([], Appends-nil (g.O.Sink.written c.args.output.now), record { did = inr (record { cause = tt; came_back = λ other. absurd (other refl); faults = refl; untouched = refl; nothing = refl }); door_faults = refl })
