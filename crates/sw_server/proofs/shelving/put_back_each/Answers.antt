use Rattle.std.proofs.Common.{◌≡◌, [], arith}
use Rattle.std.proofs.lemmas.List.{nil_from_length}
use Rattle.std.specs.Vec.Iter.{into_iter_items}
use Rattle.sw_server.proofs.HandingBack.{none_left}
use Rattle.sw_server.proofs.shelving.put_back_each.Goals as goal

pub returns : goal.returns
returns g c =
    let none : into_iter_items c.each.device-iterator ≡ [] = nil_from_length _ (omega (arith, c.in-None.ensures.steps.0, c.each.invariant.are.out_is)) in
    let ended = none_left g.F.Disk.Disk.seen c.args.disks.items _ _ _ _ _ _ none c.each.invariant.are in
    record { out = ended.0; back = ended.1; faults = ended.2 }
