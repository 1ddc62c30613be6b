use Rattle.std.proofs.Common.{rules, ◌≡◌, ◌<◌, length, arith, subst, List, ℕ, sym}
use Rattle.sw_ring.specs.Cluster.{ids_of}
use Rattle.sw_lab.proofs.Devices.{some_id}
use Rattle.sw_lab.proofs.workload.Workload.new.Goals as goal

pub invariant_of-result : goal.invariant_of-result
invariant_of-result c =
    let ids : c.in_ok-devices.devices.items ≡ ids_of c.args.cluster.now = search rules in
    (omega arith, subst (λ (ids : List ℕ). 0 < length ids) (sym ids) (some_id c.args.cluster.now c.devices.ensures.rules))
