use Rattle.std.proofs.Common.{◌≡◌, ◌++◌, ℕ, List, sym, ap, subst, ◌∙◌, arith}
use Rattle.sw_ring.specs.Cluster.{KeepsRules}
use Rattle.sw_cell.proofs.Disks.{AreDisksOf}
use Rattle.sw_cell.proofs.Devices.{some_device}
use Rattle.sw_cell.proofs.cells.Cells.close.Goals as goal

pub returns-clause-learnt : goal.returns-clause-learnt
returns-clause-learnt g c =
    let some = some_device g.C.OfCluster.cluster (subst KeepsRules (c.cluster.view_is ∙ c.self.invariant.1) c.cluster.invariant) in
    c.close_each.ensures.learnt (omega (arith, some, c.self.invariant.2))

pub returns-clause-disks : goal.returns-clause-disks
returns-clause-disks g c =
    let each = c.close_each.ensures.each in
    let all : c.close_each.new.disks.items ≡ each.0 = each.1 ∙ ap (λ (disks : List (ℕ × g.row.D.Denot)). disks ++ each.0) c.self.invariant.3 in
    subst (AreDisksOf g.C.OfCluster.cluster g.D.Disk.seen c.close_each.new.pass.known) (sym all) each.3
