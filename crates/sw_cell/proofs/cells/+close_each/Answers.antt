use Rattle.std.proofs.Common.{◌≡◌, ◌+◌, ◌++◌, ℕ, get_or, List, [], ◌∷◌, length, sym, ap, subst, ◌∙◌, arith, append-nil, length-append}
use Rattle.sw_ring.specs.Cluster.{ClusterModel}
use Rattle.sw_ring.specs.declared.device.Device.{Device}
use Rattle.sw_pass.specs.Steps.{old_of}
use Rattle.sw_pass.specs.Known.{Covers}
use Rattle.sw_cell.specs.Locked.{LockedModel}
use Rattle.sw_cell.specs.Standing.{IsDiskOf}
use Rattle.sw_cell.proofs.Lasting.{learnt_last, told_still}
use Rattle.sw_cell.proofs.Disks.{added_twice, disks_more, no_disks}
use Rattle.sw_cell.proofs.Placed.{id_at}
use Rattle.sw_cell.proofs.cells.+close_each.Goals as goal

-- ---- where no lock is left

pub returns-in_default-clause-each : goal.returns-in_default-clause-each
returns-in_default-clause-each g t c =
    let none : 0 ≡ length c.args.locks.now.items = omega (arith, c.in_default.ensures.cases.0, c.args.locks.now.ok.0) in
    ([], sym (append-nil c.args.disks.now.items), none, no_disks g.C.OfCluster.cluster g.D.Disk.seen c.args.pass.now.known)

-- ---- where one is

pub close_each-requires : goal.close_each-requires
close_each-requires g t c κs within =
    let one : length c.pop.new.self.items + 1 ≡ length c.args.locks.now.items = omega (arith, c.in-Some.ensures.cases, c.args.locks.now.ok.0, c.pop.new.self.ok.0) in
    (omega (arith, c.decreases), (within.0, (within.1.0, (within.1.1, ((c.requires.table.0, c.tell.ensures.table ∙ c.requires.table.1), (c.requires.cluster, omega (arith, c.requires.room)))))))

pub close-requires-clause-told : goal.close-requires-clause-told
close-requires-clause-told g t c =
    let told : Covers c.tell.new.pass.known (old_of c.tell.new.self.known) =
    subst (λ (one : LockedModel g.row.D.Denot). Covers c.tell.new.pass.known (old_of one.known)) (sym c.tell.ensures.same) c.tell.ensures.told in
    told_still (old_of c.tell.new.self.known) c.tell.new.pass.known c.close_each.new.pass.known told c.close_each.ensures.grown

pub unwrap-requires : goal.unwrap-requires
unwrap-requires g t c =
    let more : length c.close_each.new.disks.items ≡ length c.args.disks.now.items + length c.close_each.ensures.each.0 = ap length c.close_each.ensures.each.1 ∙ length-append c.args.disks.now.items c.close_each.ensures.each.0 in
    c.push.ensures.succeeds (omega (arith, c.in-Some.ensures.cases, c.args.locks.now.ok.0, c.pop.new.self.ok.0, more, c.close_each.ensures.each.2, c.close_each.new.disks.ok.0, c.close_each.ensures.room, c.requires.room))

pub returns-clause-grown : goal.returns-clause-grown
returns-clause-grown g t c =
    (learnt_last g.C.OfCluster.cluster c.args.pass.now.known c.tell.new.pass.known c.close_each.new.pass.known c.close.new.pass.known c.tell.ensures.learnt c.close_each.ensures.grown c.close.ensures.learnt).grown

pub returns-clause-learnt : goal.returns-clause-learnt
returns-clause-learnt g t c = λ some.
    learnt_last g.C.OfCluster.cluster c.args.pass.now.known c.tell.new.pass.known c.close_each.new.pass.known c.close.new.pass.known c.tell.ensures.learnt c.close_each.ensures.grown c.close.ensures.learnt

pub returns-clause-each : goal.returns-clause-each
returns-clause-each g t c =
    let cluster = g.C.OfCluster.cluster in
    let none : Device = record { id = 0; capacity = 0 } in
    let device : ℕ = (get_or c.devices.result.now c.position.result none).id in
    let others = c.close_each.ensures.each in
    let same : c.tell.new.self.node.device ≡ device = ap (λ (one : LockedModel g.row.D.Denot). one.node.device) c.tell.ensures.same
    ∙ sym (ap (λ (devices : List Device). (get_or devices c.position.result none).id) (c.devices.ensures.listed ∙ ap (λ (now : ClusterModel). now.devices) c.requires.cluster)
    ∙ ap (λ (slot : ℕ). (get_or cluster.devices slot none).id) c.position.ensures.value ∙ id_at cluster _ _ none c.position.ensures.slot) in
    let pushed : c.push.new.self.items ≡ c.close_each.new.disks.items ++ (device, c.close.result) ∷ [] = rw c.unwrap.ensures at c.push.ensures.items in
    let one : length (others.0 ++ (device, c.close.result) ∷ []) ≡ length others.0 + 1 = length-append others.0 ((device, c.close.result) ∷ []) in (
      others.0 ++ (device, c.close.result) ∷ [],
      added_twice c.args.disks.now.items c.close_each.new.disks.items c.push.new.self.items others.0 (device, c.close.result) others.1 pushed,
      omega (arith, one, others.2, c.in-Some.ensures.cases, c.args.locks.now.ok.0, c.pop.new.self.ok.0),
      disks_more cluster g.D.Disk.seen c.close_each.new.pass.known c.close.new.pass.known c.close.ensures.same others.0 device c.close.result others.3
          (subst (λ (id : ℕ). IsDiskOf cluster g.D.Disk.seen c.close.new.pass.known id c.close.result) same c.close.ensures.disk),
    )
