use Rattle.std.proofs.Common.{rules, ◌≡◌, Option, Some, true, refl, sym, subst, true≢false}
use Rattle.sw_objsrv.specs.Mounting.{fault_of}
use Rattle.sw_objsrv.specs.Node.{IsNode, NodeModel, Remounts}
use Rattle.sw_objsrv.specs.declared.fault.MountFault.{MountFault}
use Rattle.sw_objsrv.proofs.Accounting.{mount_accounted}
use Rattle.sw_objsrv.proofs.node.Node.remount.Goals as goal

-- where it was refused the folders need not be in order
pub returns-in_err-self-inside-clause-node : goal.returns-in_err-self-inside-clause-node
returns-in_err-self-inside-clause-node g c =
    let node = subst (IsNode c.args.cluster.now g.D.Disk.seen) (sym c.self.view_is) c.requires in
    record {
      rules = node.rules;
      power_is = node.power_is;
      member = node.member;
      in_order = λ none. absurd (true≢false none);
      accounted = λ none. absurd (true≢false none);
    }

pub returns-in_err-self-inside-clause-remounts : goal.returns-in_err-self-inside-clause-remounts
returns-in_err-self-inside-clause-remounts g c =
    let seen = g.D.Disk.seen in
    let left_since = g.D.Disk.left_since in
    let disk = c.self.inside.disk in
    let later = c.mount_places.new.disk in
    let device = c.self.inside.device in
    let floors = c.self.inside.floors in
    let new : NodeModel g.row.D.Denot = record { disk = later; device = device; power = floors.power; floors = floors.floors; is_due = true } in
    let fault = c.in_err-self-inside.field-0.0 in
    let is : fault_of c.from_residual.result ≡ Some fault = search rules in
    let mounts = c.in_err-self-inside.ensures.mounts in
    subst (λ (o : NodeModel g.row.D.Denot). Remounts seen left_since c.args.cluster.now (fault_of c.from_residual.result) o new) c.self.view_is
    (subst (λ (f : Option MountFault). Remounts seen left_since c.args.cluster.now f (record { disk = disk; device = device; power = floors.power; floors = floors.floors; is_due = c.self.inside.is_due }) new) (sym is)
    (record {
      mounts = mounts;
      is_due = λ none. absurd (cc);
      due = λ reason some. refl;
      accounted = mount_accounted seen left_since c.args.cluster.now device (Some fault) disk later mounts.calls;
      device = refl;
    }))
