use Rattle.std.proofs.Common.{inl, inr, sym, ap, subst, ◌∙◌}
use Rattle.sw_objsrv.specs.Node.{Handled, NodeModel}
use Rattle.sw_objsrv.proofs.node.Node.handle.Goals.{else-self, then-self+in_default}
use Rattle.sw_objsrv.proofs.node.Node.handle.Goals as goal

-- where a remount was due, what is left of it is what handles the message
pub returns-clause-handles : goal.returns-clause-handles
returns-clause-handles g c =
    let due = ap (λ (o : NodeModel g.row.D.Denot). o.is_due) (sym c.self.view_is) in
    let handled_by = λ (o : NodeModel g.row.D.Denot). Handled g.D.Disk.seen g.D.Disk.left_since c.args.cluster.now c.args.msg.now c.handle_mounted.result o c.handle_mounted.new.self in
    elim c.if-self.branch [
      | then-self+in_default w ↦ inr (due ∙ w.if-self.true, inl (w.remount.new.self, w.in_default.ensures.remounts, w.in_default.ensures.node, subst handled_by w.self-is c.handle_mounted.ensures.handled))
      | else-self w ↦ inl (due ∙ w.if-self.false, subst handled_by w.self-is c.handle_mounted.ensures.handled)
    ]
