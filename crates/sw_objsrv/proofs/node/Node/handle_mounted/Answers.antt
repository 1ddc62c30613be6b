use Rattle.std.proofs.Common.{rules, ◌≡◌, ℕ, Bool, Ok, Err, refl, sym, ap, subst, ◌∙◌}
use Rattle.sw_suffix.specs.Table.{SuffixTableModel}
use Rattle.sw_message.specs.declared.reply.Reply.{Reply}
use Rattle.sw_objsrv.specs.Node.{Handled, IsNode, NodeModel}
use Rattle.sw_objsrv.proofs.Ended.{has_failed}
use Rattle.sw_objsrv.proofs.Handled.{handled, still_node}
use Rattle.sw_objsrv.proofs.node.Node.handle_mounted.Goals as goal

abbrev node_of : {D : Type 0} → D → ℕ → SuffixTableModel → Bool → NodeModel D
node_of disk device table is_due = record { disk = disk; device = device; power = table.power; floors = table.floors; is_due = is_due }

pub returns-in-Ok-clause-handled : goal.returns-in-Ok-clause-handled
returns-in-Ok-clause-handled g c =
    let seen = g.D.Disk.seen in
    let left_since = g.D.Disk.left_since in
    let disk = c.self.inside.disk in
    let later = c.answer-answered.new.disk in
    let old = node_of disk c.self.inside.device c.self.inside.floors c.self.inside.is_due in
    let new = node_of later c.self.inside.device c.answer-answered.new.floors c.self.inside.is_due in
    let is : old ≡ c.args.self.now = c.self.view_is in
    let mounted = ap (λ (o : NodeModel g.row.D.Denot). o.is_due) is ∙ c.requires.mounted in
    let node = subst (IsNode c.args.cluster.now seen) (sym is) c.requires.node in
    let all = c.in-Ok.ensures in
    subst (λ (o : NodeModel g.row.D.Denot). Handled seen left_since c.args.cluster.now c.args.msg.now c.in-Ok.reply o new) is
    (handled seen left_since c.args.cluster.now c.args.msg.now old new (Ok c.in-Ok.reply) (g.met.D.Disk.now disk) (g.met.D.Disk.only_now disk) (g.met.D.Disk.earlier disk) node mounted
    all.unmade all.floors refl mounted c.requires.place all.stamped all.answered all.same)

pub returns-in-Ok-clause-node : goal.returns-in-Ok-clause-node
returns-in-Ok-clause-node g c =
    let seen = g.D.Disk.seen in
    let disk = c.self.inside.disk in
    let later = c.answer-answered.new.disk in
    let old = node_of disk c.self.inside.device c.self.inside.floors c.self.inside.is_due in
    let new = node_of later c.self.inside.device c.answer-answered.new.floors c.self.inside.is_due in
    let is : old ≡ c.args.self.now = c.self.view_is in
    let mounted = ap (λ (o : NodeModel g.row.D.Denot). o.is_due) is ∙ c.requires.mounted in
    let node = subst (IsNode c.args.cluster.now seen) (sym is) c.requires.node in
    let all = c.in-Ok.ensures in
    still_node seen g.D.Disk.left_since c.args.cluster.now c.args.msg.now old new (Ok c.in-Ok.reply) (g.met.D.Disk.now disk) (g.met.D.Disk.only_now disk) (g.met.D.Disk.earlier disk) node mounted
    all.unmade all.floors refl mounted g.D.Disk.tells (g.met.D.Disk.telling disk) (g.met.D.Disk.telling later) all.power_is all.order all.answered

pub returns-in-Err-clause-node : goal.returns-in-Err-clause-node
returns-in-Err-clause-node g c =
    let seen = g.D.Disk.seen in
    let disk = c.self.inside.disk in
    let later = c.answer-answered.new.disk in
    let old = node_of disk c.self.inside.device c.self.inside.floors c.self.inside.is_due in
    let new = node_of later c.self.inside.device c.answer-answered.new.floors c.eq-self-inside.result in
    let is : old ≡ c.args.self.now = c.self.view_is in
    let mounted = ap (λ (o : NodeModel g.row.D.Denot). o.is_due) is ∙ c.requires.mounted in
    let node = subst (IsNode c.args.cluster.now seen) (sym is) c.requires.node in
    let all = c.in-Err.ensures in
    let due : c.eq-self-inside.result ≡ has_failed (Err c.in-Err.refusal) = search rules in
    still_node seen g.D.Disk.left_since c.args.cluster.now c.args.msg.now old new (Err c.in-Err.refusal) (g.met.D.Disk.now disk) (g.met.D.Disk.only_now disk) (g.met.D.Disk.earlier disk) node mounted
    all.unmade all.floors refl due g.D.Disk.tells (g.met.D.Disk.telling disk) (g.met.D.Disk.telling later) all.power_is all.order all.answered

pub returns-in-Err-clause-handled : goal.returns-in-Err-clause-handled
returns-in-Err-clause-handled g c =
    let seen = g.D.Disk.seen in
    let left_since = g.D.Disk.left_since in
    let disk = c.self.inside.disk in
    let later = c.answer-answered.new.disk in
    let old = node_of disk c.self.inside.device c.self.inside.floors c.self.inside.is_due in
    let new = node_of later c.self.inside.device c.answer-answered.new.floors c.eq-self-inside.result in
    let is : old ≡ c.args.self.now = c.self.view_is in
    let mounted = ap (λ (o : NodeModel g.row.D.Denot). o.is_due) is ∙ c.requires.mounted in
    let node = subst (IsNode c.args.cluster.now seen) (sym is) c.requires.node in
    let all = c.in-Err.ensures in
    let due : c.eq-self-inside.result ≡ has_failed (Err c.in-Err.refusal) = search rules in
    let done = handled seen left_since c.args.cluster.now c.args.msg.now old new (Err c.in-Err.refusal) (g.met.D.Disk.now disk) (g.met.D.Disk.only_now disk) (g.met.D.Disk.earlier disk) node mounted
    all.unmade all.floors refl due c.requires.place all.stamped all.answered all.same in
    subst (λ (o : NodeModel g.row.D.Denot). Handled seen left_since c.args.cluster.now c.args.msg.now c.refused.result o new) is
    (subst (λ (r : Reply). Handled seen left_since c.args.cluster.now c.args.msg.now r old new) (sym c.refused.ensures) done)
