use Rattle.std.proofs.Common.{◌≡◌, ◌==◌, filter, not, sym, ap, subst, ◌∙◌}
use Rattle.std.specs.List.{All}
use Rattle.std.proofs.lemmas.List.{take_all}
use Rattle.std.proofs.lemmas.List.Elements.{All-filter}
use Rattle.sw_ring.specs.Cluster.{column_of}
use Rattle.sw_message.specs.Message.{IsMember}
use Rattle.sw_daemon.specs.Pass.{others_of}
use Rattle.sw_daemon.proofs.listed.others_of.Goals as goal

others_are : (c : goal.After-drop-primaries-2) → c.loop-other.others.items ≡ others_of (record { cluster = c.args.cluster.now; device = c.args.device }) c.args.part
others_are c =
    c.loop-other.invariant
    ∙ ap (filter (λ id. not (id == c.args.device))) (take_all c.loop-other.other-index c.deref-other-items.result.now c.loop-other-test.false ∙ c.deref-other-items.ensures.value ∙ c.in_ok-primaries.ensures)

pub returns-clause-others : goal.returns-clause-others
returns-clause-others c = others_are c

pub returns-clause-members : goal.returns-clause-members
returns-clause-members c =
    subst (All (IsMember c.args.cluster.now)) (sym (others_are c))
    (All-filter (λ id. not (id == c.args.device)) (IsMember c.args.cluster.now) (column_of c.args.cluster.now c.args.part) (c.part_power.ensures.rules.known c.args.part c.requires))
