use Rattle.std.proofs.Common.{◌∙◌}
use Rattle.sw_ring.proofs.Partition.{index_among, no_index}
use Rattle.sw_ring.proofs.cluster.Cluster.index_of.Goals as goal

pub returns-in_err-index-clause-index : goal.returns-in_err-index-clause-index
returns-in_err-index-clause-index c =
    let none = rw c.deref.ensures.value at c.in_err-index.ensures in
    rw (c.from_residual.ensures, ← c.self.view_is) (λ within. none ∙ index_among c.args.part c.args.device _ _ c.self.invariant.lengths within)

pub returns-clause-index : goal.returns-clause-index
returns-clause-index c =
    let found = rw c.deref.ensures.value at c.in_ok-index.ensures in
    rw (← c.self.view_is) (λ within. found ∙ index_among c.args.part c.args.device _ _ c.self.invariant.lengths within)

pub returns-clause-no_part : goal.returns-clause-no_part
returns-clause-no_part c =
    let found = rw c.deref.ensures.value at c.in_ok-index.ensures in
    rw (← c.self.view_is) (λ past. let none = found ∙ no_index c.args.part c.args.device _ _ c.self.invariant.lengths past in absurd (cc))
