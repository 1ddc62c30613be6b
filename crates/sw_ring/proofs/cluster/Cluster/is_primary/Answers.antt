use Rattle.std.proofs.Common.{◌==◌, ap, ◌∙◌}
use Rattle.std.specs.Option.{is_some}
use Rattle.sw_ring.specs.Cluster.{column_of}
use Rattle.sw_ring.proofs.Positions.{position_any}
use Rattle.sw_ring.proofs.cluster.Cluster.is_primary.Goals as goal

pub returns : goal.returns
returns c =
    c.is_some.ensures ∙ ap is_some (c.index_of.ensures.index c.requires)
    ∙ position_any (λ id. id == c.args.device) (column_of c.args.self.now c.args.part)
