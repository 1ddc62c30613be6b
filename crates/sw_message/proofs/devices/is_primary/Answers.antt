use Rattle.std.proofs.Common.{ℕ, ◌<◌, ◌^◌, ap, subst, sym, ◌∙◌}
use Rattle.sw_hashpath.proofs.Laws.{part_below}
use Rattle.sw_ring.specs.Cluster.{column_of}
use Rattle.sw_ring.specs.Ring.{is_among}
use Rattle.sw_message.proofs.devices.is_primary.Goals as goal

pub is_primary-requires : goal.is_primary-requires
is_primary-requires c =
    let power = c.args.cluster.now.part_power in
    subst (λ (part : ℕ). part < 2 ^ power) (sym (c.part.ensures ∙ c.requires.part)) (part_below c.args.place.now.hash power c.requires.hash)

pub returns : goal.returns
returns c = c.is_primary.ensures ∙ ap (λ (n : ℕ). is_among (column_of c.args.cluster.now n) c.args.device) c.part.ensures
