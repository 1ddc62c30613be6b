-- The partition is one of those that there are.
use Rattle.std.proofs.Common.{◌<◌, ◌^◌, sym, subst, ◌∙◌}
use Rattle.sw_hashpath.proofs.Laws.{part_below}
use Rattle.sw_sync.proofs.stepping.advance.Goals as goal

pub primaries-requires : goal.primaries-requires
primaries-requires c =
    subst (λ part. part < 2 ^ c.args.cluster.now.part_power) (sym (c.part.ensures ∙ c.requires.right.part)) (part_below c.args.place.now.hash c.args.cluster.now.part_power c.requires.right.hash)
