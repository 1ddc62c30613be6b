-- The partition is one of those that there are, and has few primaries.
use Rattle.std.proofs.Common.{◌<◌, ◌^◌, length, sym, ap, subst, ◌∙◌, arith}
use Rattle.sw_hashpath.proofs.Laws.{part_below}
use Rattle.sw_quorum.proofs.Places.{primaries_few}
use Rattle.sw_sync.proofs.planning.plan.Goals as goal

pub primaries-requires : goal.primaries-requires
primaries-requires c =
    subst (λ part. part < 2 ^ c.args.cluster.now.part_power) (sym (c.part.ensures ∙ c.requires.part)) (part_below c.args.place.now.hash c.args.cluster.now.part_power c.requires.hash)

pub plan_for-requires : goal.plan_for-requires
plan_for-requires c =
    omega (arith, ap length c.deref-in_default-greatest_of.ensures.value, ap length c.in_ok-devices-in_default-greatest_of.ensures, primaries_few c.args.cluster.now c.part.result c.part_power.ensures.rules)
