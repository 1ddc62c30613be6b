use Rattle.std.proofs.Common.{◌≡◌, ◌^◌, ◌<◌, true, take, sym, subst}
use Rattle.std.specs.List.{All}
use Rattle.std.proofs.lemmas.Bool.{ltb-true}
use Rattle.std.proofs.lemmas.List.Elements.{All-weaker, filter_passes}
use Rattle.sw_daemon.specs.Pass.{is_of_ring, most_parts}
use Rattle.sw_daemon.proofs.Firsts.{kept_first}
use Rattle.sw_daemon.proofs.listed.parts_of_ring.Goals as goal

pub returns-clause-those : goal.returns-clause-those
returns-clause-those c =
    kept_first (is_of_ring c.args.power) c.args.parts.now most_parts c.min-count.result c.loop-part.part-index c.loop-part.those.items c.min-count.ensures c.loop-part-test.false c.loop-part.invariant

pub returns-clause-below : goal.returns-clause-below
returns-clause-below c =
    subst (All (λ part. part < 2 ^ c.args.power)) (sym c.loop-part.invariant)
    (All-weaker (λ part. is_of_ring c.args.power part ≡ true) (λ part. part < 2 ^ c.args.power) (λ part is. ltb-true part (2 ^ c.args.power) is) _
    (filter_passes (is_of_ring c.args.power) (take c.loop-part.part-index (take c.min-count.result c.args.parts.now))))
