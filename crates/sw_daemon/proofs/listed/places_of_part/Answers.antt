use Rattle.std.proofs.Common.{◌≡◌, ◌^◌, ◌<◌, ◌==◌, true, take, sym, subst, ◌∙◌}
use Rattle.std.specs.List.{All}
use Rattle.std.proofs.lemmas.Bool.{and_parts, eqb-true}
use Rattle.std.proofs.lemmas.List.Elements.{All-weaker, filter_passes}
use Rattle.sw_hashpath.specs.Place.{PlaceModel, part_of}
use Rattle.sw_daemon.specs.Coursing.{IsOfHash}
use Rattle.sw_daemon.specs.Pass.{is_of_part, most_places}
use Rattle.sw_daemon.proofs.Firsts.{kept_first}
use Rattle.sw_daemon.proofs.listed.places_of_part.Goals as goal

pub returns-clause-those : goal.returns-clause-those
returns-clause-those c =
    kept_first (is_of_part c.args.power c.args.part) c.args.places.now most_places c.min-count.result c.loop-place.place-index c.loop-place.those.items c.min-count.ensures c.loop-place-test.false c.loop-place.invariant

pub returns-clause-right : goal.returns-clause-right
returns-clause-right c =
    subst (All (IsOfHash c.args.power)) (sym c.loop-place.invariant)
    (All-weaker (λ (place : PlaceModel). is_of_part c.args.power c.args.part place ≡ true) (IsOfHash c.args.power)
    (λ place is.
    let both = and_parts (place.part == c.args.part) (part_of place.hash c.args.power == c.args.part) is in
    let part_is = eqb-true place.part c.args.part both.0 in
    record { below = subst (λ part. part < 2 ^ c.args.power) (sym part_is) c.requires.part; part_is = part_is ∙ sym (eqb-true (part_of place.hash c.args.power) c.args.part both.1) }) _
    (filter_passes (is_of_part c.args.power c.args.part) (take c.loop-place.place-index (take c.min-count.result c.args.places.now))))
