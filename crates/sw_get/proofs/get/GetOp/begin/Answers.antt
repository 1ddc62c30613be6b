-- A get that has handed out nothing stands for the empty transcript.
use Rattle.std.proofs.Common.{List, [], None, refl, ap, ◌∙◌}
use Rattle.sw_hashpath.specs.Place.{PlaceModel}
use Rattle.sw_ring.specs.Cluster.{column_of, handoffs_of}
use Rattle.sw_get.specs.Get.{Begun}
use Rattle.sw_get.specs.Round.{RoundModel}
use Rattle.sw_get.specs.declared.round_end.KeptEvent.{KeptEvent}
use Rattle.sw_get.proofs.Endings.{same_subject, stands_begun}
use Rattle.sw_get.proofs.get.GetOp.begin.Goals as goal

pub returns : goal.returns
returns c =
    let cluster = c.args.cluster.now in
    let begun : Begun = record { cluster = cluster; name = c.args.name.now } in
    let part = ap (λ (place : PlaceModel). place.part) c.in_ok-place.ensures.place in
    stands_begun _ begun (record { rules = c.part_power.ensures.rules })
    (same_subject _ begun c.policy.ensures c.in_ok-clone.ensures.cases c.in_ok-place.ensures.place (c.in_ok-handoffs.ensures ∙ ap (handoffs_of cluster) (c.part-2.ensures ∙ part))
    (c.in_ok-primaries.ensures ∙ ap (column_of cluster) (c.part.ensures ∙ part)))
    (ap (λ (events : List KeptEvent). record { target = None; from = None; events = events; facts = c.new-2.result.facts }) c.new.ensures.items
    ∙ ap (λ (round : RoundModel). record { target = None; from = None; events = []; facts = round.facts }) c.new-2.ensures)
    c.new-3.ensures.goes_with c.new-3.ensures.unread refl

pub invariant_of-result : goal.invariant_of-result
invariant_of-result c = (record { cluster = c.args.cluster.now; name = c.args.name.now }, [], returns c)
