-- A delete that has handed out nothing stands for the empty transcript.
use Rattle.std.proofs.Common.{[], refl, ap, ◌∙◌, arith}
use Rattle.std.proofs.lemmas.Option.{none-some}
use Rattle.sw_types.specs.Policy.{PolicyModel}
use Rattle.sw_hashpath.specs.Place.{PlaceModel}
use Rattle.sw_ring.specs.Cluster.{column_of, handoffs_of}
use Rattle.sw_delete.proofs.delete.DeleteOp.begin.Goals as goal

pub invariant_of-result : goal.invariant_of-result
invariant_of-result c =
    let part = ap (λ (place : PlaceModel). place.part) c.in_ok-place.ensures.place in (
      (
        record { cluster = c.args.cluster.now; stamp = c.args.stamp; name = c.args.name.now },
        [],
        record {
          valid = record { rules = c.part_power.ensures.rules };
          run = tt;
          enough_is = c.c.ensures ∙ ap (λ (policy : PolicyModel). policy.c) c.policy.ensures;
          place_is = c.in_ok-place.ensures.place;
          stamp_is = refl;
          primaries_are = c.in_ok-primaries.ensures ∙ ap (column_of c.args.cluster.now) (c.part.ensures ∙ part);
          handoffs_are = c.in_ok-handoffs.ensures ∙ ap (handoffs_of c.args.cluster.now) (c.part-2.ensures ∙ part);
          counts_are = c.in_ok-tally.ensures.empty;
          existed_is = refl;
          tickets_are = c.new-2.ensures;
          end_is = λ end is. absurd (none-some end is);
        },
      ),
      omega (arith, c.in_ok-tally.ensures.room, c.len.ensures, c.len-2.ensures, c.in_ok-primaries.primaries.ok, c.in_ok-handoffs.handoffs.ok),
    )
