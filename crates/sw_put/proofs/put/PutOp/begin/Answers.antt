-- A put that has handed out nothing stands for the empty transcript.
use Rattle.std.proofs.Common.{◌<◌, [], length, sym, ap, ◌∙◌, arith}
use Rattle.std.proofs.lemmas.Option.{none-some}
use Rattle.sw_types.specs.Policy.{PolicyModel}
use Rattle.sw_types.proofs.Policies.{bounds}
use Rattle.sw_hashpath.specs.Place.{PlaceModel}
use Rattle.sw_ring.specs.Cluster.{column_of, handoffs_of}
use Rattle.sw_ring.proofs.Roles.{column_length}
use Rattle.sw_put.specs.Put.{Begun, IsBegun, place_of}
use Rattle.sw_put.proofs.Dues.{length-stores_due, no_commits, stores_due_by}
use Rattle.sw_put.proofs.put.PutOp.begin.Goals as goal

-- there are fragments to be handed out
some_due : (begun : Begun) → IsBegun begun → 0 < length (stores_due_by begun [])
some_due begun valid = omega (arith, length-stores_due begun [], column_length begun.cluster (place_of begun).part valid.rules, (bounds begun.cluster.policy valid.rules.policy).some_data)

pub invariant_of-result : goal.invariant_of-result
invariant_of-result c =
    let begun : Begun = record { cluster = c.args.cluster.now; stamp = c.args.stamp; name = c.args.name.now; object = c.args.object.now } in
    let valid : IsBegun begun = record { rules = c.part_power.ensures.rules } in
    let part = ap (λ (place : PlaceModel). place.part) c.in_ok-place.ensures.place in (
      (
        begun,
        [],
        record {
          valid = valid;
          run = tt;
          enough_stored_is = c.q.ensures ∙ ap (λ (policy : PolicyModel). policy.q) c.policy-2.ensures;
          enough_committed_is = c.c.ensures ∙ ap (λ (policy : PolicyModel). policy.c) c.policy-3.ensures;
          place_is = c.in_ok-place.ensures.place;
          policy_is = c.in_ok-subject.ensures.policy ∙ c.policy.ensures;
          stamp_is = c.in_ok-subject.ensures.stamp;
          name_is = c.in_ok-subject.ensures.name;
          object_is = c.in_ok-subject.ensures.object;
          primaries_are = c.in_ok-primaries.ensures ∙ ap (column_of c.args.cluster.now) (c.part.ensures ∙ part);
          handoffs_are = c.in_ok-handoffs.ensures ∙ ap (handoffs_of c.args.cluster.now) (c.part-2.ensures ∙ part);
          stores_are = c.in_ok-stores.ensures.empty;
          commits_are = c.in_ok-commits.ensures.empty;
          commits_due_are = c.in_ok-commits_due.ensures.items ∙ sym (no_commits begun [] (some_due begun valid));
          tickets_are = c.new-3.ensures;
          end_is = λ end is. absurd (none-some end is);
        },
      ),
      omega (arith, c.in_ok-stores.ensures.room, c.len.ensures, c.len-2.ensures, c.in_ok-primaries.primaries.ok, c.in_ok-handoffs.handoffs.ok),
      omega (arith, c.in_ok-commits.ensures.room, c.len.ensures, c.len-2.ensures, c.in_ok-primaries.primaries.ok, c.in_ok-handoffs.handoffs.ok),
      omega (arith, c.in_ok-commits_due.ensures.capacity, c.len.ensures, c.len-2.ensures, c.in_ok-primaries.primaries.ok, c.in_ok-handoffs.handoffs.ok),
    )
