-- The first handoff is a device of the cluster, and no primary.
use Rattle.std.proofs.Common.{◌≡◌, ◌<◌, ℕ, false, List, Some, length, sym, ap, subst, ◌∙◌, arith}
use Rattle.std.specs.List.{All, slice_get}
use Rattle.std.proofs.lemmas.List.Elements.{All-get_or}
use Rattle.std.proofs.lemmas.Option.{get_or_from_slice_get, slice_get_within}
use Rattle.sw_ring.specs.Cluster.{column_of, handoffs_of}
use Rattle.sw_ring.specs.Ring.{is_among}
use Rattle.sw_message.specs.Message.{IsMember}
use Rattle.sw_quorum.proofs.Places.{handoffs_apart, handoffs_known}
use Rattle.sw_recon.proofs.tests.begun.Goals as goal
use Rattle.sw_recon.proofs.tests.begun.Goals.{In-Some}

-- what holds of each handoff holds of it
first : (c : In-Some) (P : ℕ → Type 0) → All P (handoffs_of c.args.cluster.now c.in_ok-place.place.part) → P c.in-Some.device.now
first c P all =
    let these = handoffs_of c.args.cluster.now c.in_ok-place.place.part in
    let are : c.deref.result.now ≡ these = c.deref.ensures.value ∙ c.in_ok-handoffs.ensures ∙ ap (handoffs_of c.args.cluster.now) c.part.ensures in
    let at : slice_get these 0 ≡ Some c.in-Some.device.now = ap (λ (list : List ℕ). slice_get list 0) (sym are) ∙ sym c.in-Some.ensures.value in
    subst P (get_or_from_slice_get these 0 c.in-Some.device.now c.in-Some.device.now at) (All-get_or P these 0 c.in-Some.device.now (slice_get_within these 0 c.in-Some.device.now at) all)

pub begin-requires-clause-member : goal.begin-requires-clause-member
begin-requires-clause-member c = first (goal.at.begin-requires-clause-member c).In-Some (IsMember c.args.cluster.now) (handoffs_known c.args.cluster.now c.in_ok-place.place.part)

pub begin-requires-clause-handoff : goal.begin-requires-clause-handoff
begin-requires-clause-handoff c =
    first (goal.at.begin-requires-clause-handoff c).In-Some (λ id. is_among (column_of c.args.cluster.now c.in_ok-place.place.part) id ≡ false) (handoffs_apart c.args.cluster.now c.in_ok-place.place.part)
