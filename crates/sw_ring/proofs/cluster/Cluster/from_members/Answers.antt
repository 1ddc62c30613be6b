use Rattle.std.proofs.Common.{◌≡◌, ℕ, eqb, refl, arith}
use Rattle.std.proofs.lemmas.Bool.Decides.{Decides-eqb, nat_tests}
use Rattle.std.proofs.lemmas.List.{with_items_is}
use Rattle.std.proofs.lemmas.List.Sorted.{IsPermutation-map}
use Rattle.std.proofs.lemmas.Map.Keys.{IsDistinct-IsPermutation, IsStrictlyIncreasing-from_distinct}
use Rattle.std.proofs.lemmas.Map.Made.{IsDistinct-from_AllPairs}
use Rattle.std.specs.Vec.{with_items}
use Rattle.sw_ring.specs.declared.device.Device.{Device}
use Rattle.sw_ring.specs.Reading.{members_seen}
use Rattle.sw_ring.proofs.Soundness.{rules_kept, sound}
use Rattle.sw_ring.proofs.cluster.Cluster.from_members.Goals as goal

flips : (x y : ℕ) → eqb x y ≡ eqb y x
flips x y = grind (arith, nat_tests)

pub overflow_cast-result : goal.overflow_cast-result
overflow_cast-result c =
    let kept = sound (members_seen c.args.members) c.requires.kept in
    omega (arith, kept.part_power)

pub returns : goal.returns
returns c =
    let kept = sound (members_seen c.args.members) c.requires.kept in
    let items : (with_items c.args.members.devices c.sort_by_id.new.devices).items ≡ c.sort_by_id.new.devices = with_items_is c.args.members.devices c.sort_by_id.new.devices (grind arith) in
    let moved = rw c.deref_mut.ensures.value at c.sort_by_id.ensures.permutation in
    let differ = IsDistinct-IsPermutation eqb flips _ _ (IsPermutation-map (λ (device : Device). device.id) _ _ moved) (IsDistinct-from_AllPairs Decides-eqb _ kept.once) in
    record {
      part_power = refl;
      prefix = refl;
      suffix = refl;
      policy = c.requires.policy;
      rows = refl;
      devices = rw items moved;
      ascending = rw items (IsStrictlyIncreasing-from_distinct _ c.sort_by_id.ensures.sorted differ);
    }

pub invariant_of-result : goal.invariant_of-result
invariant_of-result c = rules_kept (members_seen c.args.members) _ (sound (members_seen c.args.members) c.requires.kept) (returns c)
