-- The MD5 of each index is there.
use Rattle.std.proofs.Common.{◌≡◌, ◌+◌, ◌<◌, ◌∙◌, [], length, ap, arith}
use Rattle.std.proofs.lemmas.List.{get_or_read}
use Rattle.sw_types.specs.Policy.{PolicyModel}
use Rattle.sw_archive.proofs.Sealed.{length-put_seals, seal_at}
use Rattle.sw_archive.proofs.tests.made_with_seals.Goals as goal
use Rattle.sw_archive.proofs.tests.made_with_seals.Goals.{In_ok-md5s}

below : (c : In_ok-md5s) → c.args.index < c.in_ok-policy.policy.k + c.in_ok-policy.policy.m
below c = omega (arith, c.requires, ap (λ (policy : PolicyModel). policy.k) c.in_ok-policy.ensures.made, ap (λ (policy : PolicyModel). policy.m) c.in_ok-policy.ensures.made)

there : (c : In_ok-md5s) → c.args.index < length c.in_ok-md5s.md5s.items
there c = omega (arith, below c, ap length c.in_ok-md5s.ensures, length-put_seals c.in_ok-policy.policy c.in_ok-stamp.stamp c.in_ok-name.name c.in_ok-object.object)

pub index-md5-requires : goal.index-md5-requires
index-md5-requires c = omega (arith, there (goal.at.index-md5-requires c).In_ok-md5s, c.in_ok-md5s.md5s.ok.0)

pub make_sealed_archive-requires-clause-seal : goal.make_sealed_archive-requires-clause-seal
make_sealed_archive-requires-clause-seal c =
    let at = (goal.at.make_sealed_archive-requires-clause-seal c).In_ok-md5s in
    get_or_read c.in_ok-md5s.md5s.items _ _ (there at) c.index-md5.ensures []
    ∙ seal_at c.in_ok-policy.policy c.in_ok-stamp.stamp c.in_ok-name.name c.in_ok-object.object c.in_ok-md5s.md5s.items c.args.index c.in_ok-md5s.ensures (below at)
