-- What a policy that breaks no bound is like.
use Rattle.std.proofs.Common.{◌≡◌, ◌+◌, ◌*◌, ◌≤◌, ◌==◌, ◌||◌, false, nat_lt, None, arith}
use Rattle.std.proofs.lemmas.Bool.{ltb-false, or_parts}
use Rattle.std.proofs.lemmas.Bool.Decides.{nat_tests}
use Rattle.sw_words.proofs.Rules.{kept}
use Rattle.sw_types.specs.Policy.{PolicyModel, greatest_segment, greatest_total, policy_fault}
use Rattle.sw_types.specs.declared.policy.PolicyFault.TheVariants.{K, M, N, Q, C, Segment}

-- what codes need of it
pub record Bounds (p : PolicyModel) : Type 0 where
  pub some_data : 1 ≤ p.k
  pub some_parity : 1 ≤ p.m
  pub most_parity : p.m ≤ 3 * p.k
  pub total : p.k + p.m ≤ 32
  pub least_segment : p.k ≤ p.segment
  pub most_segment : p.segment ≤ greatest_segment

pub bounds : (p : PolicyModel) → policy_fault p ≡ None → Bounds p
bounds p h =
    let first = kept (p.k == 0) (K p.k) _ h in
    let parity = kept (p.m == 0 || nat_lt (3 * p.k) p.m) (M p.m) _ first.1 in
    let total = kept (nat_lt greatest_total (p.k + p.m)) (N (p.k + p.m)) _ parity.1 in
    let synced = kept (nat_lt p.q p.k || nat_lt (p.k + p.m) p.q) (Q p.q) _ total.1 in
    let commits = kept (p.c == 0 || nat_lt p.q p.c) (C p.c) _ synced.1 in
    let segment = kept (nat_lt p.segment p.k || nat_lt greatest_segment p.segment) (Segment p.segment) _ commits.1 in
    let parts = or_parts (p.m == 0) (nat_lt (3 * p.k) p.m) parity.0 in
    let size = or_parts (nat_lt p.segment p.k) (nat_lt greatest_segment p.segment) segment.0 in
    let none : (p.k == 0) ≡ false = first.0 in
    let few : (p.m == 0) ≡ false = parts.0 in
    record {
      some_data = grind (arith, nat_tests);
      some_parity = grind (arith, nat_tests);
      most_parity = ltb-false _ _ parts.1;
      total = ltb-false _ _ total.0;
      least_segment = ltb-false _ _ size.0;
      most_segment = ltb-false _ _ size.1;
    }
