-- The quorums of a policy that breaks no bound.
use Rattle.std.proofs.Common.{◌≡◌, ◌+◌, ◌≤◌, ◌*◌, ◌==◌, ◌||◌, false, nat_lt, None, arith}
use Rattle.std.proofs.lemmas.Bool.{ltb-false, or_parts}
use Rattle.std.proofs.lemmas.Bool.Decides.{nat_tests}
use Rattle.sw_words.proofs.Rules.{kept}
use Rattle.sw_types.specs.Policy.{PolicyModel, greatest_total, policy_fault}
use Rattle.sw_types.specs.declared.policy.PolicyFault.TheVariants.{K, M, N, Q, C}

pub record Quorums (p : PolicyModel) : Type 0 where
  pub synced : p.q ≤ p.k + p.m
  pub committed : p.c ≤ p.q
  pub some_commits : 1 ≤ p.c

pub quorums : (p : PolicyModel) → policy_fault p ≡ None → Quorums p
quorums p h =
    let first = kept (p.k == 0) (K p.k) _ h in
    let parity = kept (p.m == 0 || nat_lt (3 * p.k) p.m) (M p.m) _ first.1 in
    let total = kept (nat_lt greatest_total (p.k + p.m)) (N (p.k + p.m)) _ parity.1 in
    let synced = kept (nat_lt p.q p.k || nat_lt (p.k + p.m) p.q) (Q p.q) _ total.1 in
    let commits = kept (p.c == 0 || nat_lt p.q p.c) (C p.c) _ synced.1 in
    let bounds = or_parts (nat_lt p.q p.k) (nat_lt (p.k + p.m) p.q) synced.0 in
    let parts = or_parts (p.c == 0) (nat_lt p.q p.c) commits.0 in
    let some : (p.c == 0) ≡ false = parts.0 in
    record { synced = ltb-false _ _ bounds.1; committed = ltb-false _ _ parts.1; some_commits = grind (arith, nat_tests) }
