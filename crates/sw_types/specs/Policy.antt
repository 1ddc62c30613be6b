-- Storage policies: the numbers of an erasure code and its quorums.
use Rattle.std.specs.Prelude.{ℕ, ◌+◌, ◌*◌, ◌==◌, ◌||◌, if◌then◌else◌, nat_lt, Option, Some, None}
use Rattle.sw_types.specs.declared.policy.PolicyFault.{PolicyFault}
use Rattle.sw_types.specs.declared.policy.PolicyFault.TheVariants.{K, M, N, Q, C, Segment}

-- the numbers of a policy
pub record PolicyModel : Type 0 where
  pub k : ℕ
  pub m : ℕ
  pub q : ℕ
  pub c : ℕ
  pub segment : ℕ

-- the greatest number of fragments, and of bytes of a segment
abbrev pub greatest_total : ℕ
greatest_total = 32

abbrev pub greatest_segment : ℕ
greatest_segment = 4194304

-- the first bound that is broken
abbrev pub policy_fault : PolicyModel → Option PolicyFault
policy_fault p =
    if p.k == 0 then Some (K p.k)
    else if p.m == 0 || nat_lt (3 * p.k) p.m then Some (M p.m)
    else if nat_lt greatest_total (p.k + p.m) then Some (N (p.k + p.m))
    else if nat_lt p.q p.k || nat_lt (p.k + p.m) p.q then Some (Q p.q)
    else if p.c == 0 || nat_lt p.q p.c then Some (C p.c)
    else if nat_lt p.segment p.k || nat_lt greatest_segment p.segment then Some (Segment p.segment)
    else None
