-- What the readers of a ring's members give, and how its parts are seen.
use Rattle.std.specs.Prelude.{◌≡◌, map, MatchResult, Result, Ok, Err, string_bytes}
use Rattle.sw_types.specs.Policy.{PolicyModel}
use Rattle.sw_words.specs.Memory.{UnlessMemory}
use Rattle.sw_ring.specs.declared.fault.RingFault.{RingFault}
use Rattle.sw_ring.specs.declared.fault.RingFault.TheVariants.{NoMemory}
use Rattle.sw_ring.specs.declared.members.PolicyNumbers.{PolicyNumbers}
use Rattle.sw_ring.specs.declared.reading.Members.{Members}
use Rattle.sw_ring.specs.Members.{RingMembers}

-- a call's value, seen by view, or its fault is what reading gives, unless memory ran out
abbrev pub Gives : {X Y : Type 0} → (X → Y) → Result X RingFault → Result Y RingFault → Type 0
Gives view result read = MatchResult result (λ value. read ≡ Ok (view value)) (λ fault. UnlessMemory NoMemory fault (read ≡ Err fault))

abbrev pub policy_numbers : PolicyNumbers → PolicyModel
policy_numbers p = record { k = p.k; m = p.m; q = p.q; c = p.c; segment = p.segment }

abbrev pub members_seen : Members → RingMembers
members_seen members = record {
  part_power = members.part_power;
  prefix = string_bytes members.prefix;
  suffix = string_bytes members.suffix;
  policy = policy_numbers members.numbers;
  devices = members.devices.items;
  rows = map (λ row. row.items) members.rows.items;
}
