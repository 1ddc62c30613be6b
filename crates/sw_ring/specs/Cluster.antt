-- A cluster: what a ring's text says, where it breaks no rule.
use Rattle.std.specs.Prelude.{◌≡◌, ◌≢◌, ℕ, ◌+◌, ◌^◌, ◌<◌, ◌≤◌, true, if◌then◌else◌, List, filter, length, not, None, Result, Ok, Err}
use Rattle.std.specs.List.{All, AllPairs}
use Rattle.std.specs.List.Sorted.{IsPermutation, IsStrictlyIncreasing}
use Rattle.std.specs.Option.{ok_or, option_map_or}
use Rattle.std.specs.Str.{is_utf8}
use Rattle.serde_json.specs.Read.{read as read_text}
use Rattle.sw_types.specs.Name.{NameModel, path_of}
use Rattle.sw_types.specs.Policy.{PolicyModel, policy_fault}
use Rattle.sw_hashpath.specs.Place.{PlaceModel, hash_of_path, place_of}
use Rattle.sw_ring.specs.declared.device.Device.{Device}
use Rattle.sw_ring.specs.declared.fault.RingFault.{RingFault}
use Rattle.sw_ring.specs.declared.fault.RingFault.TheVariants.{NotJson}
use Rattle.sw_ring.specs.Members.{◌>>=◌, RingMembers, members_of}
use Rattle.sw_ring.specs.Ring.{is_among, ring_fault}
use Rattle.sw_ring.specs.Rules.{column_at, device_ids, greatest_devices, greatest_part_power}

-- what the members of a text say
abbrev pub members_in : List ℕ → Result RingMembers RingFault
members_in text = ok_or (if is_utf8 text then read_text text else None) NotJson >>= members_of

-- what a text says, or the first rule that it breaks
abbrev pub ring_of : List ℕ → Result RingMembers RingFault
ring_of text = members_in text >>= (λ members. option_map_or Err (ring_fault members) (Ok members))

-- what contracts see of a cluster
pub record ClusterModel : Type 0 where
  pub part_power : ℕ
  pub prefix : List ℕ
  pub suffix : List ℕ
  pub policy : PolicyModel
  pub devices : List Device
  pub rows : List (List ℕ)

abbrev pub ids_of : ClusterModel → List ℕ
ids_of cluster = device_ids cluster.devices

-- what the members say, with the devices in ascending order of their ids
pub record IsCluster (members : RingMembers) (cluster : ClusterModel) : Type 0 where
  pub part_power : cluster.part_power ≡ members.part_power
  pub prefix : cluster.prefix ≡ members.prefix
  pub suffix : cluster.suffix ≡ members.suffix
  pub policy : cluster.policy ≡ members.policy
  pub rows : cluster.rows ≡ members.rows
  pub devices : IsPermutation members.devices cluster.devices
  pub ascending : IsStrictlyIncreasing (ids_of cluster)

-- the place of a path
abbrev pub place_of_path : ClusterModel → List ℕ → PlaceModel
place_of_path cluster path = place_of (hash_of_path path cluster.prefix cluster.suffix) cluster.part_power

-- the place of a name
abbrev pub place_of_name : ClusterModel → NameModel → PlaceModel
place_of_name cluster name = place_of_path cluster (path_of name)

-- the devices of a partition, by index
abbrev pub column_of : ClusterModel → ℕ → List ℕ
column_of cluster part = column_at part cluster.rows

-- the devices that are none of its primaries, ascending
abbrev pub handoffs_of : ClusterModel → ℕ → List ℕ
handoffs_of cluster part = filter (λ id. not (is_among (column_of cluster part) id)) (ids_of cluster)

-- What the rules give: the policy keeps its bounds, there are at most 64 devices, each once, and each partition has one of
-- them for each fragment, no two the same.
pub record KeepsRules (cluster : ClusterModel) : Type 0 where
  pub part_power : cluster.part_power ≤ greatest_part_power
  pub policy : policy_fault cluster.policy ≡ None
  pub few : length cluster.devices ≤ greatest_devices
  pub ascending : IsStrictlyIncreasing (ids_of cluster)
  pub rows : length cluster.rows ≡ cluster.policy.k + cluster.policy.m
  pub lengths : All (λ row. length row ≡ 2 ^ cluster.part_power) cluster.rows
  pub known : (part : ℕ) → part < 2 ^ cluster.part_power → All (λ id. is_among (ids_of cluster) id ≡ true) (column_of cluster part)
  pub apart : (part : ℕ) → part < 2 ^ cluster.part_power → AllPairs (λ one other. one ≢ other) (column_of cluster part)
