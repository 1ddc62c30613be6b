-- The members of a ring's JSON object, by the value that the text reads as. Unknown members are ignored.
use Rattle.std.specs.Prelude.{ℕ, ◌+◌, ◌-◌, ◌^◌, if◌then◌else◌, nat_lt, min, codes, List, [], ◌∷◌, length, Option, Some, None, option_and_then, Result, Ok, Err}
use Rattle.std.specs.Option.{ok_or, option_map_or}
use Rattle.serde_json.specs.Data.{Data, Items, Members}
use Rattle.serde_json.specs.Data as json
use Rattle.serde_json.specs.Find.{get_member}
use Rattle.sw_types.specs.Policy.{PolicyModel}
use Rattle.sw_ring.specs.declared.device.Device.{Device}
use Rattle.sw_ring.specs.declared.fault.Member.{Member}
use Rattle.sw_ring.specs.declared.fault.Member.TheVariants as name
use Rattle.sw_ring.specs.declared.fault.RingFault.{RingFault}
use Rattle.sw_ring.specs.declared.fault.RingFault.TheVariants.{Field}

-- what the members say, whether or not they keep the rules
pub record RingMembers : Type 0 where
  pub part_power : ℕ
  pub prefix : List ℕ
  pub suffix : List ℕ
  pub policy : PolicyModel
  pub devices : List Device
  pub rows : List (List ℕ)

-- the bytes of a disk whose device names no capacity, and of a segment where the ring names none
abbrev pub usual_capacity : ℕ
usual_capacity = 1073741824

abbrev pub usual_segment : ℕ
usual_segment = 1048576

-- a whole number below a limit: digits alone, without a point, an exponent or a sign
abbrev pub whole_below : ℕ → Data → Option ℕ
whole_below limit (json.number (json.unsigned n)) = if nat_lt n limit then Some n else None
whole_below limit other = None

-- a text of at most 256 bytes
abbrev pub short_text : Data → Option (List ℕ)
short_text (json.string text) = if nat_lt 256 (length text) then None else Some text
short_text other = None

abbrev pub joined : {A : Type 0} → Option A → Option (List A) → Option (List A)
joined (Some first) (Some rest) = Some (first ∷ rest)
joined (Some first) None = None
joined None rest = None

-- a list whose elements are each read so
abbrev pub each_item : {A : Type 0} → (Data → Option A) → Items → Option (List A)
each_item read json.no_items = Some []
each_item read (json.item first rest) = joined (read first) (each_item read rest)

abbrev pub list_of : {A : Type 0} → (Data → Option A) → Data → Option (List A)
list_of read (json.array items) = each_item read items
list_of read other = None

-- a member that has to be there, and one that has a value where it isn't there
abbrev pub required : {A : Type 0} → (Data → Option A) → Option Data → Option A
required read found = option_and_then read found

abbrev pub optional : {A : Type 0} → A → (Data → Option A) → Option Data → Option A
optional default read found = option_map_or read found (Some default)

abbrev pub device_by : Option ℕ → Option ℕ → Option Device
device_by (Some id) (Some capacity) = Some (record { id = id; capacity = capacity })
device_by (Some id) None = None
device_by None capacity = None

-- an object with an id below 65,536 and a capacity below 2^63 bytes
abbrev pub device_of : Data → Option Device
device_of (json.object members) =
    device_by (required (whole_below 65536) (get_member (codes "id") members)) (optional usual_capacity (whole_below (2 ^ 63)) (get_member (codes "capacity") members))
device_of other = None

abbrev pub not_empty : Option (List Device) → Option (List Device)
not_empty None = None
not_empty (Some []) = None
not_empty (Some (first ∷ rest)) = Some (first ∷ rest)

infixl 10 ◌>>=◌
abbrev pub ◌>>=◌ : {A B : Type 0} → Result A RingFault → (A → Result B RingFault) → Result B RingFault
Ok value >>= next = next value
Err fault >>= next = Err fault

-- what a member gives, or the fault that names it
abbrev pub field : {A : Type 0} → Member → Option A → Result A RingFault
field member found = ok_or found (Field member)

-- the numbers of its policy
unfoldable pub policy_by : Members → Result PolicyModel RingFault
policy_by members = do
  k ← field name.K (required (whole_below (2 ^ 32)) (get_member (codes "k") members))
  m ← field name.M (required (whole_below (2 ^ 32)) (get_member (codes "m") members))
  q ← field name.Q (optional (min (k + 1) (2 ^ 32 - 1)) (whole_below (2 ^ 32)) (get_member (codes "q") members))
  c ← field name.C (optional q (whole_below (2 ^ 32)) (get_member (codes "c") members))
  segment ← field name.Segment (optional usual_segment (whole_below (2 ^ 32)) (get_member (codes "segment") members))
  Ok (record { k = k; m = m; q = q; c = c; segment = segment })

-- the members of an object, in their order
unfoldable pub members_by : Members → Result RingMembers RingFault
members_by members = do
  part_power ← field name.PartPower (required (whole_below (2 ^ 64)) (get_member (codes "part_power") members))
  prefix ← field name.HashPrefix (optional [] short_text (get_member (codes "hash_prefix") members))
  suffix ← field name.HashSuffix (optional [] short_text (get_member (codes "hash_suffix") members))
  policy ← policy_by members
  devices ← field name.Devices (not_empty (required (list_of device_of) (get_member (codes "devices") members)))
  rows ← field name.Rows (required (list_of (list_of (whole_below 65536))) (get_member (codes "rows") members))
  Ok (record {
    part_power = part_power;
    prefix = prefix;
    suffix = suffix;
    policy = policy;
    devices = devices;
    rows = rows;
  })

-- what a value says, if it is an object
abbrev pub members_of : Data → Result RingMembers RingFault
members_of (json.object members) = members_by members
members_of other = Err (Field name.Ring)
