-- Messages: what they are about, and where they may go.
use Rattle.std.specs.Prelude.{◌≡◌, ℕ, Bool, true, Option, Some, None, ⊤}
use Rattle.sw_hashpath.specs.Place.{IsPlace, PlaceModel}
use Rattle.sw_ring.specs.Cluster.{ClusterModel, column_of, ids_of}
use Rattle.sw_ring.specs.Ring.{is_among}
use Rattle.sw_message.specs.declared.message.Msg.{Msg}
use Rattle.sw_message.specs.declared.message.Msg.TheVariants.{PutFrag, Commit, Delete, Ask, Fetch, Remove, Parts, Suffixes, Places}

-- the place that a message is about
abbrev pub place_in : Msg → Option PlaceModel
place_in (PutFrag place stamp index bytes) = Some place
place_in (Commit place stamp index) = Some place
place_in (Delete place stamp) = Some place
place_in (Ask place) = Some place
place_in (Fetch place stamp index) = Some place
place_in (Remove place stamp index) = Some place
place_in Parts = None
place_in (Suffixes part) = None
place_in (Places part) = None

-- the place is one of the cluster: its partition is that of its hash
abbrev pub IsPlaceOf : ClusterModel → Option PlaceModel → Type 0
IsPlaceOf cluster None = ⊤
IsPlaceOf cluster (Some place) = IsPlace cluster.part_power place

-- the device is one of the cluster
abbrev pub IsMember : ClusterModel → ℕ → Type 0
IsMember cluster device = is_among (ids_of cluster) device ≡ true

-- whether the device is a primary of the place; else it is a handoff
abbrev pub is_primary : ClusterModel → ℕ → PlaceModel → Bool
is_primary cluster device place = is_among (column_of cluster place.part) device

-- messages that ask the same, whatever bytes go with them
abbrev pub AreAlike : Msg → Msg → Type 0
AreAlike (PutFrag place stamp index bytes) (PutFrag other at of more) = (place ≡ other) × (stamp ≡ at) × (index ≡ of)
AreAlike one other = one ≡ other
