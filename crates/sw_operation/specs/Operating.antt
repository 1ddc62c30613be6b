-- Operations of each kind: what they are begun with, and their machines.
use Rattle.std.specs.Prelude.{◌≡◌, ℕ, Bool, true, false, List}
use Rattle.sw_types.specs.Name.{NameModel}
use Rattle.sw_ring.specs.Cluster.{ClusterModel, place_of_name}
use Rattle.sw_message.specs.Learnt.{Nothing, Own, OwnDelete, OwnPut}
use Rattle.sw_message.specs.Transcript.{Next, Step}
use Rattle.sw_delete.specs.Delete as deletes
use Rattle.sw_get.specs.Get as gets
use Rattle.sw_put.specs.Put as puts
use Rattle.sw_recon.specs.Revert as reverts
use Rattle.sw_sync.specs.Sync as syncs

-- What an operation was begun with. A head is a get of which only the object's head is told.
pub data Begun : Type 0 where
  Put : (begun : puts.Begun) → Begun
  Get : (begun : gets.Begun) → Begun
  Head : (begun : gets.Begun) → Begun
  Delete : (begun : deletes.Begun) → Begun
  Sync : (begun : syncs.Begun) → Begun
  Revert : (begun : reverts.Begun) → Begun

abbrev pub cluster_of : Begun → ClusterModel
cluster_of (Put begun) = begun.cluster
cluster_of (Get begun) = begun.cluster
cluster_of (Head begun) = begun.cluster
cluster_of (Delete begun) = begun.cluster
cluster_of (Sync begun) = begun.cluster
cluster_of (Revert begun) = begun.cluster

-- what it started itself
abbrev pub own_of : Begun → Own
own_of (Put begun) = OwnPut (record { stamp = begun.stamp; name = begun.name; object = begun.object })
own_of (Get begun) = Nothing
own_of (Head begun) = Nothing
own_of (Delete begun) = OwnDelete (record { stamp = begun.stamp; name = begun.name })
own_of (Sync begun) = Nothing
own_of (Revert begun) = Nothing

-- it may be begun so
abbrev pub IsBegun : Begun → Type 0
IsBegun (Put begun) = puts.IsBegun begun
IsBegun (Get begun) = gets.IsBegun begun
IsBegun (Head begun) = gets.IsBegun begun
IsBegun (Delete begun) = deletes.IsBegun begun
IsBegun (Sync begun) = syncs.IsBegun begun
IsBegun (Revert begun) = reverts.IsBegun begun

-- what comes after a transcript
abbrev pub IsNext : Begun → List Step → Next → Type 0
IsNext (Put begun) past next = puts.IsNext begun past next
IsNext (Get begun) past next = gets.IsNext begun past next
IsNext (Head begun) past next = gets.IsNext begun past next
IsNext (Delete begun) past next = deletes.IsNext begun past next
IsNext (Sync begun) past next = syncs.IsNext begun past next
IsNext (Revert begun) past next = reverts.IsNext begun past next

-- it is a get, or a head
abbrev pub IsGetOf : Begun → gets.Begun → Type 0
IsGetOf (Get begun) other = begun ≡ other
IsGetOf (Head begun) other = begun ≡ other
IsGetOf begun other = ⊥

-- the job of a device's reconstructor for a name: a sync where it is a primary of the name's place, and else a revert
abbrev pub recon_of : Bool → ClusterModel → (device : ℕ) → NameModel → Begun
recon_of true cluster device name = Sync (record { cluster = cluster; device = device; place = place_of_name cluster name })
recon_of false cluster device name = Revert (record { cluster = cluster; device = device; place = place_of_name cluster name })
