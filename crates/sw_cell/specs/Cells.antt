-- What contracts see of the nodes of a cluster behind locks.
use Rattle.std.specs.Prelude.{◌≡◌, ◌⊎◌, ℕ, Some}
use Rattle.atomic_table.specs.Seated.{TableId}
use Rattle.sw_disk.specs.Runs.{Past, Seen}
use Rattle.sw_ring.specs.Cluster.{ClusterModel}
use Rattle.sw_objsrv.specs.Mounting.{Mounts}
use Rattle.sw_objsrv.specs.declared.fault.MountFault.{MountFault}
use Rattle.sw_objsrv.specs.declared.fault.MountFault.TheVariants.{NoMemory}

-- which cluster and which stamp table it is; what stands behind a lock no contract names but by the type of it
pub record CellsModel : Type 0 where
  pub table : TableId
  pub cluster : ClusterModel

-- A disk that was to take the place of another comes back: it could not be mounted, or it is as it was, as memory was wanted.
abbrev pub ComesBack : {D : Type 0} → (D → Seen) → (D → Past) → ClusterModel → (device : ℕ) → (given back : D) → MountFault → Type 0
ComesBack seen left_since cluster device given back fault =
    Mounts seen left_since cluster device (Some fault) given back ⊎ ((fault ≡ NoMemory) × (back ≡ given))
