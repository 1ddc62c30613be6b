-- What contracts see of a server, and what always holds of it.
use Rattle.sw_memdisk.specs.Memory.{MemDiskModel, seen_of}
use Rattle.sw_ring.specs.Cluster.{ClusterModel}
use Rattle.sw_objsrv.specs.Node.{IsNode, NodeModel}

pub record ServerModel : Type 0 where
  pub cluster : ClusterModel
  pub node : NodeModel MemDiskModel

-- its node is one of its cluster
abbrev pub IsServer : ServerModel → Type 0
IsServer server = IsNode server.cluster seen_of server.node
