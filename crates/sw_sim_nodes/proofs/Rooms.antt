-- The room that a node's disk has: its capacity less the bytes of all files.
use Rattle.std.proofs.Common.{◌≡◌, ℕ, ◌-◌, false, Some, ap, ◌∙◌}
use Rattle.sw_disk.specs.State.{free_of}
use Rattle.sw_memdisk.specs.Memory.{seen_of, state_of}
use Rattle.sw_ring.specs.Cluster.{ClusterModel}
use Rattle.sw_objsrv.specs.Node.{IsNode}
use Rattle.sw_law_scene.specs.Devices.{IsFree}
use Rattle.sw_sim_nodes.specs.Nodes.{MemNode, files_at}

pub room_is : (cluster : ClusterModel) (node : MemNode) → IsNode cluster seen_of node → node.is_due ≡ false → (capacity : ℕ) → node.disk.capacity ≡ capacity → IsFree capacity (files_at (Some node)) (free_of (state_of node.disk))
room_is cluster node is_node mounted capacity same =
    let accounted = is_node.accounted mounted in
    record {
      names = accounted.names;
      distinct = accounted.distinct;
      others = accounted.others;
      room_is = ap (λ (n : ℕ). n - (state_of node.disk).used) same ∙ ap (λ (n : ℕ). capacity - n) accounted.used_is;
    }
