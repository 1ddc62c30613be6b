use Rattle.std.proofs.Common.{None, ap, ◌∙◌}
use Rattle.sw_memdisk.specs.Memory.{MemDiskModel}
use Rattle.sw_sim_nodes.proofs.Capacities.{mounts_capacity}
use Rattle.sw_sim_nodes.proofs.Empty.{still_empty, still_settled}
use Rattle.sw_sim_nodes.proofs.nodes.empty_node.Goals as goal

pub returns-in-Ok-clause-capacity : goal.returns-in-Ok-clause-capacity
returns-in-Ok-clause-capacity c =
    mounts_capacity c.args.cluster.now c.args.device None c.new-disk.result c.in-Ok.node.disk c.in-Ok.ensures.mounted ∙ ap (λ (disk : MemDiskModel). disk.capacity) c.new-disk.ensures

pub returns-in-Ok-clause-empty : goal.returns-in-Ok-clause-empty
returns-in-Ok-clause-empty c =
    still_empty c.new-disk.result (ap (λ (disk : MemDiskModel). disk.folders) c.new-disk.ensures) c.args.cluster.now c.args.device c.in-Ok.node.disk c.in-Ok.ensures.mounted

pub returns-in-Ok-clause-settled : goal.returns-in-Ok-clause-settled
returns-in-Ok-clause-settled c =
    still_settled c.new-disk.result (ap (λ (disk : MemDiskModel). disk.folders) c.new-disk.ensures) c.args.cluster.now c.args.device c.in-Ok.node.disk c.in-Ok.ensures.mounted
