-- A cluster by its fields.
use Rattle.std.specs.Prelude.{map, string_bytes}
use Rattle.sw_ring.specs.declared.cluster.Cluster.TheInside.{Inside}
use Rattle.sw_ring.specs.Cluster.{ClusterModel}

abbrev pub cluster_seen : Inside → ClusterModel
cluster_seen cluster = record {
  part_power = cluster.part_power;
  prefix = string_bytes cluster.prefix;
  suffix = string_bytes cluster.suffix;
  policy = cluster.policy;
  devices = cluster.devices.items;
  rows = map (λ row. row.items) cluster.rows.items;
}
