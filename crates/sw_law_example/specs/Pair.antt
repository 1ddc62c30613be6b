-- A small cluster.
use Rattle.std.specs.Prelude.{[], ◌∷◌}
use Rattle.sw_ring.specs.Cluster.{ClusterModel}

-- each of two devices is the primary of one of two indices, of which one is enough to read; a fragment at both is enough to acknowledge
abbrev pub pair : ClusterModel
pair = record {
  part_power = 0;
  prefix = [];
  suffix = [];
  policy = record { k = 1; m = 1; q = 2; c = 2; segment = 1048576 };
  devices = record { id = 0; capacity = 1073741824 } ∷ record { id = 1; capacity = 1073741824 } ∷ [];
  rows = (0 ∷ []) ∷ (1 ∷ []) ∷ [];
}
