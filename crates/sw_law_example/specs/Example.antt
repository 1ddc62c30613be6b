-- The first message of the first put of a run.
use Rattle.std.specs.Prelude.{ℕ}
use Rattle.sw_types.specs.Name.{NameModel}
use Rattle.sw_types.specs.Object.{ObjectModel}
use Rattle.sw_archive.specs.Put.{put_archive}
use Rattle.sw_ring.specs.Cluster.{ClusterModel, place_of_name}
use Rattle.sw_message.specs.declared.message.Msg.TheVariants as message
use Rattle.sw_message.specs.declared.sent.Sent.{Sent}
use Rattle.sw_core.specs.World.{first_clock}

-- a device is to store the fragment of index 0
abbrev pub stores_first : ClusterModel → NameModel → ObjectModel → (device : ℕ) → Sent
stores_first cluster name object device = record {
  ticket = 0;
  device = device;
  msg = message.PutFrag (place_of_name cluster name) first_clock 0 (put_archive cluster.policy first_clock name object 0);
}
