-- What the program does, by the command that its words ask for.
use Rattle.std.specs.Prelude.{◌≡◌, ℕ, List, Option, Some, None}
use Rattle.sw_command.specs.declared.command.Command.{Command}
use Rattle.sw_command.specs.declared.command.Command.TheVariants.{Load, Play, Serve}
use Rattle.sw_ring.specs.Cluster.{ClusterModel}
use Rattle.sw_server.specs.declared.end.ServeEnd.{ServeEnd}
use Rattle.swift_main.specs.Loading.{Loads}
use Rattle.swift_main.specs.Playing.{Plays}
use Rattle.swift_main.specs.Seen.{SinkSeen, SourceSeen}
use Rattle.swift_main.specs.Serving.{Serves}
use Rattle.swift_main.specs.Writing.{Tells}
use Rattle.swift_main.specs.declared.status.Status.{Status}
use Rattle.swift_main.specs.declared.status.Status.TheVariants.{Usage}

-- by what a server at a port of a cluster does, ends with and writes, and by what it means that shelf and doors are as they were
module _ (serves : (port : ℕ) → ClusterModel → ServeEnd → (told : List ℕ) → Type 0) (untouched : Type 0) (source source' : SourceSeen) (sink sink' : SinkSeen) where
  abbrev pub Does : Option Command → Status → Type 0
  Does None status = (source' ≡ source) × untouched × Tells Usage sink sink' status
  Does (Some Play) status = untouched × Plays source source' sink sink' status
  Does (Some (Serve port workers)) status = Serves (serves port) untouched sink sink' source source' status
  Does (Some (Load steps)) status = untouched × Loads steps sink sink' source source' status
