-- Memory was wanted before anything was read or written.
use Rattle.std.proofs.Common.{◌≡◌, ℕ, List, [], Option, Some, None, inl, inr, refl, arith}
use Rattle.std.proofs.KnownBytes.{Consumes-nil}
use Rattle.sw_command.specs.declared.command.Command.{Command}
use Rattle.sw_command.specs.declared.command.Command.TheVariants.{Load, Play, Serve}
use Rattle.sw_ring.specs.Cluster.{ClusterModel}
use Rattle.sw_server.specs.declared.end.ServeEnd.{ServeEnd}
use Rattle.swift_main.specs.Reading.{IsUnread}
use Rattle.swift_main.specs.Seen.{SinkSeen, SourceSeen}
use Rattle.swift_main.specs.Top.{Does}
use Rattle.swift_main.specs.declared.status.Status.TheVariants.{NoMemory}

unread : (source : SourceSeen) → IsUnread source source NoMemory
unread source = record { cause = inr (refl, refl); front = ([], Consumes-nil source.left, omega arith) }

-- whatever the words ask for
pub refused : (serves : (port : ℕ) → ClusterModel → ServeEnd → (told : List ℕ) → Type 0) (untouched : Type 0) (source : SourceSeen) (sink : SinkSeen) (command : Option Command) → untouched → Does serves untouched source source sink sink command NoMemory
refused serves untouched source sink None as_before = (refl, as_before, inr (refl, refl))
refused serves untouched source sink (Some Play) as_before = (as_before, inl (refl, unread source))
refused serves untouched source sink (Some (Serve port workers)) as_before = inl ((as_before, refl), unread source)
refused serves untouched source sink (Some (Load steps)) as_before = (as_before, inl (refl, unread source))
