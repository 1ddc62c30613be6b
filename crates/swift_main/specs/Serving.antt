-- What `serve` does, by what a server of a cluster may do.
use Rattle.std.specs.Prelude.{◌≡◌, ◌⊎◌, ℕ, nat_lt, Bool, true, false, List, length, Result, Ok, Err}
use Rattle.std.specs.Io.KnownBytes.{Appends}
use Rattle.sw_ring.specs.Cluster.{ClusterModel, IsCluster, KeepsRules, ring_of}
use Rattle.sw_ring.specs.Members.{RingMembers}
use Rattle.sw_ring.specs.declared.fault.RingFault.{RingFault}
use Rattle.sw_server.specs.Sessions.{after_output}
use Rattle.sw_server.specs.declared.end.ServeEnd.{ServeEnd}
use Rattle.sw_server.specs.declared.end.ServeEnd.TheVariants as ended
use Rattle.swift_main.specs.Input.{ring_text}
use Rattle.swift_main.specs.Outcome.{greatest_input}
use Rattle.swift_main.specs.Reading.{Reads}
use Rattle.swift_main.specs.Seen.{SinkSeen, SourceSeen}
use Rattle.swift_main.specs.Writing.{Tells}
use Rattle.swift_main.specs.declared.status.Status.{Status}
use Rattle.swift_main.specs.declared.status.Status.TheVariants.{DoorFault, Done, NoMemory, Ring, ShelfFault, TooLong, WriteFault}

-- the status of a server's end
abbrev pub status_of_end : ServeEnd → Status
status_of_end (ended.Closed count) = Done
status_of_end ended.NoMemory = NoMemory
status_of_end ended.WriteFault = WriteFault
status_of_end ended.ShelfFault = ShelfFault
status_of_end ended.DoorFault = DoorFault

-- a server of this cluster does this, ends so, and writes this; and shelf and doors are as they were
module _ (serves : ClusterModel → ServeEnd → (told : List ℕ) → Type 0) (untouched : Type 0) (sink sink' : SinkSeen) where
  -- The cluster was served, and what its server wrote is all that was written.
  pub record IsServed (cluster : ClusterModel) (status : Status) : Type 0 where
    pub end : ServeEnd
    pub told : List ℕ
    pub did : serves cluster end told
    pub status_is : status ≡ status_of_end end
    pub text : Appends sink.written sink'.written told
    pub faults : sink'.faults ≡ after_output end sink.faults

  -- The cluster of the ring was served, or memory was wanted for it; or the rule that the ring breaks was told.
  abbrev pub RingServed : Result RingMembers RingFault → Status → Type 0
  RingServed (Err fault) status = untouched × Tells (Ring fault) sink sink' status
  RingServed (Ok members) status =
      (untouched × (status ≡ NoMemory) × (sink' ≡ sink))
      ⊎ ((cluster : ClusterModel) × IsCluster members cluster × KeepsRules cluster × IsServed cluster status)

  abbrev pub InputServed : (is_too_long : Bool) → List ℕ → Status → Type 0
  InputServed true input status = untouched × Tells TooLong sink sink' status
  InputServed false input status = RingServed (ring_of (ring_text input)) status

  -- The whole input is the text of a ring.
  abbrev pub Serves : (before after : SourceSeen) → Status → Type 0
  Serves before after status = Reads (untouched × (sink' ≡ sink)) (λ input status. InputServed (nat_lt greatest_input (length input)) input status) before after status
