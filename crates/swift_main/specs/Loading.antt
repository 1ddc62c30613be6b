-- What `load` does.
use Rattle.std.specs.Prelude.{◌≡◌, ◌⊎◌, ℕ, nat_lt, Bool, true, false, List, length, Result, Ok, Err}
use Rattle.sw_ring.specs.Cluster.{ClusterModel, IsCluster, KeepsRules, ids_of, ring_of}
use Rattle.sw_ring.specs.Members.{RingMembers}
use Rattle.sw_ring.specs.declared.fault.RingFault.{RingFault}
use Rattle.sw_lab.specs.Summary.{summary_text}
use Rattle.sw_lab.specs.Workload.{workload_of}
use Rattle.sw_lab.specs.declared.summary.Summary.{Summary}
use Rattle.sw_load.specs.Load.{HasRun}
use Rattle.swift_main.specs.Input.{ring_text}
use Rattle.swift_main.specs.Outcome.{greatest_input}
use Rattle.swift_main.specs.Reading.{Reads}
use Rattle.swift_main.specs.Seen.{SinkSeen, SourceSeen}
use Rattle.swift_main.specs.Writing.{Tells, Writes}
use Rattle.swift_main.specs.declared.status.Status.{Status}
use Rattle.swift_main.specs.declared.status.Status.TheVariants.{Done, NoMemory, Ring, TooLong}

-- This is the text of the summary of a run of the workload of so many steps over a cluster.
abbrev pub Summarizes : (steps : ℕ) → ClusterModel → (text : List ℕ) → Type 0
Summarizes steps cluster text = (summary : Summary) × HasRun cluster (workload_of (ids_of cluster) steps) summary × (text ≡ summary_text summary)

-- the same over the cluster of a ring that was read
abbrev pub SummarizesRing : (steps : ℕ) → Result RingMembers RingFault → (text : List ℕ) → Type 0
SummarizesRing steps (Err fault) text = ⊥
SummarizesRing steps (Ok members) text = (cluster : ClusterModel) × IsCluster members cluster × KeepsRules cluster × Summarizes steps cluster text

module _ (steps : ℕ) (sink sink' : SinkSeen) where
  -- The workload ran over the cluster of the ring, and its summary was written; or memory was wanted, and nothing was. Or the rule that the
  -- ring breaks was told.
  abbrev pub RingLoaded : Result RingMembers RingFault → Status → Type 0
  RingLoaded (Err fault) status = Tells (Ring fault) sink sink' status
  RingLoaded (Ok members) status =
      ((status ≡ NoMemory) × (sink' ≡ sink))
      ⊎ ((text : List ℕ) × SummarizesRing steps (Ok members) text × Writes Done text sink sink' status)

  abbrev pub InputLoaded : (is_too_long : Bool) → List ℕ → Status → Type 0
  InputLoaded true input status = Tells TooLong sink sink' status
  InputLoaded false input status = RingLoaded (ring_of (ring_text input)) status

  -- The whole input is the text of a ring.
  abbrev pub Loads : (before after : SourceSeen) → Status → Type 0
  Loads before after status = Reads (sink' ≡ sink) (λ input status. InputLoaded (nat_lt greatest_input (length input)) input status) before after status
