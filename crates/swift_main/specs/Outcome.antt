-- The statuses of the program with their last lines, and what `play` answers by its whole input.
use Rattle.std.specs.Prelude.{◌≡◌, ◌⊎◌, ℕ, nat_lt, Bool, true, false, codes, List, [], ◌∷◌, ◌++◌, length, Result, Ok, Err}
use Rattle.std.specs.Fmt.{decimal}
use Rattle.sw_ring.specs.Cluster.{ClusterModel, IsCluster, KeepsRules}
use Rattle.sw_ring.specs.Members.{RingMembers}
use Rattle.sw_ring.specs.Numbered.{ring_fault_number}
use Rattle.sw_ring.specs.declared.fault.RingFault.{RingFault}
use Rattle.sw_script.specs.Line.{line_fault_number, lines_of}
use Rattle.sw_play.specs.Play.{IsRun}
use Rattle.sw_sim_world.specs.ScriptedWorld.{empty_script}
use Rattle.sw_play.specs.declared.playing.PlayEnd.{PlayEnd}
use Rattle.sw_play.specs.declared.playing.PlayEnd.TheVariants as ended
use Rattle.swift_main.specs.declared.status.Status.{Status}
use Rattle.swift_main.specs.declared.status.Status.TheVariants.{Done, Usage, Ring, Line, NoMemory, ReadFault, WriteFault, ShelfFault, DoorFault, Spent, TooLong}
use Rattle.swift_main.specs.Input.{ring_in, script_in}

-- the exit status
abbrev pub status_code : Status → ℕ
status_code Done = 0
status_code Usage = 1
status_code (Ring fault) = 2
status_code (Line line fault) = 3
status_code NoMemory = 4
status_code ReadFault = 5
status_code WriteFault = 6
status_code ShelfFault = 7
status_code DoorFault = 8
status_code (Spent line) = 9
status_code TooLong = 10

-- the last line that is written with a status
abbrev pub last_line : Status → List ℕ
last_line Done = []
last_line Usage = codes "usage: play | serve PORT WORKERS | load N" ++ 10 ∷ []
last_line (Ring fault) = codes "ring: " ++ decimal (ring_fault_number fault) ++ 10 ∷ []
last_line (Line line fault) = codes "line " ++ decimal line ++ codes ": " ++ decimal (line_fault_number fault) ++ 10 ∷ []
last_line NoMemory = []
last_line ReadFault = []
last_line WriteFault = []
last_line ShelfFault = []
last_line DoorFault = []
last_line (Spent line) = codes "line " ++ decimal line ++ codes ": stamps spent" ++ 10 ∷ []
last_line TooLong = codes "input too long" ++ 10 ∷ []

-- the greatest number of bytes of the whole input
abbrev pub greatest_input : ℕ
greatest_input = 67108864

-- ---- how the program ends, and what it writes before the last line

-- how a script ended, by the program's status
abbrev pub EndsAs : Status → PlayEnd → Type 0
EndsAs Done end = end ≡ ended.Done
EndsAs (Line line fault) end = end ≡ ended.Line line fault
EndsAs (Spent line) end = end ≡ ended.Spent line
EndsAs NoMemory end = end ≡ ended.NoMemory
EndsAs other end = ⊥

-- of a script over a cluster, from an empty world on: the text of a run
abbrev pub ScriptGives : ClusterModel → List ℕ → Status → List ℕ → Type 0
ScriptGives cluster script status told = (end : PlayEnd) × EndsAs status end × IsRun (empty_script cluster) (lines_of script) end told

-- of a script behind a ring, or the rule that the ring breaks
abbrev pub RingGives : Result RingMembers RingFault → List ℕ → Status → List ℕ → Type 0
RingGives (Err fault) script status told = (status ≡ Ring fault) × (told ≡ [])
RingGives (Ok members) script status told = (cluster : ClusterModel) × IsCluster members cluster × KeepsRules cluster × ScriptGives cluster script status told

abbrev pub InputGives : Bool → List ℕ → Status → List ℕ → Type 0
InputGives true input status told = (status ≡ TooLong) × (told ≡ [])
InputGives false input status told = RingGives (ring_in input) (script_in input) status told

-- `play` gives this, by its whole input
abbrev pub PlayGives : List ℕ → Status → List ℕ → Type 0
PlayGives input status told = InputGives (nat_lt greatest_input (length input)) input status told

-- or memory was wanted before anything was told
abbrev pub PlayTells : List ℕ → Status → List ℕ → Type 0
PlayTells input status told = PlayGives input status told ⊎ ((status ≡ NoMemory) × (told ≡ []))

-- all that is written
abbrev pub text_of : Status → List ℕ → List ℕ
text_of status told = told ++ last_line status
