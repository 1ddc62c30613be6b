-- An input gives `play` one status and one text at most, unless memory is wanted.
use Rattle.std.proofs.Common.{◌≡◌, ◌≢◌, ℕ, nat_lt, length, Bool, true, false, List, [], Result, Ok, Err, sym, ap, subst, ◌∙◌}
use Rattle.sw_ring.specs.Cluster.{ClusterModel, IsCluster, KeepsRules}
use Rattle.sw_ring.specs.Members.{RingMembers}
use Rattle.sw_ring.specs.declared.fault.RingFault.{RingFault}
use Rattle.sw_script.specs.Line.{lines_of}
use Rattle.sw_sim_world.specs.ScriptedWorld.{empty_script}
use Rattle.sw_play.specs.Play.{IsRun}
use Rattle.sw_play.specs.declared.playing.PlayEnd.{PlayEnd}
use Rattle.sw_play.specs.declared.playing.PlayEnd.TheVariants as ended
use Rattle.swift_main.specs.Input.{ring_in, script_in}
use Rattle.swift_main.specs.Outcome.{EndsAs, InputGives, PlayGives, RingGives, ScriptGives, greatest_input}
use Rattle.swift_main.specs.declared.status.Status.{Status}
use Rattle.swift_main.specs.declared.status.Status.TheVariants.{Done, Usage, Ring, Line, NoMemory, ReadFault, WriteFault, ShelfFault, DoorFault, Spent, TooLong}

abbrev pub ClusterLaw : Type 0
ClusterLaw = (members : RingMembers) (one other : ClusterModel) → IsCluster members one → IsCluster members other → one ≡ other

abbrev pub TextLaw : Type 0
TextLaw = (cluster : ClusterModel) (lines : List (List ℕ)) (one other : PlayEnd) (text others : List ℕ) → KeepsRules cluster → IsRun (empty_script cluster) lines one text
    → IsRun (empty_script cluster) lines other others → one ≢ ended.NoMemory → other ≢ ended.NoMemory → (one ≡ other) × (text ≡ others)

-- what the program gives, but for want of memory
abbrev AreAlike : (Status → List ℕ → Type 0) → Type 0
AreAlike gives = (one other : Status) (told others : List ℕ) → gives one told → gives other others → one ≢ NoMemory → other ≢ NoMemory → (one ≡ other) × (told ≡ others)

-- one status and no text
alone : (status : Status) → AreAlike (λ given told. (given ≡ status) × (told ≡ []))
alone status one other told others is are _ _ = (is.0 ∙ sym are.0, is.1 ∙ sym are.1)

-- ---- a script

status_by : PlayEnd → Status
status_by ended.Done = Done
status_by (ended.Line line fault) = Line line fault
status_by (ended.Spent line) = Spent line
status_by ended.NoMemory = NoMemory

status_is : (status : Status) (end : PlayEnd) → EndsAs status end → status ≡ status_by end
unfolding status_by
status_is Done end is = sym (ap status_by is)
status_is (Line line fault) end is = sym (ap status_by is)
status_is (Spent line) end is = sym (ap status_by is)
status_is NoMemory end is = sym (ap status_by is)
status_is Usage end none = absurd none
status_is (Ring fault) end none = absurd none
status_is ReadFault end none = absurd none
status_is WriteFault end none = absurd none
status_is ShelfFault end none = absurd none
status_is DoorFault end none = absurd none
status_is TooLong end none = absurd none

wants_none : (status : Status) (end : PlayEnd) → EndsAs status end → status ≢ NoMemory → end ≢ ended.NoMemory
unfolding status_by
wants_none status end as_told some is = some (status_is status end as_told ∙ ap status_by is)

module _ (cluster_law : ClusterLaw) (text_law : TextLaw) where
  script_alike : (cluster : ClusterModel) → KeepsRules cluster → (script : List ℕ) → AreAlike (ScriptGives cluster script)
  script_alike cluster rules script one other told others (end, ends, run) (how, came, went) some any =
      let same = text_law cluster (lines_of script) end how told others rules run went (wants_none one end ends some) (wants_none other how came any) in
      (status_is one end ends ∙ ap status_by same.0 ∙ sym (status_is other how came), same.1)

  ring_alike : (ring : Result RingMembers RingFault) (script : List ℕ) → AreAlike (RingGives ring script)
  ring_alike (Err fault) script = alone (Ring fault)
  ring_alike (Ok members) script = λ one other told others gives given.
      let gives_other = subst (λ (of : ClusterModel). ScriptGives of script other others) (sym (cluster_law members gives.0 given.0 gives.1 given.1)) given.3 in
      script_alike gives.0 gives.2 script one other told others gives.3 gives_other

  input_alike : (too_long : Bool) (input : List ℕ) → AreAlike (InputGives too_long input)
  input_alike true input = alone TooLong
  input_alike false input = ring_alike (ring_in input) (script_in input)

  pub alike : (input : List ℕ) → AreAlike (PlayGives input)
  alike input = input_alike (nat_lt greatest_input (length input)) input
