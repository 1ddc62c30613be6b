-- What `load` writes: a ring gives it one text.
use Rattle.std.proofs.Common.{◌≡◌, ◌≤◌, ℕ, nat_lt, Bool, false, List, length, inr, Result, Ok, Err, sym, ap, subst, ◌∙◌, arith}
use Rattle.std.proofs.lemmas.Bool.Decides.{nat_tests}
use Rattle.sw_ring.specs.Cluster.{ClusterModel, KeepsRules, ids_of, ring_of}
use Rattle.sw_ring.specs.Members.{RingMembers}
use Rattle.sw_ring.specs.declared.fault.RingFault.{RingFault}
use Rattle.sw_script.specs.declared.event.Event.{Event}
use Rattle.sw_lab.specs.Summary.{summary_text}
use Rattle.sw_lab.specs.Workload.{workload_of}
use Rattle.sw_lab.specs.declared.summary.Summary.{Summary}
use Rattle.sw_load.specs.Load.{HasRun}
use Rattle.swift_main.specs.Input.{ring_text}
use Rattle.swift_main.specs.Loading.{InputLoaded, RingLoaded, SummarizesRing}
use Rattle.swift_main.specs.Outcome.{greatest_input}
use Rattle.swift_main.specs.Seen.{SinkSeen}
use Rattle.swift_main.specs.Writing.{Writes}
use Rattle.swift_main.specs.declared.status.Status.{Status}
use Rattle.swift_main.specs.declared.status.Status.TheVariants.{Done}
use Rattle.swift_main.proofs.Alike.{ClusterLaw}

abbrev pub SummaryLaw : Type 0
SummaryLaw = (cluster : ClusterModel) (events : List Event) (one other : Summary) → KeepsRules cluster → HasRun cluster events one → HasRun cluster events other → one ≡ other

module _ (clusters : ClusterLaw) (summaries : SummaryLaw) where
  pub one_text : (steps : ℕ) (ring : Result RingMembers RingFault) (text other : List ℕ) → SummarizesRing steps ring text → SummarizesRing steps ring other → text ≡ other
  one_text steps (Err fault) text other x y = absurd x
  one_text steps (Ok members) text other (cluster, is, rules, (summary, ran, text_is)) (another, also, keeps, (counted, went, other_is)) =
      let same : cluster ≡ another = clusters members cluster another is also in
      let one : summary ≡ counted =
      summaries cluster (workload_of (ids_of cluster) steps) summary counted rules ran (subst (λ (its : ClusterModel). HasRun its (workload_of (ids_of its) steps) counted) (sym same) went) in
      text_is ∙ ap summary_text one ∙ sym other_is

-- ---- a summary was written

module _ (steps : ℕ) (sink sink' : SinkSeen) (text : List ℕ) (status : Status) (writes : Writes Done text sink sink' status) where
  ring_loaded : (ring : Result RingMembers RingFault) → SummarizesRing steps ring text → RingLoaded steps sink sink' ring status
  ring_loaded (Err fault) sums = absurd sums
  ring_loaded (Ok members) sums = inr (text, sums, writes)

  pub input_loaded : (input : List ℕ) → length input ≤ greatest_input → SummarizesRing steps (ring_of (ring_text input)) text → InputLoaded steps sink sink' (nat_lt greatest_input (length input)) input status
  input_loaded input within sums =
      let short : nat_lt greatest_input (length input) ≡ false = grind (arith, nat_tests) in
      subst (λ (is_too_long : Bool). InputLoaded steps sink sink' is_too_long input status) (sym short) (ring_loaded (ring_of (ring_text input)) sums)
