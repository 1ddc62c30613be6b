-- Answers that keep to what the input gives.
use Rattle.std.proofs.Common.{◌≡◌, ℕ, suc, ◌≤◌, ◌==◌, ◌&&◌, Bool, true, false, nat_lt, if◌then◌else◌, List, [], ◌∷◌, ◌++◌, length, inl, inr, refl, sym, ◌∙◌, ap, subst, arith, Ok, Err}
use Rattle.std.proofs.lemmas.Bool.Decides.{nat_tests}
use Rattle.sw_words.specs.Memory.{UnlessMemory}
use Rattle.sw_ring.specs.Cluster.{ClusterModel, IsCluster, KeepsRules, ring_of}
use Rattle.sw_ring.specs.Members.{RingMembers}
use Rattle.sw_ring.specs.declared.fault.RingFault.{RingFault}
use Rattle.sw_script.specs.Line.{lines_of}
use Rattle.sw_play.specs.Play.{IsRun, Played}
use Rattle.sw_sim_world.specs.ScriptedWorld.{ScriptedWorld, empty_script}
use Rattle.sw_sim_world.specs.Standing.{WorldModel}
use Rattle.sw_play.proofs.Stopped.{stopped}
use Rattle.sw_play.specs.declared.playing.PlayEnd.{PlayEnd}
use Rattle.sw_play.specs.declared.playing.PlayEnd.TheVariants as ended
use Rattle.swift_main.specs.Answer.{IsAnswer, IsAnswerBy, IsLastLine}
use Rattle.swift_main.specs.Input.{after_empty, before_empty, ring_text}
use Rattle.swift_main.specs.Outcome.{EndsAs, InputGives, PlayGives, RingGives, ScriptGives, greatest_input, last_line, text_of}
use Rattle.swift_main.specs.declared.playing.Answer.{Answer}
use Rattle.swift_main.specs.declared.status.Status.{Status}
use Rattle.swift_main.specs.declared.status.Status.TheVariants.{Done, Line, NoMemory, Ring, Spent}

-- what leads on to more leads an answer on likewise
answers_by : (one other : Status → List ℕ → Type 0) (answer : Answer) → ((status : Status) (told : List ℕ) → one status told → other status told) → IsAnswerBy one answer → IsAnswerBy other answer
answers_by one other answer given by = record {
  whole = λ goes. let was = by.whole goes in (was.0, given answer.status was.0 was.1, was.2);
  part = λ wants. elim (by.part wants) [ inl none ↦ inl none | inr some ↦ inr (given NoMemory answer.text some) ];
}

-- ---- a script over a fresh world

-- a run is one that want of memory ended there
stopped_run : (before : ScriptedWorld) (lines : List (List ℕ)) (end : PlayEnd) (text : List ℕ) → IsRun before lines end text → IsRun before lines ended.NoMemory text
stopped_run before lines end text run = record {
  story = run.story;
  after = run.after;
  plays = stopped before 1 lines run.story end run.after run.plays;
  text_is = run.text_is;
  found = run.found;
  promised = run.promised;
  full = run.full;
}

-- the status of the end of a script
abbrev pub status_of : PlayEnd → Status
status_of ended.Done = Done
status_of (ended.Line line fault) = Line line fault
status_of (ended.Spent line) = Spent line
status_of ended.NoMemory = NoMemory

ends_as : (end : PlayEnd) → EndsAs (status_of end) end
ends_as ended.Done = refl
ends_as (ended.Line line fault) = refl
ends_as (ended.Spent line) = refl
ends_as ended.NoMemory = refl

-- the answer of a script's end
pub script_answers : (cluster : ClusterModel) (script : List ℕ) (end : PlayEnd) (left : WorldModel) (old text : List ℕ) (answer : Answer) → old ≡ [] → Played (empty_script cluster) (lines_of script) end left old text
    → UnlessMemory NoMemory answer.status ((answer.status ≡ status_of end) × (answer.text ≡ text ++ last_line (status_of end))) → (answer.status ≡ NoMemory → answer.text ≡ text)
    → IsAnswerBy (ScriptGives cluster script) answer
script_answers cluster script end left old text answer empty played done none =
    let is : text ≡ played.told = played.text ∙ ap (λ before. before ++ played.told) empty in
    record {
      whole = λ goes.
          let parts = done goes in (
            played.told,
            subst (λ status. ScriptGives cluster script status played.told) (sym parts.0) (end, ends_as end, played.run),
            parts.1 ∙ ap (λ t. t ++ last_line (status_of end)) is ∙ ap (λ status. played.told ++ last_line status) (sym parts.0),
          );
      part = λ wants.
          inr (
            ended.NoMemory,
            refl,
            subst (λ t. IsRun (empty_script cluster) (lines_of script) ended.NoMemory t) (sym (none wants ∙ is)) (stopped_run (empty_script cluster) (lines_of script) end played.told played.run),
          );
    }

-- and behind the ring of its cluster
pub ring_answers : (ring script : List ℕ) (members : RingMembers) (cluster made : ClusterModel) (answer : Answer) → ring_of (ring_text ring) ≡ Ok members → IsCluster members cluster → KeepsRules cluster
    → made ≡ cluster → IsAnswerBy (ScriptGives made script) answer → IsAnswerBy (RingGives (ring_of (ring_text ring)) script) answer
ring_answers ring script members cluster made answer is cluster_is rules same by =
    let given : (status : Status) (told : List ℕ) → ScriptGives made script status told → RingGives (ring_of (ring_text ring)) script status told =
    λ status told gives. subst (λ result. RingGives result script status told) (sym is) (cluster, cluster_is, rules, subst (λ c. ScriptGives c script status told) same gives) in
    answers_by (ScriptGives made script) (RingGives (ring_of (ring_text ring)) script) answer given by

-- and where the ring breaks a rule
pub rule_answers : (ring script : List ℕ) (fault : RingFault) (answer : Answer) → ring_of (ring_text ring) ≡ Err fault → IsLastLine (Ring fault) answer → IsAnswerBy (RingGives (ring_of (ring_text ring)) script) answer
rule_answers ring script fault answer is last = record {
  whole = λ goes.
      let parts = last.whole goes in ([], subst (λ result. RingGives result script answer.status []) (sym is) (parts.0, refl), parts.1 ∙ ap (λ status. text_of status []) (sym parts.0));
  part = λ wants. inl (last.part wants);
}

-- ---- the parts of the input

-- the answer by the parts is that to the input
pub input_answers : (input ring script : List ℕ) (answer : Answer) → length input ≤ greatest_input → ring ≡ before_empty true input
    → script ≡ after_empty true input → IsAnswerBy (RingGives (ring_of (ring_text ring)) script) answer → IsAnswer input answer
input_answers input ring script answer short before after by =
    let test : nat_lt greatest_input (length input) ≡ false = grind (arith, nat_tests) in
    let given : (status : Status) (told : List ℕ) → RingGives (ring_of (ring_text ring)) script status told → PlayGives input status told =
    λ status told gives.
    let by_ring : RingGives (ring_of (ring_text (before_empty true input))) script status told = subst (λ r. RingGives (ring_of (ring_text r)) script status told) before gives in
    let by_parts : InputGives false input status told = subst (λ s. RingGives (ring_of (ring_text (before_empty true input))) s status told) after by_ring in
    subst (λ b. InputGives b input status told) (sym test) by_parts in
    let is = answers_by (RingGives (ring_of (ring_text ring)) script) (PlayGives input) answer given by in record { whole = is.whole; part = is.part }

-- the script is no longer than the input
pub script_within : (starts : Bool) (input : List ℕ) → length (after_empty starts input) ≤ length input
script_within starts [] = omega arith
script_within starts (byte ∷ bytes) =
    let later = script_within (byte == 10) bytes in
    elim (starts && (byte == 10)) as (λ empty. length (if empty then bytes else after_empty (byte == 10) bytes) ≤ suc (length bytes)) [ true ↦ omega arith | false ↦ omega arith ]
