-- A workload's run goes on, event by event.
use Rattle.std.proofs.Common.{◌≡◌, ◌<◌, ◌≤◌, ◌+◌, ◌^◌, ℕ, Bool, true, false, List, [], ◌∷◌, ◌++◌, All, MatchOption, Option, Some, None, if◌then◌else◌, refl, sym, ap, subst, ◌∙◌, append-nil, append_assoc, arith}
use Rattle.std.proofs.lemmas.List.Elements.{All-head, All-tail}
use Rattle.sw_ring.specs.Cluster.{ClusterModel, KeepsRules, ids_of}
use Rattle.sw_core.specs.Event.{stamp_in}
use Rattle.sw_core.specs.World.{first_clock}
use Rattle.sw_script.specs.declared.event.Event.{Event}
use Rattle.sw_script.specs.declared.event.Event.TheVariants as event
use Rattle.sw_script.specs.declared.event.Job.{Job}
use Rattle.sw_script.specs.declared.event.Job.TheVariants as job
use Rattle.sw_script.specs.declared.fault.LineFault.TheVariants.{NoDevice}
use Rattle.sw_sim_exchange.specs.declared.lines.EndLine.{EndLine}
use Rattle.sw_sim_world.specs.Doing.{DoesEvent, Done, IsSpent, event_fault, is_drawing, job_fault}
use Rattle.sw_sim_world.specs.Leading.{DoesIt, FaultsBy, MayBeDone}
use Rattle.sw_sim_world.specs.ScriptedWorld.{ScriptedWorld, empty_script}
use Rattle.sw_sim_world.specs.Standing.{StandsFor, WorldModel}
use Rattle.sw_sim_world.specs.declared.fault.StepFault.{StepFault}
use Rattle.sw_sim_world.specs.declared.fault.StepFault.TheVariants.{NoMemory, NoSuchDevice, NoSuchMessage, NoSuchOperation, StampsSpent}
use Rattle.sw_sim_world.specs.declared.told.Told.{Told}
use Rattle.sw_lab.proofs.Devices.{some_id}
use Rattle.sw_lab.specs.Summary.{empty_summary}
use Rattle.sw_lab.specs.Workload.{workload_of}
use Rattle.sw_lab.specs.declared.summary.Summary.{Summary}
use Rattle.sw_load.specs.Load.{DoesEach, HasRun, with_end, with_ends, with_story}
use Rattle.sw_load.proofs.Devices.{Names, draws_in, workload-draws, workload-names}
use Rattle.sw_load.proofs.Stamps.{IsWork, count_of, raises}

-- ---- one more

does-more : (before : ScriptedWorld) (events : List Event) (story : List Done) (after : ScriptedWorld) (one : Event) (done : Done) → DoesEach before events story after → done.event ≡ one → DoesEvent after done
    → DoesEach before (events ++ one ∷ []) (story ++ done ∷ []) done.after
does-more before [] [] after one done same is does = (is, subst (λ (world : ScriptedWorld). DoesEvent world done) same does, refl)
does-more before [] (first ∷ story) after one done each is does = absurd each
does-more before (other ∷ events) [] after one done each is does = absurd each
does-more before (other ∷ events) (first ∷ story) after one done (first_is, first_does, each) is does = (first_is, first_does, does-more first.after events story after one done each is does)

story-more : (story : List Done) (done : Done) (summary : Summary) → with_story (story ++ done ∷ []) summary ≡ with_ends done.told.ends (with_story story summary)
story-more [] done summary = refl
story-more (first ∷ story) done summary = story-more story done (with_ends first.told.ends summary)

pub ends-more : (ends : List EndLine) (line : EndLine) (summary : Summary) → with_ends (ends ++ line ∷ []) summary ≡ with_end line.end (with_ends ends summary)
ends-more [] line summary = refl
ends-more (first ∷ ends) line summary = ends-more ends line (with_end first.end summary)

-- ---- what may be done

device-fine : (cluster : ClusterModel) (device : ℕ) (is : Bool) → is ≡ true → (if is then None else Some NoDevice) ≡ None
device-fine cluster device true same = refl
device-fine cluster device false same = absurd (cc same)

job-fine : (before : ScriptedWorld) (one : Job) → Names (ids_of before.world.scene.cluster) (event.Run one) → job_fault before.world.scene.cluster one ≡ None
job-fine before (job.Recon device name) names = device-fine before.world.scene.cluster device _ names
job-fine before (job.Put name object) names = refl
job-fine before (job.Get name) names = refl
job-fine before (job.Head name) names = refl
job-fine before (job.Delete name) names = refl

-- an event that names devices of the cluster has no fault
fine : (before : ScriptedWorld) (one : Event) → Names (ids_of before.world.scene.cluster) one → event_fault before one ≡ None
fine before (event.Run one) names = job-fine before one names
fine before (event.Stop device) names = device-fine before.world.scene.cluster device _ names
fine before (event.Restart device) names = device-fine before.world.scene.cluster device _ names
fine before other names = absurd names

is_work : (ids : List ℕ) (one : Event) → Names ids one → IsWork one
is_work ids (event.Run one) names = tt
is_work ids (event.Stop device) names = tt
is_work ids (event.Restart device) names = tt
is_work ids other names = absurd names

-- so nothing but memory is wanted for it
pub only_memory : (one : Event) (before : ScriptedWorld) (fault : StepFault) (old new : WorldModel) → MayBeDone before one → FaultsBy one before fault old new → fault ≡ NoMemory
only_memory one before NoSuchMessage old new may by = absurd (cc (may.0, by.0))
only_memory one before NoSuchDevice old new may by = absurd (cc (may.0, by.0))
only_memory one before NoSuchOperation old new may by = absurd (cc (may.0, by.0))
only_memory one before StampsSpent old new may by = absurd (may.1 by.1)
only_memory one before NoMemory old new may by = refl

first_left : (found : Option Event) (one : Event) (old new : List Event) → MatchOption found ((old ≡ []) × (new ≡ [])) (λ first. old ≡ first ∷ new) → found ≡ Some one → old ≡ one ∷ new
first_left None one old new next is = absurd (cc is)
first_left (Some first) one old new next is = next ∙ ap (λ (this : Event). this ∷ new) (cc is)

-- ---- the run so far

-- Some of the workload was done, these events are left, and stamps enough for them.
pub record Progress (cluster : ClusterModel) (number : ℕ) (world : WorldModel) (left : List Event) (summary : Summary) : Type 0 where
  pub done : List Event
  pub all : workload_of (ids_of cluster) number ≡ done ++ left
  pub story : List Done
  pub after : ScriptedWorld
  pub does : DoesEach (empty_script cluster) done story after
  pub counted : summary ≡ with_story story empty_summary
  pub stands : StandsFor world after
  pub same_cluster : world.cluster ≡ cluster
  pub names : All (Names (ids_of cluster)) left
  pub stamps : stamp_in after.world + draws_in left ≤ first_clock + number

module _ (cluster : ClusterModel) (number : ℕ) where
  rules : (world : WorldModel) → world.cluster ≡ cluster → StandsFor world (empty_script cluster) → KeepsRules cluster
  rules world same_cluster stands = subst KeepsRules same_cluster stands.run.rules

  pub progress-none : (world : WorldModel) → world.cluster ≡ cluster → StandsFor world (empty_script cluster) → Progress cluster number world (workload_of (ids_of cluster) number) empty_summary
  progress-none world same_cluster stands = record {
    done = [];
    all = refl;
    story = [];
    after = empty_script cluster;
    does = refl;
    counted = refl;
    stands = stands;
    same_cluster = same_cluster;
    names = workload-names (ids_of cluster) (some_id cluster (rules world same_cluster stands)) number;
    stamps = omega (arith, workload-draws (ids_of cluster) (some_id cluster (rules world same_cluster stands)) number);
  }

  module _ (world : WorldModel) (one : Event) (rest : List Event) (summary : Summary) (progress : Progress cluster number world (one ∷ rest) summary) where
    its_cluster : progress.after.world.scene.cluster ≡ cluster
    its_cluster = progress.stands.cluster_is ∙ progress.same_cluster

    names : Names (ids_of progress.after.world.scene.cluster) one
    names = subst (λ (its : ClusterModel). Names (ids_of its) one) (sym its_cluster) (All-head (Names (ids_of cluster)) one rest progress.names)

    none_spent : number < 2 ^ 32 → (drawing : Bool) → is_drawing one ≡ drawing → IsSpent progress.after one → ⊥
    none_spent few true draws spent = omega (arith, progress.stamps, spent.1, ap count_of draws, few)
    none_spent few false draws spent = absurd (cc (spent.0, draws))

    -- the next event may be done
    pub may-go : number < 2 ^ 32 → MayBeDone progress.after one
    may-go few = (fine progress.after one names, none_spent few (is_drawing one) refl)

    -- and once it was, the rest is left
    pub progress-more : (told : Told) (now : WorldModel) → now.cluster ≡ world.cluster → DoesIt one progress.after told now → Progress cluster number now rest (with_ends told.ends summary)
    progress-more told now same did =
        let done : Done = record { event = one; steps = did.steps; told = told; after = did.after } in
        record {
          done = progress.done ++ one ∷ [];
          all = progress.all ∙ sym (append_assoc progress.done (one ∷ []) rest);
          story = progress.story ++ done ∷ [];
          after = did.after;
          does = does-more (empty_script cluster) progress.done progress.story progress.after one done progress.does refl did.does;
          counted = ap (with_ends told.ends) progress.counted ∙ sym (story-more progress.story done empty_summary);
          stands = did.stands;
          same_cluster = same ∙ progress.same_cluster;
          names = All-tail (Names (ids_of cluster)) one rest progress.names;
          stamps = omega (arith, progress.stamps, raises one progress.after did.steps did.after (is_work _ one names) did.does.unfolds did.does.steps);
        }

  -- the next event is the first of those that are left
  pub progress-next : (found : Option Event) (one : Event) (old new : List Event) (world : WorldModel) (summary : Summary) → MatchOption found ((old ≡ []) × (new ≡ [])) (λ first. old ≡ first ∷ new)
      → found ≡ Some one → Progress cluster number world old summary → Progress cluster number world (one ∷ new) summary
  progress-next found one old new world summary next is progress = subst (λ (left : List Event). Progress cluster number world left summary) (first_left found one old new next is) progress

  pub progress-all : (world : WorldModel) (summary : Summary) → Progress cluster number world [] summary → HasRun cluster (workload_of (ids_of cluster) number) summary
  progress-all world summary progress = record {
    story = progress.story;
    after = progress.after;
    does = subst (λ (events : List Event). DoesEach (empty_script cluster) events progress.story progress.after) (sym (progress.all ∙ append-nil progress.done)) progress.does;
    counted = progress.counted;
  }
