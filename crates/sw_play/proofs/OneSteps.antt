-- The basic events of a line and the worlds that they lead to are the same each time that it is done in one world.
use Rattle.std.proofs.Common.{◌≡◌, inl, inr, ℕ, ◌+◌, List, [], ◌∷◌, ◌++◌, map, reverse, refl, sym, ap, ap₂, subst, ◌∙◌}
use Rattle.std.specs.Prelude.{⊤}
use Rattle.std.proofs.lemmas.Bool.{cases_order, cond-true}
use Rattle.sw_ring.specs.Cluster.{ClusterModel, KeepsRules}
use Rattle.sw_message.specs.Transcript.{opens}
use Rattle.sw_message.specs.declared.sent.Sent.{Sent}
use Rattle.sw_law_scene.specs.Devices.{no_folders}
use Rattle.sw_law_scene.specs.Scene.{Message}
use Rattle.sw_core.specs.Event.{Crash, CrashMount, Deliver, Event, Fault, GiveUp, Happens, IsRun, Lose, Restart, SetClock, Start, Stop}
use Rattle.sw_core.specs.World.{World}
use Rattle.sw_core.proofs.Leads.{run-more}
use Rattle.sw_law_determined.specs.Cut.{IsCutWithin}
use Rattle.sw_law_determined.specs.Sure.{AreSure, IsDetermined, KeepsSure}
use Rattle.sw_script.specs.declared.event.Event as script
use Rattle.sw_script.specs.declared.event.Event.TheVariants as event
use Rattle.sw_script.specs.declared.event.Job.{Job}
use Rattle.sw_sim_world.specs.ScriptedWorld.{AreSteps, IsAny, IsLeast, IsOver, IsOwn, IsStep, NoneWaits, ScriptedWorld, Step, count_of, delivered_by, empty_script, events_in, open_tickets, tickets_in}
use Rattle.sw_sim_world.specs.Unfolding.{DeliversAll, IsCutAt, RunsOut, StartsAndRunsOut, Unfolds, job_of}

-- what the law of events says
pub record EventLaw : Type 0 where
  pub one : (cluster : ClusterModel) (events : List Event) (world one other : World) (event : Event) → IsRun cluster events world → AreSure world.scene → IsDetermined event → Happens event world one → Happens event world other
      → one ≡ other
  pub crash : (world one other : World) (message calls pick : ℕ) → AreSure world.scene → IsCutWithin world message calls pick one → IsCutWithin world message calls pick other → one ≡ other
  pub sure : (world after : World) (event : Event) → AreSure world.scene → KeepsSure event → Happens event world after → AreSure after.scene

-- a world of a script: events of a run led to it, and its disks are sure
pub record IsReached (cluster : ClusterModel) (scripted : ScriptedWorld) : Type 0 where
  pub events : List Event
  pub run : IsRun cluster events scripted.world
  pub sure : AreSure scripted.world.scene

-- steps are the same, and lead to one world of a script
abbrev pub AreOne : ClusterModel → (steps others : List Step) → (after later : ScriptedWorld) → Type 0
AreOne cluster steps others after later = (steps ≡ others) × (after ≡ later) × IsReached cluster after

pub empty_reached : (cluster : ClusterModel) → KeepsRules cluster → IsReached cluster (empty_script cluster)
empty_reached cluster rules = record { events = []; run = record { rules = rules; lead = refl }; sure = λ device. (no_folders, refl) }

keeps_sure : (event : Event) → IsDetermined event → KeepsSure event
keeps_sure (Fault message) none = none
keeps_sure (Crash message) none = tt
keeps_sure (CrashMount device) none = tt
keeps_sure event determined = tt

-- of the messages that wait one is the least
one_least : (Such : Message → Type 0) (scripted : ScriptedWorld) (one other : ℕ) → IsLeast Such scripted one → IsLeast Such scripted other → one ≡ other
one_least Such scripted one other x y = elim (cases_order one other) [
  | inl same ↦ same
  | inr (inl less) ↦ absurd (y.least one less x.waits)
  | inr (inr more) ↦ absurd (x.least other more y.waits)
]

-- an operation that is over, and none of whose messages waits, does not run on
not_on : (number : ℕ) (before : ScriptedWorld) (step : Step) (steps : List Step) → IsOver number before → NoneWaits (IsOwn number) before → RunsOut number before [] (step ∷ steps) → ⊥
not_on number before step steps over none (inl goes) = none goes.0 goes.1.waits
not_on number before step steps over none (inr gives) =
    let closed : open_tickets number before ≡ [] =
    ap tickets_in over.1 ∙ cond-true over.0.is_over [] (reverse (map (λ (sent : Sent). sent.ticket) (opens over.0.past))) over.2 in
    let never : [] ≡ gives.1 ∷ gives.2 = sym closed ∙ gives.3 in
    absurd (cc)

-- the only step of an event
only_step : (steps : List Step) (event : Event) → events_in steps ≡ event ∷ [] → (step : Step) × (steps ≡ step ∷ []) × (step.event ≡ event)
only_step [] event is = absurd (cc)
only_step (step ∷ []) event is = (step, refl, cc)
only_step (step ∷ second ∷ steps) event is = absurd (cc)

abbrev AreDetermined : List Event → Type 0
AreDetermined [] = ⊤
AreDetermined (event ∷ events) = IsDetermined event × AreDetermined events

give_ups : (number : ℕ) (tickets : List ℕ) → AreDetermined (map (GiveUp number) tickets)
give_ups number [] = tt
give_ups number (ticket ∷ tickets) = (tt, give_ups number tickets)

-- ---- one step, told twice

module _ (before : ScriptedWorld) (one other : Step) (is : IsStep before one) (also : IsStep before other) where
  same_step : one.event ≡ other.event → one.after.world ≡ other.after.world → one ≡ other
  same_step events worlds =
      let delivered : one.after.delivered ≡ other.after.delivered = is.delivered ∙ ap (λ (event : Event). delivered_by event before.delivered) events ∙ sym also.delivered in
      λ i. record { event = events i; after = record { world = worlds i; delivered = delivered i } }

module _ (law : EventLaw) (cluster : ClusterModel) where
  -- a step leads on to a world of a script
  reached-next : (before : ScriptedWorld) (step : Step) → IsReached cluster before → KeepsSure step.event → IsStep before step → IsReached cluster step.after
  reached-next before step reached kept is = record {
    events = reached.events ++ step.event ∷ [];
    run = run-more cluster reached.events before.world step.event step.after.world reached.run is.happens;
    sure = law.sure before.world step.after.world step.event reached.sure kept is.happens;
  }

  module _ (before : ScriptedWorld) (reached : IsReached cluster before) where
    no_steps : (after later : ScriptedWorld) → after ≡ before → later ≡ before → AreOne cluster [] [] after later
    no_steps after later x y = (refl, x ∙ sym y, subst (IsReached cluster) (sym x) reached)

    -- a step of one event, and then the same ones
    and_then : (one other : Step) → IsStep before one → IsStep before other → (event : Event) → IsDetermined event → one.event ≡ event → other.event ≡ event → (steps others : List Step) (after later : ScriptedWorld)
        → (Rest : ScriptedWorld → List Step → Type 0) → Rest other.after others → AreSteps other.after others later
        → (IsReached cluster one.after → Rest one.after others → AreSteps one.after others later → AreOne cluster steps others after later) → AreOne cluster (one ∷ steps) (other ∷ others) after later
    and_then one other is also event determined first second steps others after later Rest rest still goes_on =
        let worlds = law.one cluster reached.events before.world one.after.world other.after.world event reached.run reached.sure determined
        (subst (λ (this : Event). Happens this before.world one.after.world) first is.happens) (subst (λ (this : Event). Happens this before.world other.after.world) second also.happens) in
        let same = same_step before one other is also (first ∙ sym second) worlds in
        let on = goes_on (reached-next before one reached (subst KeepsSure (sym first) (keeps_sure event determined)) is)
        (subst (λ (step : Step). Rest step.after others) (sym same) rest) (subst (λ (step : Step). AreSteps step.after others later) (sym same) still) in
        (ap₂ (λ (step : Step) (more : List Step). step ∷ more) same on.0, on.1, on.2)

  -- ---- by a list of events

  by_events : (steps others : List Step) (before after later : ScriptedWorld) → IsReached cluster before → AreDetermined (events_in steps) → events_in others ≡ events_in steps → AreSteps before steps after → AreSteps before others later
      → AreOne cluster steps others after later
  by_events [] [] before after later reached determined same x y = no_steps before reached after later x y
  by_events [] (other ∷ others) before after later reached determined same x y = absurd (cc)
  by_events (one ∷ steps) [] before after later reached determined same x y = absurd (cc)
  by_events (one ∷ steps) (other ∷ others) before after later reached determined same x y =
      let second : other.event ≡ one.event = cc in
      let more : events_in others ≡ events_in steps = cc in
      and_then before reached one other x.0 y.0 one.event determined.0 refl second steps others after later (λ between these. events_in these ≡ events_in steps) more y.1
      (λ next rest still. by_events steps others one.after after later next determined.1 rest x.1 still)

  by_one : (event : Event) → IsDetermined event → (steps others : List Step) (before after later : ScriptedWorld) → IsReached cluster before → events_in steps ≡ event ∷ [] → AreSteps before steps after → events_in others ≡ event ∷ []
      → AreSteps before others later → AreOne cluster steps others after later
  by_one event determined steps others before after later reached x are y also = by_events steps others before after later reached (subst AreDetermined (sym x) (determined, tt)) (y ∙ sym x) are also

  -- ---- a crash

  module _ (message calls pick : ℕ) (before : ScriptedWorld) where
    cut_within : (step : Step) (after : ScriptedWorld) → step.event ≡ Crash message → after ≡ step.after → IsStep before step → IsCutAt before message calls pick after → IsCutWithin before.world message calls pick step.after.world
    cut_within step after event same is cut = record {
      happens = subst (λ (this : Event). Happens this before.world step.after.world) event is.happens;
      cut = (subst (λ (this : ScriptedWorld). IsCutAt before message calls pick this) same cut).cut;
    }

    by_crash : (steps others : List Step) (after later : ScriptedWorld) → IsReached cluster before → events_in steps ≡ Crash message ∷ [] → IsCutAt before message calls pick after → AreSteps before steps after
        → events_in others ≡ Crash message ∷ [] → IsCutAt before message calls pick later → AreSteps before others later → AreOne cluster steps others after later
    by_crash steps others after later reached x cut are y cut_too also =
        let one = only_step steps (Crash message) x in
        let other = only_step others (Crash message) y in
        let these : AreSteps before (one.0 ∷ []) after = subst (λ (list : List Step). AreSteps before list after) one.1 are in
        let those : AreSteps before (other.0 ∷ []) later = subst (λ (list : List Step). AreSteps before list later) other.1 also in
        let worlds = law.crash before.world one.0.after.world other.0.after.world message calls pick reached.sure (cut_within one.0 after one.2 these.1 these.0 cut) (cut_within other.0 later other.2 those.1 those.0 cut_too) in
        let same = same_step before one.0 other.0 these.0 those.0 (one.2 ∙ sym other.2) worlds in (
          one.1 ∙ ap (λ (step : Step). step ∷ []) same ∙ sym other.1,
          these.1 ∙ ap (λ (step : Step). step.after) same ∙ sym those.1,
          subst (IsReached cluster) (sym these.1) (reached-next before one.0 reached (subst KeepsSure (sym one.2) tt) these.0),
        )

  -- ---- the least that waits first

  all_once : (steps others : List Step) (before after later : ScriptedWorld) → IsReached cluster before → DeliversAll before steps → AreSteps before steps after → DeliversAll before others → AreSteps before others later
      → AreOne cluster steps others after later
  all_once [] [] before after later reached x are y also = no_steps before reached after later are also
  all_once [] (other ∷ others) before after later reached none are y also = absurd (none y.0 y.1.waits)
  all_once (one ∷ steps) [] before after later reached x are none also = absurd (none x.0 x.1.waits)
  all_once (one ∷ steps) (other ∷ others) before after later reached x are y also =
      let same = one_least IsAny before x.0 y.0 x.1 y.1 in
      and_then before reached one other are.0 also.0 (Deliver x.0) tt x.2 (y.2 ∙ ap Deliver (sym same)) steps others after later (λ between these. DeliversAll between these) y.3 also.1
      (λ next rest still. all_once steps others one.after after later next x.3 are.1 rest still)

  runs_once : (number : ℕ) (tickets : List ℕ) (steps others : List Step) (before after later : ScriptedWorld) → IsReached cluster before → RunsOut number before tickets steps → AreSteps before steps after
      → RunsOut number before tickets others → AreSteps before others later → AreOne cluster steps others after later
  runs_once number [] [] [] before after later reached x are y also = no_steps before reached after later are also
  runs_once number [] [] (other ∷ others) before after later reached x are y also = absurd (not_on number before other others x.0 x.1 y)
  runs_once number [] (one ∷ steps) [] before after later reached x are y also = absurd (not_on number before one steps y.0 y.1 x)
  runs_once number [] (one ∷ steps) (other ∷ others) before after later reached (inl x) are (inr y) also = absurd (y.0 x.0 x.1.waits)
  runs_once number [] (one ∷ steps) (other ∷ others) before after later reached (inr x) are (inl y) also = absurd (x.0 y.0 y.1.waits)
  runs_once number [] (one ∷ steps) (other ∷ others) before after later reached (inl x) are (inl y) also =
      let same = one_least (IsOwn number) before x.0 y.0 x.1 y.1 in
      and_then before reached one other are.0 also.0 (Deliver x.0) tt x.2 (y.2 ∙ ap Deliver (sym same)) steps others after later (λ between these. RunsOut number between [] these) y.3 also.1
      (λ next rest still. runs_once number [] steps others one.after after later next x.3 are.1 rest still)
  runs_once number [] (one ∷ steps) (other ∷ others) before after later reached (inr x) are (inr y) also =
      let open_in : x.1 ∷ x.2 ≡ y.1 ∷ y.2 = sym x.3 ∙ y.3 in
      let first : x.1 ≡ y.1 = cc in
      let rest : x.2 ≡ y.2 = cc in
      and_then before reached one other are.0 also.0 (GiveUp number x.1) tt x.4 (y.4 ∙ ap (GiveUp number) (sym first)) steps others after later (λ between these. RunsOut number between x.2 these)
      (subst (λ (tickets : List ℕ). RunsOut number other.after tickets others) (sym rest) y.5) also.1
      (λ next runs still. runs_once number x.2 steps others one.after after later next x.5 are.1 runs still)
  runs_once number (ticket ∷ tickets) [] others before after later reached x are y also = absurd x
  runs_once number (ticket ∷ tickets) (one ∷ steps) [] before after later reached x are y also = absurd y
  runs_once number (ticket ∷ tickets) (one ∷ steps) (other ∷ others) before after later reached x are y also =
      and_then before reached one other are.0 also.0 (GiveUp number ticket) tt x.0 y.0 steps others after later (λ between these. RunsOut number between tickets these) y.1 also.1
      (λ next runs still. runs_once number tickets steps others one.after after later next x.1 are.1 runs still)

  starts_and_runs_once : (job : Job) (steps others : List Step) (before after later : ScriptedWorld) → IsReached cluster before → StartsAndRunsOut job before steps → AreSteps before steps after → StartsAndRunsOut job before others
      → AreSteps before others later → AreOne cluster steps others after later
  starts_and_runs_once job [] others before after later reached x are y also = absurd x
  starts_and_runs_once job (one ∷ steps) [] before after later reached x are y also = absurd y
  starts_and_runs_once job (one ∷ steps) (other ∷ others) before after later reached x are y also =
      and_then before reached one other are.0 also.0 (Start (job_of job)) tt x.0 y.0 steps others after later (λ between these. RunsOut (count_of before + 1) between [] these) y.1 also.1
      (λ next runs still. runs_once (count_of before + 1) [] steps others one.after after later next x.1 are.1 runs still)

  -- ---- lines

  module _ (before : ScriptedWorld) (steps others : List Step) (after later : ScriptedWorld) (reached : IsReached cluster before) where
    by_none : steps ≡ [] → AreSteps before steps after → others ≡ [] → AreSteps before others later → AreOne cluster steps others after later
    by_none x are y also =
        let here : after ≡ before = subst (λ (list : List Step). AreSteps before list after) x are in
        let there : later ≡ before = subst (λ (list : List Step). AreSteps before list later) y also in
        (x ∙ sym y, here ∙ sym there, subst (IsReached cluster) (sym here) reached)

    pub unfolds_once : (line : script.Event) → Unfolds line before steps after → AreSteps before steps after → Unfolds line before others later → AreSteps before others later → AreOne cluster steps others after later
    unfolds_once (event.Run job) x are y also = starts_and_runs_once job steps others before after later reached x are y also
    unfolds_once (event.Start job) x are y also = by_one (Start (job_of job)) tt steps others before after later reached x are y also
    unfolds_once (event.Deliver message) x are y also = by_one (Deliver message) tt steps others before after later reached x are y also
    unfolds_once event.All x are y also = all_once steps others before after later reached x are y also
    unfolds_once (event.Crash message calls pick) x are y also = by_crash message calls pick before steps others after later reached x.0 x.1 are y.0 y.1 also
    unfolds_once (event.Stop device) x are y also = by_one (Stop device) tt steps others before after later reached x are y also
    unfolds_once (event.Restart device) x are y also = by_one (Restart device) tt steps others before after later reached x are y also
    unfolds_once (event.Lose device) x are y also = by_one (Lose device) tt steps others before after later reached x are y also
    unfolds_once (event.GiveUp number) x are y also = by_events steps others before after later reached (subst AreDetermined (sym x) (give_ups number (open_tickets number before))) (y ∙ sym x) are also
    unfolds_once (event.SetClock stamp) x are y also = by_one (SetClock stamp) tt steps others before after later reached x are y also
    unfolds_once (event.Show device name) x are y also = by_none x are y also
