-- How the events of a workload raise the stamp that is drawn next: one that draws a stamp by one at most, and no other one.
use Rattle.std.proofs.Common.{◌≡◌, ◌≤◌, ◌+◌, ℕ, Bool, true, false, List, [], ◌∷◌, Option, Some, None, refl, sym, ap, ap₂, subst, ◌∙◌, ⊎_elim, MatchBool, if◌then◌else◌, arith}
use Rattle.std.specs.Prelude.{⊤}
use Rattle.sw_message.specs.Transcript.{Step as Moment}
use Rattle.sw_message.specs.declared.reply.Reply.{Reply}
use Rattle.sw_law_scene.specs.Moves.{Handles, Restarts, next_stamp, stopped}
use Rattle.sw_law_scene.specs.Scene.{Answer, Message, Request, Scene, is_down, is_up}
use Rattle.sw_core.specs.Event as core
use Rattle.sw_core.specs.Event.{Comes, Happens, OnScene, Proceeds, Starts, TakesAnswer, idle, stamp_in}
use Rattle.sw_core.specs.World.{Operating, World, numbered}
use Rattle.sw_script.specs.declared.event.Event.{Event}
use Rattle.sw_script.specs.declared.event.Event.TheVariants as event
use Rattle.sw_script.specs.declared.event.Job.{Job}
use Rattle.sw_script.specs.declared.event.Job.TheVariants as job
use Rattle.sw_sim_world.specs.Doing.{draws, is_drawing}
use Rattle.sw_sim_world.specs.ScriptedWorld.{AreSteps, ScriptedWorld, Step, events_in}
use Rattle.sw_sim_world.specs.Unfolding.{RunsOut, Unfolds, job_of}

-- the clock and the last stamp are as they were
abbrev KeepsStamps : (world after : World) → Type 0
KeepsStamps world after = (after.clock ≡ world.clock) × (after.scene.last ≡ world.scene.last)

-- ---- basic events

module _ (world after : World) where
  idles : after ≡ idle world → KeepsStamps world after
  idles same = subst (KeepsStamps world) (sym same) (refl, refl)

  proceeds : (number : ℕ) (operation : Operating) (past : List Moment) → Proceeds world number operation past after → KeepsStamps world after
  proceeds number operation past goes = subst (KeepsStamps world) (sym goes.after_is) (refl, refl)

  told_by : (number : ℕ) (operation : Operating) (past : List Moment) (is_over : Bool) → MatchBool is_over (after ≡ idle world) (Proceeds world number operation past after) → KeepsStamps world after
  told_by number operation past true same = idles same
  told_by number operation past false goes = proceeds number operation past goes

  told : (found : Option Operating) (number ticket : ℕ) (answer : Option Reply) → TakesAnswer found number ticket answer world after → KeepsStamps world after
  told None number ticket answer same = idles same
  told (Some operation) number ticket answer goes = told_by number operation _ operation.is_over goes

  on_scene : (does : Scene → Type 0) → ((scene : Scene) → does scene → scene.last ≡ world.scene.last) → (may : Bool) → OnScene may does world after → KeepsStamps world after
  on_scene does keeps false same = idles same
  on_scene does keeps true (scene, done, same) = subst (KeepsStamps world) (sym same) (refl, keeps scene done)

  comes : (posted : Option Message) → Comes posted world after → KeepsStamps world after
  comes None same = idles same
  comes (Some (Request at operation sent)) done =
      on_scene (Handles world.scene operation sent) (λ scene handled. ap (λ (one : Scene). one.last) handled.after_is) (is_up world.scene sent.device) done
  comes (Some (Answer at operation sent reply)) goes = told (numbered world.operations operation) operation sent.ticket (Some reply) goes

  delivers : (message : ℕ) → Happens (core.Deliver message) world after → KeepsStamps world after
  delivers message done = comes (numbered world.scene.messages message) done

  gives_up : (number ticket : ℕ) → Happens (core.GiveUp number ticket) world after → KeepsStamps world after
  gives_up number ticket goes = told (numbered world.operations number) number ticket None goes

  stops : (device : ℕ) → Happens (core.Stop device) world after → KeepsStamps world after
  stops device done = on_scene (λ scene. scene ≡ stopped device world.scene) (λ scene same. ap (λ (one : Scene). one.last) same) (is_up world.scene device) done

  restarts : (device : ℕ) → Happens (core.Restart device) world after → KeepsStamps world after
  restarts device done = on_scene (Restarts world.scene device) (λ scene again. ap (λ (one : Scene). one.last) again.after_is) (is_down world.scene device) done

  -- so the next stamp is as it was
  pub same_stamp : KeepsStamps world after → stamp_in after ≡ stamp_in world
  same_stamp keeps = ap₂ next_stamp keeps.0 keeps.1

-- ---- starts

-- how many stamps it draws
abbrev pub count_of : Bool → ℕ
count_of is_drawing = if is_drawing then 1 else 0

not_below : (clock : ℕ) (last : Option ℕ) → clock ≤ next_stamp clock last
not_below clock None = omega arith
not_below clock (Some last) = omega arith

module _ (world after : World) where
  -- an operation that drew the next stamp goes on
  drew : (after.clock ≡ world.clock) × (after.scene.last ≡ Some (stamp_in world)) → stamp_in after ≤ stamp_in world + 1
  drew keeps = omega (arith, ap₂ next_stamp keeps.0 keeps.1, not_below world.clock world.scene.last)

  starts : (one : Job) → Starts (job_of one) world after → stamp_in after ≤ stamp_in world + count_of (draws one)
  starts (job.Put name object) (left, put, goes) = drew (proceeds _ after _ _ _ goes)
  starts (job.Delete name) (left, goes) = drew (proceeds _ after _ _ _ goes)
  starts (job.Get name) goes = omega (arith, same_stamp world after (proceeds _ after _ _ _ goes))
  starts (job.Head name) goes = omega (arith, same_stamp world after (proceeds _ after _ _ _ goes))
  starts (job.Recon device name) (member, goes) = omega (arith, same_stamp world after (proceeds _ after _ _ _ goes))

-- ---- events

-- what a workload is made of
abbrev pub IsWork : Event → Type 0
IsWork (event.Run one) = ⊤
IsWork (event.Stop device) = ⊤
IsWork (event.Restart device) = ⊤
IsWork other = ⊥

both_keep : (first second third : World) → KeepsStamps first second → KeepsStamps second third → KeepsStamps first third
both_keep first second third one other = (other.0 ∙ one.0, other.1 ∙ one.1)

runs_out : (number : ℕ) (before : ScriptedWorld) (tickets : List ℕ) (steps : List Step) (after : ScriptedWorld) → RunsOut number before tickets steps → AreSteps before steps after → KeepsStamps before.world after.world
runs_out number before [] [] after runs same = subst (λ (one : ScriptedWorld). KeepsStamps before.world one.world) (sym same) (refl, refl)
runs_out number before (ticket ∷ tickets) [] after runs same = absurd runs
runs_out number before (ticket ∷ tickets) (step ∷ steps) after (is, runs) (first, others) =
    both_keep before.world step.after.world after.world
    (gives_up before.world step.after.world number ticket (subst (λ (one : core.Event). Happens one before.world step.after.world) is first.happens))
    (runs_out number step.after tickets steps after runs others)
runs_out number before [] (step ∷ steps) after runs (first, others) =
    ⊎_elim
    (λ delivered. both_keep before.world step.after.world after.world
    (delivers before.world step.after.world delivered.0 (subst (λ (one : core.Event). Happens one before.world step.after.world) delivered.2 first.happens))
    (runs_out number step.after [] steps after delivered.3 others))
    (λ given_up. both_keep before.world step.after.world after.world
    (gives_up before.world step.after.world number given_up.1 (subst (λ (one : core.Event). Happens one before.world step.after.world) given_up.4 first.happens))
    (runs_out number step.after given_up.2 steps after given_up.5 others))
    runs

-- one basic event alone
the_one : (one : core.Event) (before : ScriptedWorld) (steps : List Step) (after : ScriptedWorld) → events_in steps ≡ one ∷ [] → AreSteps before steps after → Happens one before.world after.world
the_one one before [] after is are = absurd (cc is)
the_one one before (step ∷ []) after is (first, same) =
    subst (λ (world : ScriptedWorld). Happens one before.world world.world) (sym same) (subst (λ (this : core.Event). Happens this before.world step.after.world) (cc is) first.happens)
the_one one before (step ∷ other ∷ steps) after is are = absurd (cc is)

pub raises : (one : Event) (before : ScriptedWorld) (steps : List Step) (after : ScriptedWorld) → IsWork one → Unfolds one before steps after → AreSteps before steps after
    → stamp_in after.world ≤ stamp_in before.world + count_of (is_drawing one)
raises (event.Run one) before [] after work unfolds are = absurd unfolds
raises (event.Run one) before (step ∷ steps) after work (is, runs) (first, others) =
    let begins = starts before.world step.after.world one (subst (λ (this : core.Event). Happens this before.world step.after.world) is first.happens) in
    omega (arith, begins, same_stamp step.after.world after.world (runs_out _ step.after [] steps after runs others))
raises (event.Stop device) before steps after work unfolds are =
    omega (arith, same_stamp before.world after.world (stops before.world after.world device (the_one (core.Stop device) before steps after unfolds are)))
raises (event.Restart device) before steps after work unfolds are =
    omega (arith, same_stamp before.world after.world (restarts before.world after.world device (the_one (core.Restart device) before steps after unfolds are)))
raises other before steps after work unfolds are = absurd work
