-- What a get was told beside which nothing steps, on devices that are sure of their disks.
use Rattle.std.proofs.Common.{ℕ, ◌+◌, List, [], ◌∷◌, length, Some, None, refl, subst, ◌∙◌}
use Rattle.sw_types.specs.Name.{NameModel}
use Rattle.sw_ring.specs.Cluster.{ClusterModel}
use Rattle.sw_message.specs.Learnt.{AreKnown, Learnt}
use Rattle.sw_message.specs.Transcript.{IsRun, Step}
use Rattle.sw_get.specs.Causes.{IsBook}
use Rattle.sw_get.specs.Get as gets
use Rattle.sw_get.specs.declared.end.GetEnd.TheVariants.{Overtaken}
use Rattle.sw_get.specs.declared.round_end.KeptEvent.{KeptEvent}
use Rattle.sw_law_scene.specs.Scene.{Scene, known_to}
use Rattle.sw_core.specs.Event.{Job, Start}
use Rattle.sw_operation.specs.Operating.{IsGetOf}
use Rattle.sw_core.specs.Sound.{IsSoundWorld, Stands}
use Rattle.sw_core.specs.World.{Operating, World}
use Rattle.sw_core.proofs.Happening.{leads-sound, run-sound}
use Rattle.sw_core.proofs.Proceeding.{stands-known}
use Rattle.sw_law_steady.specs.Steady.{MissesAlike}
use Rattle.sw_law_alone.specs.Alone.{IsAlone, IsReading}
use Rattle.sw_law_alone.proofs.Beginning.{get_in, starts_lone}
use Rattle.sw_law_alone.proofs.Ends.{all_lead, alone_not_overtaken}
use Rattle.sw_law_alone.proofs.Events.{leads_lone}
use Rattle.sw_law_alone.proofs.Gets.{get_run}
use Rattle.sw_law_alone.proofs.Lone.{IsLone}
use Rattle.sw_law_complete.specs.Complete.{AreReady, RunsAlone}
use Rattle.sw_law_complete.proofs.GetLeads.{IsSettled, leads_settled, starts_settled}
use Rattle.sw_law_complete.proofs.GetReplies.{AreTrue}

-- A transcript of a get that is not overtaken, each of whose answers is a true reply.
pub record IsToldTruly (scene : Scene) (get : gets.Begun) (past : List Step) : Type 0 where
  pub valid : gets.IsBegun get
  pub run : IsRun (gets.IsNext get) past
  pub learnt : Learnt
  pub book : IsBook learnt.book
  pub known : AreKnown get.cluster learnt past
  pub truly : AreTrue scene (gets.place_of get) past
  pub not_overtaken : (events : List KeptEvent) → MissesAlike get past → gets.IsEnd get past (Overtaken events) → ⊥

-- ---- alone

module _ (cluster : ClusterModel) (old new : World) (name : NameModel) (job : Job) (operation : Operating) (runs : RunsAlone cluster old job new operation) (reads : IsReading name job) (ready : AreReady old.scene) where
  abbrev number : ℕ
  number = length old.operations + 1

  abbrev get : gets.Begun
  get = get_in old name

  -- the world before it is sound
  pub old_sound : IsSoundWorld cluster old
  old_sound = run-sound cluster runs.earlier old runs.run

  alone : IsAlone cluster new number
  alone = record {
    earlier = runs.earlier;
    old = old;
    run = runs.run;
    name = name;
    job = job;
    reads = reads;
    started = runs.started;
    starts = runs.starts;
    number_is = refl;
    own = runs.own;
    leads = runs.leads;
  }

  started_lone : IsLone number get runs.started
  started_lone = starts_lone cluster old old_sound name job reads runs.started runs.starts

  lone : IsLone number get new
  lone = leads_lone number get runs.started runs.own new started_lone runs.leads

  settled : IsSettled old ready old_sound.scene name number new
  settled = leads_settled old ready old_sound.scene name number runs.started runs.own new started_lone (starts_settled cluster old old_sound ready name job reads runs.started runs.starts) runs.delivers runs.leads

  new_sound : IsSoundWorld cluster new
  new_sound =
      let started = leads-sound cluster old (Start job ∷ []) runs.started old_sound (runs.started, runs.starts, refl) in
      leads-sound cluster runs.started runs.own new started (all_lead number runs.started runs.own new runs.leads)

  stands : Stands new.scene number operation
  stands = new_sound.operations number operation runs.there

  -- the operation is the get of the name, or a head
  pub is_get : IsGetOf operation.begun get
  is_get = lone.begun operation runs.there

  each_true : AreTrue old.scene (gets.place_of get) operation.past
  each_true sent None has = absurd (settled.told operation runs.there sent has)
  each_true sent (Some given) has = let made = stands.told sent given has in (given, refl, settled.answers made.0 sent given made.2)

  -- and was told truly
  pub told_truly : IsToldTruly old.scene get operation.past
  told_truly =
      let book = new_sound.scene.book in
      let is_run = get_run new.scene.cluster operation.past get operation.begun stands.cluster stands.valid stands.run is_get in
      record {
        valid = is_run.1;
        run = is_run.2;
        learnt = known_to new.scene;
        book = record { one = book.one; objects = λ booked has. (book.puts booked has).object_rules };
        known = subst (λ (one : ClusterModel). AreKnown one (known_to new.scene) operation.past) (stands.cluster ∙ settled.cluster) (stands-known new.scene new_sound.scene number operation stands);
        truly = each_true;
        not_overtaken = λ events alike end. alone_not_overtaken cluster new number operation get events alone runs.there is_get alike end;
      }
