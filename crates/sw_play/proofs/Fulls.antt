-- The lines of a story that run an operation to its end end in full.
use Rattle.std.proofs.Common.{◌≡◌, ℕ, ◌+◌, ◌≤◌, Bool, true, Contains, List, length, Some, refl, sym, ap, subst, ◌∙◌, arith}
use Rattle.std.proofs.lemmas.Option.{same_Some}
use Rattle.sw_types.specs.Name.{NameModel}
use Rattle.sw_types.specs.Object.{ObjectModel}
use Rattle.sw_ring.specs.Cluster.{ClusterModel, place_of_name}
use Rattle.sw_message.specs.Message.{IsMember}
use Rattle.sw_message.specs.Transcript as transcript
use Rattle.sw_delete.specs.Causes.{ToldExisted}
use Rattle.sw_delete.specs.Delete as deletes
use Rattle.sw_delete.specs.declared.end.DeleteEnd.{DeleteEnd}
use Rattle.sw_delete.specs.declared.end.DeleteEnd.TheVariants.{Deleted}
use Rattle.sw_get.specs.Get as gets
use Rattle.sw_get.specs.declared.end.GetEnd.{GetEnd}
use Rattle.sw_get.specs.declared.end.GetEnd.TheVariants.{Overtaken}
use Rattle.sw_get.specs.declared.round_end.KeptEvent.{KeptEvent}
use Rattle.sw_put.specs.Put as puts
use Rattle.sw_put.specs.declared.end.PutEnd.{PutEnd}
use Rattle.sw_put.specs.declared.end.PutEnd.TheVariants.{Created}
use Rattle.sw_law_scene.specs.Scene.{is_up}
use Rattle.sw_core.specs.Event as core
use Rattle.sw_core.specs.Event.{IsRun, stamp_in}
use Rattle.sw_operation.specs.Operating.{Begun, Delete, IsGetOf, Put}
use Rattle.sw_core.specs.World.{Operating, World, numbered}
use Rattle.sw_core.proofs.Happening.{run-sound}
use Rattle.sw_operation.specs.Ends.{IsEndOf}
use Rattle.sw_law_alone.specs.Alone.{AGet, AHead, IsAlone}
use Rattle.sw_law_alone.specs.Alone as alone
use Rattle.sw_law_steady.specs.Steady.{kept_events}
use Rattle.sw_law_alone.proofs.Ends.{alone_kept, alone_not_overtaken}
use Rattle.sw_law_complete.specs.Complete.{AreReady, HasOwnPlace, HaveRoom, RunsAlone}
use Rattle.sw_law_complete.specs.Ends.{EndsByWhatIsThere}
use Rattle.sw_law_complete.proofs.DeleteEnds.{delete_deleted}
use Rattle.sw_law_complete.proofs.GetComplete.{get_complete}
use Rattle.sw_law_complete.proofs.PutEnds.{put_created}
use Rattle.sw_script.specs.declared.event.Event.{Event}
use Rattle.sw_script.specs.declared.event.Job.{Job}
use Rattle.sw_script.specs.declared.event.Job.TheVariants as job
use Rattle.sw_operation.specs.declared.end.OpEnd.{OpEnd}
use Rattle.sw_operation.specs.declared.end.OpEnd.TheVariants as end
use Rattle.sw_sim_world.specs.Doing.{Done}
use Rattle.sw_sim_world.specs.ScriptedWorld.{ScriptedWorld}
use Rattle.sw_sim_world.specs.Standing.{IsLetterOf}
use Rattle.sw_sim_world.specs.Unfolding.{Unfolds, job_of}
use Rattle.sw_sim_world.proofs.Slots.{zip-length}
use Rattle.sw_play.specs.Promised.{IsGetEnd}
use Rattle.sw_play.specs.Full.{AreUp, EndsInFull, IsReading, RunsJob, TellsLoneGet}
use Rattle.sw_play.proofs.GetEnds.{get_told, reads, told_get}
use Rattle.sw_play.proofs.Keeping.{get_end, told_end}
use Rattle.sw_play.proofs.OwnRuns.{AllUp}
use Rattle.sw_play.proofs.OwnStarts.{begun_by, next_number}
use Rattle.sw_play.proofs.RunLines.{RanAlone, begun_so, misses_alike, ran_alone}
use Rattle.sw_play.proofs.StoryLines.{AllStoodFor, StoodFor}

-- ---- a line that runs a job

module _ (before : ScriptedWorld) (done : Done) (line : StoodFor before done) (of : Job) (operation : Operating) (how : OpEnd) (runs : RunsJob before done of operation how) where
  abbrev cluster : ClusterModel
  cluster = before.world.scene.cluster

  run : IsRun cluster line.stood.events before.world
  run = subst (λ (one : ClusterModel). IsRun one line.stood.events before.world) (sym line.stood.cluster_is) line.stood.run

  within : (message : ℕ) → Contains before.delivered message → message ≤ length before.world.scene.messages
  within message has = omega (arith, line.stood.within message has, zip-length IsLetterOf line.earlier.letters before.world.scene.messages line.stood.letters)

  ran : RanAlone cluster before of done.after
  ran =
      ran_alone cluster before (run-sound cluster line.stood.events before.world run) within of done.steps done.after line.does.steps
      (subst (λ (event : Event). Unfolds event before done.steps done.after) runs.event_is line.does.unfolds)

  there : numbered done.after.world.operations (next_number before.world) ≡ Some operation
  there = subst (λ (number : ℕ). numbered done.after.world.operations number ≡ Some operation) runs.number_is runs.there

  begun_is : operation.begun ≡ begun_by before.world (job_of of)
  begun_is = begun_so cluster (next_number before.world) (begun_by before.world (job_of of)) (is_up before.world.scene) done.after ran.on_way operation there

  -- its end is the one that is told
  ended : IsEndOf (begun_by before.world (job_of of)) operation.past how
  ended = subst (λ (one : Begun). IsEndOf one operation.past how) begun_is (told_end before done operation how line.does (record { line = runs.line; told = runs.told; end_is = runs.end_is; there = runs.there }))

  -- ---- where all devices are ready

  module _ (ready : AreReady before.world.scene) where
    all_up : AllUp (next_number before.world) (is_up before.world.scene) done.after.world
    all_up at sent has =
        let same : line.later.cluster ≡ cluster = sym line.stands.cluster_is ∙ ran.on_way.sound.same_cluster in
        ready.up sent.device (subst (λ (one : ClusterModel). IsMember one sent.device) same (line.stands.requests at (next_number before.world) sent has).member)

    -- all its messages are delivered
    alone_then : RunsAlone cluster before.world (job_of of) done.after.world operation
    alone_then = record {
      earlier = line.stood.events;
      run = run;
      started = ran.started;
      starts = ran.starts;
      own = ran.own;
      leads = ran.leads;
      delivers = ran.delivers all_up;
      there = there;
      over = subst (λ (one : Operating). one.is_over ≡ true) (same_Some ran.over.0 operation (sym ran.over.1 ∙ there)) ran.over.2;
    }

  -- ---- where it is a get

  -- no get is overtaken
  overtaken : (events : List KeptEvent) → IsGetEnd how (Overtaken events) → ⊥
  overtaken events is =
      let number = next_number before.world in
      let begun = begun_by before.world (job_of of) in
      let (get, get_of, get_ended) = get_told begun operation.past how (Overtaken events) is ended in
      let (name, reading) = reads before.world (job_of of) get get_of in
      let alone : IsAlone cluster done.after.world number = record {
        earlier = line.stood.events;
        old = before.world;
        run = run;
        name = name;
        job = job_of of;
        reads = reading;
        started = ran.started;
        starts = ran.starts;
        number_is = refl;
        own = ran.own;
        leads = ran.leads;
      } in
      alone_not_overtaken cluster done.after.world number operation get events alone there (subst (λ (one : Begun). IsGetOf one get) (sym begun_is) get_of)
      (misses_alike cluster number begun (is_up before.world.scene) done.after ran.on_way operation there get) get_ended

-- ---- a get beside which nothing steps

module _ (before : ScriptedWorld) (done : Done) (line : StoodFor before done) (operation : Operating) (how : OpEnd) (get : gets.Begun) (lone : TellsLoneGet before done operation how get) where
  kept : (turns : List gets.Turn) → gets.AreTurns get operation.past turns → length (kept_events get turns) ≤ 1
  kept turns are = alone_kept before.world.scene.cluster done.after.world lone.tells.line.operation operation get turns lone.alone lone.tells.there lone.begun_is are lone.alike

  lone_overtaken : (events : List KeptEvent) → IsGetEnd how (Overtaken events) → ⊥
  lone_overtaken events is =
      alone_not_overtaken before.world.scene.cluster done.after.world lone.tells.line.operation operation get events lone.alone lone.tells.there lone.begun_is lone.alike
      (get_end operation.begun operation.past get how (Overtaken events) lone.begun_is is (told_end before done operation how line.does lone.tells))

-- ---- a put and a delete

-- the end that is told is that of the put
put_how : (put : puts.Begun) (past : List transcript.Step) (how : OpEnd) (one : PutEnd) → IsEndOf (Put put) past how → puts.put_end put past ≡ Some one → how ≡ end.Put one
put_how put past (end.Put other) one ends is = ap end.Put (same_Some other one (sym ends ∙ is))
put_how put past (end.Get other) one none is = absurd none
put_how put past (end.Head other) one none is = absurd none
put_how put past (end.Delete other) one none is = absurd none
put_how put past (end.Sync other) one none is = absurd none
put_how put past (end.Revert other) one none is = absurd none

-- and so it is of a delete
delete_how : (delete : deletes.Begun) (past : List transcript.Step) (how : OpEnd) (one : DeleteEnd) → IsEndOf (Delete delete) past how → deletes.delete_end delete past ≡ Some one → how ≡ end.Delete one
delete_how delete past (end.Delete other) one ends is = ap end.Delete (same_Some other one (sym ends ∙ is))
delete_how delete past (end.Get other) one none is = absurd none
delete_how delete past (end.Head other) one none is = absurd none
delete_how delete past (end.Put other) one none is = absurd none
delete_how delete past (end.Sync other) one none is = absurd none
delete_how delete past (end.Revert other) one none is = absurd none

module _ (before : ScriptedWorld) (done : Done) (line : StoodFor before done) (name : NameModel) (operation : Operating) (how : OpEnd) (ready : AreReady before.world.scene) where
  -- how many devices store a name
  abbrev all : ℕ
  all = before.world.scene.cluster.policy.k + before.world.scene.cluster.policy.m

  -- a put is created with so many commits
  created : (object : ObjectModel) → RunsJob before done (job.Put name object) operation how → HaveRoom before.world.scene (stamp_in before.world) name object → how ≡ end.Put (Created (stamp_in before.world) all)
  created object runs room =
      let of = job.Put name object in
      let put : puts.Begun = record { cluster = before.world.scene.cluster; stamp = stamp_in before.world; name = name; object = object } in
      put_how put operation.past how (Created (stamp_in before.world) all) (ended before done line of operation how runs)
      (put_created before.world.scene.cluster before.world done.after.world name object operation (alone_then before done line of operation how runs ready) ready room put (begun_is before done line of operation how runs))

  -- a delete is done with so many marks
  deleted : RunsJob before done (job.Delete name) operation how
      → (existed : Bool) × (how ≡ end.Delete (Deleted (stamp_in before.world) all existed)) × (existed ≡ true → ToldExisted operation.past) × (ToldExisted operation.past → existed ≡ true)
  deleted runs =
      let of = job.Delete name in
      let delete : deletes.Begun = record { cluster = before.world.scene.cluster; stamp = stamp_in before.world; name = name } in
      let is = delete_deleted before.world.scene.cluster before.world done.after.world name operation (alone_then before done line of operation how runs ready) ready delete (begun_is before done line of operation how runs) in
      (is.0, delete_how delete operation.past how (Deleted (stamp_in before.world) all is.0) (ended before done line of operation how runs) is.1, is.2, is.3)

-- ---- a get

-- the get of a name in a world's cluster
abbrev get_in : World → NameModel → gets.Begun
get_in world name = record { cluster = world.scene.cluster; name = name }

module _ (before : ScriptedWorld) (done : Done) (line : StoodFor before done) (operation : Operating) (how : OpEnd) (ready : AreReady before.world.scene) where
  -- a job that reads a name ends by what devices have at its place
  reading_ends : (name : NameModel) (of : Job) → RunsJob before done of operation how → alone.IsReading name (job_of of) → IsGetOf (begun_by before.world (job_of of)) (get_in before.world name) → HasOwnPlace before.world.scene name
      → (ending : GetEnd) × IsGetEnd how ending × EndsByWhatIsThere before.world.scene (place_of_name before.world.scene.cluster name) ending
  reading_ends name of runs reading is own =
      let get = get_in before.world name in
      let (ending, told, is_end) = told_get (begun_by before.world (job_of of)) operation.past how get is (ended before done line of operation how runs) in
      let get_of = subst (λ (one : Begun). IsGetOf one get) (sym (begun_is before done line of operation how runs)) is in (
        ending,
        told,
        get_complete before.world.scene.cluster before.world done.after.world name (job_of of) operation get ending (alone_then before done line of operation how runs ready) reading ready own get_of is_end,
      )

  reads_by : (name : NameModel) (of : Job) → RunsJob before done of operation how → IsReading name of → HasOwnPlace before.world.scene name
      → (ending : GetEnd) × IsGetEnd how ending × EndsByWhatIsThere before.world.scene (place_of_name before.world.scene.cluster name) ending
  reads_by name (job.Get other) runs same own =
      reading_ends name (job.Get other) runs (subst (λ (one : NameModel). alone.IsReading name (core.Get one)) (sym same) (AGet name)) (ap (get_in before.world) same) own
  reads_by name (job.Head other) runs same own =
      reading_ends name (job.Head other) runs (subst (λ (one : NameModel). alone.IsReading name (core.Head one)) (sym same) (AHead name)) (ap (get_in before.world) same) own
  reads_by name (job.Put other object) runs none own = absurd none
  reads_by name (job.Delete other) runs none own = absurd none
  reads_by name (job.Recon device other) runs none own = absurd none

-- ---- a story

-- devices that are up are ready, for the disks of a world of the program are sure
ready_if : (before : ScriptedWorld) (done : Done) → StoodFor before done → AreUp before.world.scene → AreReady before.world.scene
ready_if before done line up = record {
  up = up;
  sure = λ device member. let is = line.stood.devices device (subst (λ (one : ClusterModel). IsMember one device) line.stood.cluster_is member) in (is.folders, is.sure);
}

module _ (first : ScriptedWorld) (story : List Done) (stood : AllStoodFor first story) where
  pub ends_in_full : EndsInFull first story
  ends_in_full = record {
    kept = λ before done operation how begun turns line lone are. kept before done (stood before done line) operation how begun lone turns are;
    lone = λ before done operation how begun events line lone is. lone_overtaken before done (stood before done line) operation how begun lone events is;
    not_overtaken = λ before done of operation how events line runs is. overtaken before done (stood before done line) of operation how runs events is;
    created = λ before done name object operation how line runs up room. created before done (stood before done line) name operation how (ready_if before done (stood before done line) up) object runs room;
    deleted = λ before done name operation how line runs up. deleted before done (stood before done line) name operation how (ready_if before done (stood before done line) up) runs;
    gets = λ before done name of operation how line runs reading up own. reads_by before done (stood before done line) operation how (ready_if before done (stood before done line) up) name of runs reading own;
  }
