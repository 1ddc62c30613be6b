-- A device stops, restarts, or loses its disk: what that does to a world.
use Rattle.std.proofs.Common.{◌≡◌, ◌≢◌, ⊎_elim, ℕ, ◌==◌, Bool, true, false, not, ◌&&◌, ◌||◌, List, [], ◌∷◌, ◌++◌, None, Some, refl, sym, ap, ap₂, subst, ◌∙◌}
use Rattle.std.specs.Prelude.{if◌then◌else◌}
use Rattle.std.proofs.Math.Bool.{and-true, or-false}
use Rattle.std.proofs.Math.Path.{fun_ext}
use Rattle.std.proofs.lemmas.Bool.{and_right, cases_eq, eq-eqb, ne_eqb}
use Rattle.sw_ring.specs.Cluster.{ClusterModel, ids_of}
use Rattle.sw_ring.specs.Ring.{is_among}
use Rattle.sw_message.specs.Message.{IsMember}
use Rattle.sw_law_scene.specs.Devices.{no_folders}
use Rattle.sw_law_scene.specs.Disks.{Disk, IsMounted, IsSide, Sure}
use Rattle.sw_law_scene.specs.Moves.{Restarts as RestartsScene, lost, stopped, ticked}
use Rattle.sw_law_scene.specs.Scene.{DeviceState, Loss, Scene, disk_of, is_down, is_up, set_device}
use Rattle.sw_core.specs.Event as core
use Rattle.sw_core.specs.Event.{Happens, OnScene, idle}
use Rattle.sw_sim_nodes.specs.Nodes.{Loses, MemNode, NodesModel, Restarts, Stops, devices_of}
use Rattle.sw_sim_nodes.proofs.CrashedNodes.{is_down as is_among_down}
use Rattle.sw_script.specs.declared.event.Event.{Event}
use Rattle.sw_script.specs.declared.event.Event.TheVariants as event
use Rattle.sw_script.specs.declared.fault.LineFault.TheVariants.{NoDevice}
use Rattle.sw_sim_world.specs.declared.told.Told.{Told}
use Rattle.sw_sim_world.specs.Doing.{device_fault}
use Rattle.sw_sim_world.specs.Leading.{DoesIt}
use Rattle.sw_sim_world.specs.ScriptedWorld.{ScriptedWorld}
use Rattle.sw_sim_world.specs.Standing.{IsDeviceOf, StandsFor, WorldModel}
use Rattle.sw_sim_world.proofs.Deliveries.{with_nodes}
use Rattle.sw_sim_world.proofs.DeviceChanges.{IsNow, each-now, left_with, moved, moved-stands, none-now, with_one}
use Rattle.sw_sim_world.proofs.Likeness.{alike}
use Rattle.sw_sim_world.proofs.OneEvents.{one-event}

-- the device of a number that was found is one of the cluster
pub member-of : (model now : WorldModel) (device number : ℕ) → model ≡ now → (device ≡ number) × (is_among (ids_of now.cluster) number ≡ true) → IsMember model.cluster device
member-of model now device number same found = subst (λ (one : WorldModel). IsMember one.cluster device) (sym same) (subst (λ (one : ℕ). IsMember now.cluster one) (sym found.0) found.1)

-- ---- whether a device is up

module _ (model : WorldModel) (before : ScriptedWorld) (stands : StandsFor model before) (device : ℕ) (member : IsMember model.cluster device) where
  -- it is as the world of a script has it
  was : IsDeviceOf model before device
  was = stands.devices device member

  -- it is one of the cluster
  pub is_one : is_among (ids_of before.world.scene.cluster) device ≡ true
  is_one = subst (λ (cluster : ClusterModel). is_among (ids_of cluster) device ≡ true) (sym stands.cluster_is) member

  -- it is up where it is not among those that are down
  pub up_is : is_up before.world.scene device ≡ not (is_among model.down device)
  up_is = ap₂ (λ (a b : Bool). a && b) is_one was.is_up

  -- and down where it is
  pub down_is : is_down before.world.scene device ≡ is_among model.down device
  down_is = ap₂ (λ (a b : Bool). a && not b) is_one was.is_up ∙ twice (is_among model.down device)
    where
      twice : (b : Bool) → (true && not (not b)) ≡ b
      twice true = refl
      twice false = refl

  -- what is on its disk
  pub disk_is : disk_of before.world.scene device ≡ Sure (devices_of model.nodes device)
  disk_is = was.sure ∙ ap Sure (fun_ext (λ name. was.same name))

-- ---- events

module _ (all : NodesModel) (rest : WorldModel) (before : ScriptedWorld) (stands : StandsFor (with_nodes rest all) before) (device : ℕ) (member : IsMember all.cluster device) (told : Told) (none : told ≡ record { sent = []; ends = []; shown = [] }) (later : NodesModel) where
  abbrev model : WorldModel
  model = with_nodes rest all

  abbrev scene : Scene
  scene = before.world.scene

  -- a line may name it
  fine : device_fault scene.cluster device ≡ None
  fine = ap (λ (is_known : Bool). if is_known then None else Some NoDevice) (is_one model before stands device member)

  -- an event changed the device, or none
  module _ (nodes : List MemNode) (down : List ℕ) where
    by-one : (event : core.Event) (losses : List Loss) (state : DeviceState) → IsNow model nodes down device state → Happens event before.world (moved before (with_one before device state) losses before.delivered).world
        → StandsFor (left_with model nodes down rest.letters) (moved before (with_one before device state) losses before.delivered)
    by-one event losses state now happens =
        moved-stands model before stands losses before.delivered nodes down rest.letters event (with_one before device state) happens
        (each-now model before stands losses before.delivered nodes down rest.letters device state now) (alike model before stands).post stands.closed

    by-none : (event : core.Event) → ((other : ℕ) (name : List ℕ) → devices_of nodes other name ≡ devices_of all.nodes other name) → ((other : ℕ) → is_among down other ≡ is_among all.down other) → Happens event before.world (idle before.world)
        → StandsFor (left_with model nodes down rest.letters) (moved before scene.devices scene.losses before.delivered)
    by-none event files same_down happens =
        moved-stands model before stands scene.losses before.delivered nodes down rest.letters event scene.devices happens
        (none-now model before stands scene.losses before.delivered nodes down rest.letters files same_down) (alike model before stands).post stands.closed

  -- ---- a stop

  module _ (stops : Stops all device later) where
    -- it is down, and the others are as they were
    stopped_others : (other : ℕ) → other ≢ device → is_among later.down other ≡ is_among all.down other
    stopped_others other differs = stops.down other ∙ ap (λ (b : Bool). is_among all.down other || b) (ne_eqb other device differs) ∙ or-false (is_among all.down other)

    abbrev stopped_state : DeviceState
    stopped_state = record (scene.devices device) { is_up = false }

    stopped_now : IsNow model all.nodes later.down device stopped_state
    stopped_now =
        let is = stands.devices device member in
        record {
          folders = is.folders;
          sure = is.sure;
          same = is.same;
          is_up = sym (ap not (is_among_down all device later.down stops.down));
          others = λ other differs name. refl;
          others_down = stopped_others;
        }

    -- nothing happens where it was down already
    by_stop : (was_down : Bool) → is_among all.down device ≡ was_down → DoesIt (event.Stop device) before told (left_with model all.nodes later.down rest.letters)
    by_stop false up =
        let after = moved before (with_one before device stopped_state) scene.losses before.delivered in
        let happens : Happens (core.Stop device) before.world after.world =
        subst (λ (may : Bool). OnScene may (λ (one : Scene). one ≡ stopped device scene) before.world after.world) (sym (up_is model before stands device member ∙ ap not up)) (stopped device scene, refl, refl) in
        one-event (event.Stop device) before fine refl told (core.Stop device) after (left_with model all.nodes later.down rest.letters) (record { happens = happens; delivered = refl }) refl refl refl refl none
        (by-one all.nodes later.down (core.Stop device) scene.losses stopped_state stopped_now happens)
    by_stop true was_down =
        let after = moved before scene.devices scene.losses before.delivered in
        let happens : Happens (core.Stop device) before.world after.world =
        subst (λ (may : Bool). OnScene may (λ (one : Scene). one ≡ stopped device scene) before.world after.world) (sym (up_is model before stands device member ∙ ap not was_down)) refl in
        one-event (event.Stop device) before fine refl told (core.Stop device) after (left_with model all.nodes later.down rest.letters) (record { happens = happens; delivered = refl }) refl refl refl refl none
        (by-none all.nodes later.down (core.Stop device) (λ other name. refl)
        (λ other. ⊎_elim
        (λ same. subst (λ (one : ℕ). is_among later.down one ≡ is_among all.down one) (sym same) (is_among_down all device later.down stops.down ∙ sym was_down))
        (λ differs. stopped_others other differs)
        (cases_eq other device))
        happens)

    pub stops-does : DoesIt (event.Stop device) before told (with_nodes rest later)
    stops-does = subst (λ (nodes : NodesModel). DoesIt (event.Stop device) before told (with_nodes rest nodes)) (sym stops.after_is) (by_stop (is_among all.down device) refl)

  -- ---- a restart

  module _ (restarts : Restarts all device later) where
    -- its disk is mounted, it is up, and the others are as they were
    abbrev restarted_state : DeviceState
    restarted_state = record { disk = Sure (devices_of later.nodes device); is_up = true }

    restarted_others : (other : ℕ) → other ≢ device → is_among later.down other ≡ is_among all.down other
    restarted_others other differs = restarts.down other ∙ ap (λ (b : Bool). is_among all.down other && not b) (ne_eqb other device differs) ∙ and-true (is_among all.down other)

    is_up_now : is_among later.down device ≡ false
    is_up_now = restarts.down device ∙ and_right (is_among all.down device) (not (device == device)) (ap not (eq-eqb device device refl))

    restarted_now : IsNow model later.nodes later.down device restarted_state
    restarted_now = record {
      folders = devices_of later.nodes device;
      sure = refl;
      same = λ name. refl;
      is_up = sym (ap not is_up_now);
      others = restarts.others;
      others_down = restarted_others;
    }

    -- nothing happens where it was up already
    by_restart : (was_down : Bool) → is_among all.down device ≡ was_down → DoesIt (event.Restart device) before told (left_with model later.nodes later.down rest.letters)
    by_restart true was_down =
        let after = moved before (with_one before device restarted_state) scene.losses before.delivered in
        let restarts_scene : RestartsScene scene device (ticked (set_device device restarted_state scene)) = record {
          side = devices_of all.nodes device;
          is_side = subst (λ (disk : Disk). IsSide disk (devices_of all.nodes device)) (sym (disk_is model before stands device member)) refl;
          mounted = devices_of later.nodes device;
          is_mounted = subst (λ (cluster : ClusterModel). IsMounted cluster device (devices_of all.nodes device) (devices_of later.nodes device)) (sym stands.cluster_is) (restarts.mounted was_down);
          after_is = refl;
        } in
        let happens : Happens (core.Restart device) before.world after.world =
        subst (λ (may : Bool). OnScene may (RestartsScene scene device) before.world after.world) (sym (down_is model before stands device member ∙ was_down)) (ticked (set_device device restarted_state scene), restarts_scene, refl) in
        one-event (event.Restart device) before fine refl told (core.Restart device) after (left_with model later.nodes later.down rest.letters) (record { happens = happens; delivered = refl }) refl refl refl refl none
        (by-one later.nodes later.down (core.Restart device) scene.losses restarted_state restarted_now happens)
    by_restart false up =
        let after = moved before scene.devices scene.losses before.delivered in
        let happens : Happens (core.Restart device) before.world after.world =
        subst (λ (may : Bool). OnScene may (RestartsScene scene device) before.world after.world) (sym (down_is model before stands device member ∙ up)) refl in
        one-event (event.Restart device) before fine refl told (core.Restart device) after (left_with model later.nodes later.down rest.letters) (record { happens = happens; delivered = refl }) refl refl refl refl none
        (by-none later.nodes later.down (core.Restart device) (λ other name. ap (λ (nodes : List MemNode). devices_of nodes other name) (restarts.same up))
        (λ other. ⊎_elim
        (λ same. subst (λ (one : ℕ). is_among later.down one ≡ is_among all.down one) (sym same) (is_up_now ∙ sym up))
        (λ differs. restarted_others other differs)
        (cases_eq other device))
        happens)

    pub restarts-does : DoesIt (event.Restart device) before told (with_nodes rest later)
    restarts-does = subst (λ (nodes : NodesModel). DoesIt (event.Restart device) before told (with_nodes rest nodes)) (sym restarts.after_is) (by_restart (is_among all.down device) refl)

  -- ---- a loss

  module _ (loses : Loses all device later) where
    -- it has an empty disk, and is up or down as it was
    abbrev losses : List Loss
    losses = scene.losses ++ record { device = device; step = scene.now } ∷ []

    abbrev emptied_state : DeviceState
    emptied_state = record (scene.devices device) { disk = Sure no_folders }

    emptied_now : IsNow model later.nodes all.down device emptied_state
    emptied_now = record {
      folders = no_folders;
      sure = refl;
      same = λ name. sym (loses.empty name);
      is_up = (stands.devices device member).is_up;
      others = loses.others;
      others_down = λ other differs. refl;
    }

    pub loses-does : DoesIt (event.Lose device) before told (with_nodes rest later)
    loses-does =
        let after = moved before (with_one before device emptied_state) losses before.delivered in
        let happens : Happens (core.Lose device) before.world after.world =
        subst (λ (may : Bool). OnScene may (λ (one : Scene). one ≡ lost device scene) before.world after.world) (sym (is_one model before stands device member)) (lost device scene, refl, refl) in
        subst (λ (nodes : NodesModel). DoesIt (event.Lose device) before told (with_nodes rest nodes)) (sym loses.after_is)
        (one-event (event.Lose device) before fine refl told (core.Lose device) after (left_with model later.nodes all.down rest.letters) (record { happens = happens; delivered = refl }) refl refl refl refl none
        (by-one later.nodes all.down (core.Lose device) losses emptied_state emptied_now happens))
