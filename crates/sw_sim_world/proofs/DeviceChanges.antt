-- Devices of a world change, and all else stays: the world of a script that the world of the program then stands for.
use Rattle.std.proofs.Common.{◌≡◌, ◌≢◌, ⊎_elim, ℕ, ◌==◌, not, List, length, refl, sym, ap, subst, ◌∙◌}
use Rattle.std.proofs.lemmas.Bool.{cases_eq, cond-false, cond-true, eq-eqb, ne_eqb}
use Rattle.sw_ring.specs.Ring.{is_among}
use Rattle.sw_message.specs.Message.{IsMember}
use Rattle.sw_message.specs.Step.{Folders}
use Rattle.sw_law_scene.specs.Disks.{Sure}
use Rattle.sw_law_scene.specs.Moves.{ticked}
use Rattle.sw_law_scene.specs.Scene.{DeviceState, Loss, with_device}
use Rattle.sw_core.specs.Event.{Event, Happens, with_scene}
use Rattle.sw_sim_nodes.specs.Nodes.{MemNode, devices_of}
use Rattle.sw_sim_exchange.specs.declared.letter.Letter.{Letter}
use Rattle.sw_sim_world.specs.ScriptedWorld.{ScriptedWorld}
use Rattle.sw_sim_world.specs.Standing.{IsDeviceOf, StandsFor, WorldModel}
use Rattle.sw_sim_world.proofs.Likeness.{AreClosed, IsLike, device-kept, led}
use Rattle.sw_sim_world.proofs.Posts.{IsPost}

-- a step on, with these devices and losses
abbrev pub moved : ScriptedWorld → (devices : ℕ → DeviceState) → List Loss → (delivered : List ℕ) → ScriptedWorld
moved before devices losses delivered = record {
  world = with_scene (ticked (record before.world.scene { devices = devices; losses = losses })) before.world;
  delivered = delivered;
}

-- with other nodes, of which these are down, and other letters
abbrev pub left_with : WorldModel → List MemNode → (down : List ℕ) → List Letter → WorldModel
left_with model nodes down letters = record model { nodes = nodes; down = down; letters = letters }

-- one device is so, and the others are as before
abbrev pub with_one : ScriptedWorld → (device : ℕ) → DeviceState → ℕ → DeviceState
with_one before device state = with_device device state before.world.scene.devices

-- The files of a device are those of its node, and it is up or down; the others have what they had.
pub record IsNow (model : WorldModel) (nodes : List MemNode) (down : List ℕ) (device : ℕ) (state : DeviceState) : Type 0 where
  pub folders : Folders
  pub sure : state.disk ≡ Sure folders
  pub same : (name : List ℕ) → folders name ≡ devices_of nodes device name
  pub is_up : state.is_up ≡ not (is_among down device)
  pub others : (other : ℕ) → other ≢ device → (name : List ℕ) → devices_of nodes other name ≡ devices_of model.nodes other name
  pub others_down : (other : ℕ) → other ≢ device → is_among down other ≡ is_among model.down other

module _ (model : WorldModel) (before : ScriptedWorld) (stands : StandsFor model before) (losses : List Loss) (delivered : List ℕ) (nodes : List MemNode) (down : List ℕ) (letters : List Letter) where
  -- where the devices are those of the nodes, the world stands for the one that the event led to
  pub moved-stands : (event : Event) (devices : ℕ → DeviceState) → Happens event before.world (moved before devices losses delivered).world
      → ((device : ℕ) → IsMember model.cluster device → IsDeviceOf (left_with model nodes down letters) (moved before devices losses delivered) device)
      → IsPost model.cluster letters model.first (length model.operations) before.world.scene.messages delivered → AreClosed before.world.scene.messages delivered before.world.operations
      → StandsFor (left_with model nodes down letters) (moved before devices losses delivered)
  moved-stands event devices happens each post closed = led model before stands event (left_with model nodes down letters) (moved before devices losses delivered) refl happens like closed
    where
      like : IsLike (left_with model nodes down letters) (moved before devices losses delivered)
      like = record {
        goes_on = stands.goes_on;
        cluster_is = stands.cluster_is;
        clock_is = stands.clock_is;
        last_is = stands.last_is;
        devices = each;
        post = post;
        operations = stands.operations;
        clusters = stands.clusters;
      }

  -- one device changed
  module _ (device : ℕ) (state : DeviceState) (now : IsNow model nodes down device state) where
    abbrev after : ScriptedWorld
    after = moved before (with_one before device state) losses delivered

    -- it is that of its node
    changed : IsDeviceOf (left_with model nodes down letters) after device
    changed =
        let found : with_one before device state device ≡ state = cond-true (device == device) state (before.world.scene.devices device) (eq-eqb device device refl) in
        record {
          folders = now.folders;
          sure = ap (λ (one : DeviceState). one.disk) found ∙ now.sure;
          same = now.same;
          is_up = ap (λ (one : DeviceState). one.is_up) found ∙ now.is_up;
        }

    -- and so is each other one
    kept : (other : ℕ) → other ≢ device → IsMember model.cluster other → IsDeviceOf (left_with model nodes down letters) after other
    kept other differs member =
        device-kept model (left_with model nodes down letters) before after other (cond-false (other == device) state (before.world.scene.devices other) (ne_eqb other device differs))
        (λ name. sym (now.others other differs name)) (sym (now.others_down other differs)) (stands.devices other member)

    -- so each is
    pub each-now : (other : ℕ) → IsMember model.cluster other → IsDeviceOf (left_with model nodes down letters) after other
    each-now other member = ⊎_elim (λ same. subst (IsDeviceOf (left_with model nodes down letters) after) (sym same) changed) (λ differs. kept other differs member) (cases_eq other device)

  -- none did
  pub none-now : ((other : ℕ) (name : List ℕ) → devices_of nodes other name ≡ devices_of model.nodes other name) → ((other : ℕ) → is_among down other ≡ is_among model.down other)
      → (other : ℕ) → IsMember model.cluster other → IsDeviceOf (left_with model nodes down letters) (moved before before.world.scene.devices losses delivered) other
  none-now files same_down other member =
      device-kept model (left_with model nodes down letters) before (moved before before.world.scene.devices losses delivered) other refl (λ name. sym (files other name)) (sym (same_down other)) (stands.devices other member)
