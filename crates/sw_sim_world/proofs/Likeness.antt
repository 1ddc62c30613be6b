-- A world of the program that is like one of a script, and one that basic events led on.
use Rattle.std.proofs.Common.{◌≡◌, ℕ, suc, false, not, Contains, List, [], ◌∷◌, ◌++◌, length, slice_get, Some, sym, ap, subst, ◌∙◌}
use Rattle.std.specs.List.{AllZip}
use Rattle.sw_ring.specs.Cluster.{ClusterModel}
use Rattle.sw_ring.specs.Ring.{is_among}
use Rattle.sw_message.specs.Message.{IsMember}
use Rattle.sw_message.specs.declared.reply.Reply.{Reply}
use Rattle.sw_message.specs.declared.sent.Sent.{Sent}
use Rattle.sw_law_scene.specs.Scene.{Answer, DeviceState, Message}
use Rattle.sw_core.specs.Event.{Event, Happens, IsRun}
use Rattle.sw_operation.specs.Operating.{cluster_of}
use Rattle.sw_core.specs.World as worlds
use Rattle.sw_core.proofs.Leads.{run-more}
use Rattle.sw_sim_nodes.specs.Nodes.{devices_of}
use Rattle.sw_sim_exchange.specs.declared.lines.EndLine.{EndLine}
use Rattle.sw_sim_world.specs.Leading.{LeadsByOne}
use Rattle.sw_sim_world.specs.ScriptedWorld.{ScriptedWorld, delivered_by}
use Rattle.sw_sim_world.specs.Standing.{IsClosed, IsDeviceOf, IsKeptOf, StandsFor, WorldModel}
use Rattle.sw_sim_world.specs.Unfolding.{TellsEnd, ended_from}
use Rattle.sw_sim_world.proofs.Posts.{IsPost}

-- like it in all but the events that led to it, and the messages that its operations may yet be told
pub record IsLike (model : WorldModel) (scripted : ScriptedWorld) : Type 0 where
  pub goes_on : model.is_wanting ≡ false
  pub cluster_is : scripted.world.scene.cluster ≡ model.cluster
  pub clock_is : scripted.world.clock ≡ model.clock
  pub last_is : scripted.world.scene.last ≡ model.last
  pub devices : (device : ℕ) → IsMember model.cluster device → IsDeviceOf model scripted device
  pub post : IsPost model.cluster model.letters model.first (length model.operations) scripted.world.scene.messages scripted.delivered
  pub operations : AllZip IsKeptOf model.operations scripted.world.operations
  pub clusters : (number : ℕ) (operation : worlds.Operating) → worlds.numbered scripted.world.operations number ≡ Some operation → cluster_of operation.begun ≡ model.cluster

-- a reply that was delivered is told no more
abbrev pub AreClosed : List Message → (delivered : List ℕ) → List worlds.Operating → Type 0
AreClosed messages delivered operations = (slot at number : ℕ) (sent : Sent) (reply : Reply) → slice_get messages slot ≡ Some (Answer at number sent reply) → Contains delivered (suc slot) →
    IsClosed (worlds.numbered operations number) sent.ticket

-- ---- events

module _ (model : WorldModel) (before : ScriptedWorld) (stands : StandsFor model before) where
  -- one that stands for the other is like it
  pub alike : IsLike model before
  alike = record {
    goes_on = stands.goes_on;
    cluster_is = stands.cluster_is;
    clock_is = stands.clock_is;
    last_is = stands.last_is;
    devices = stands.devices;
    post = record { kept = stands.letters; marked = stands.marked; within = stands.within; reached = stands.first; earlier = stands.delivered; requests = stands.requests; numbers = stands.numbers };
    operations = stands.operations;
    clusters = stands.clusters;
  }

  -- a world like one that an event led to stands for it
  module _ (event : Event) (new : WorldModel) (after : ScriptedWorld) (same : new.cluster ≡ model.cluster) (happens : Happens event before.world after.world) (like : IsLike new after) (closed : AreClosed after.world.scene.messages after.delivered after.world.operations) where
    -- so it stands for it
    pub led : StandsFor new after
    led = record {
      goes_on = like.goes_on;
      events = stands.events ++ event ∷ [];
      run = subst (λ (cluster : ClusterModel). IsRun cluster (stands.events ++ event ∷ []) after.world) (sym same) (run-more model.cluster stands.events before.world event after.world stands.run happens);
      cluster_is = like.cluster_is;
      clock_is = like.clock_is;
      last_is = like.last_is;
      devices = like.devices;
      letters = like.post.kept;
      marked = like.post.marked;
      within = like.post.within;
      first = like.post.reached;
      delivered = like.post.earlier;
      operations = like.operations;
      clusters = like.clusters;
      requests = like.post.requests;
      numbers = like.post.numbers;
      closed = closed;
    }

    -- and the ends that it brought are told
    pub leads : (mine old new_ends : List EndLine) → after.delivered ≡ delivered_by event before.delivered → new_ends ≡ old ++ mine → AllZip TellsEnd (ended_from 1 before.world.operations after.world.operations) mine → LeadsByOne event before new old new_ends
    leads mine old new_ends delivered told ends = record {
      after = after;
      is_step = record { happens = happens; delivered = delivered };
      mine = mine;
      told = told;
      ends = ends;
      stands = led;
    }

-- a device is as it was, and the model's files and what is down are the same
pub device-kept : (model new : WorldModel) (before after : ScriptedWorld) (device : ℕ) → after.world.scene.devices device ≡ before.world.scene.devices device → ((name : List ℕ) → devices_of model.nodes device name ≡ devices_of new.nodes device name)
    → is_among model.down device ≡ is_among new.down device → IsDeviceOf model before device → IsDeviceOf new after device
device-kept model new before after device same files down is = record {
  folders = is.folders;
  sure = ap (λ (state : DeviceState). state.disk) same ∙ is.sure;
  same = λ name. is.same name ∙ files name;
  is_up = ap (λ (state : DeviceState). state.is_up) same ∙ is.is_up ∙ ap not down;
}
