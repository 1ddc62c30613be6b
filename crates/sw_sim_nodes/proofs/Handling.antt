-- A node that handles a message, among the nodes of its cluster.
use Rattle.std.proofs.Common.{◌≡◌, ◌≢◌, inl, inr, ⊎_elim, ℕ, Bool, false, List, Option, None, Some, refl, sym, ap, subst, ◌∙◌}
use Rattle.std.specs.List.{All}
use Rattle.std.proofs.lemmas.Bool.{cases_Bool, true≢false}
use Rattle.sw_disk.specs.State.{free_of}
use Rattle.sw_diskfile.specs.Changes.{IsSettled}
use Rattle.sw_diskfile.proofs.Directories.{same_or_other}
use Rattle.sw_diskfile.proofs.Synced.{settled_synced}
use Rattle.sw_hashpath.specs.Place.{PlaceModel, folder_of}
use Rattle.sw_memdisk.specs.Memory.{LeftBy, seen_of, state_of}
use Rattle.sw_ring.specs.Cluster.{ClusterModel}
use Rattle.sw_ring.specs.Ring.{is_among}
use Rattle.sw_message.specs.Message.{IsPlaceOf, is_primary, place_in}
use Rattle.sw_message.specs.Step.{IsNodeStep}
use Rattle.sw_message.specs.declared.message.Msg.{Msg}
use Rattle.sw_message.specs.declared.reply.Reply.{Reply}
use Rattle.sw_objsrv.specs.Node.{Handled, HandlesWhenMounted, IsByTable, IsNode}
use Rattle.sw_objsrv.proofs.InOrder.{order_settled}
use Rattle.sw_law_scene.specs.Devices.{IsFree, IsHandledBy, capacity_of}
use Rattle.sw_sim_nodes.specs.Nodes.{AreNodes, CallsUp, IsHandledAt, IsSettledDisk, MemNode, NodesModel, devices_of, files_at, is_want, node_of}
use Rattle.sw_sim_nodes.proofs.Capacities.{handles_capacity, handles_device}
use Rattle.sw_sim_nodes.proofs.Mounting.{settled_still}
use Rattle.sw_sim_nodes.proofs.Rooms.{room_is}
use Rattle.sw_sim_nodes.proofs.Replacing.{are_still, capacity_is, found_after, found_before, old_is, other_files}

no_want : (reply : Reply) → is_want reply ≡ false → IsByTable reply
no_want reply none = (λ is. true≢false (sym (ap is_want is) ∙ none), λ is. true≢false (sym (ap is_want is) ∙ none))

-- it was mounted, so nothing came before its handling
pub when_mounted : (cluster : ClusterModel) (msg : Msg) (reply : Reply) (old new : MemNode) → old.is_due ≡ false → HandlesWhenMounted seen_of LeftBy cluster msg reply old new → Handled seen_of LeftBy cluster msg reply old new
when_mounted cluster msg reply old new mounted (inl now) = now.1
when_mounted cluster msg reply old new mounted (inr due) = absurd (true≢false (sym due.0 ∙ mounted))

-- ---- what a crash leaves after it

module _ (cluster : ClusterModel) (msg : Msg) (reply : Reply) (old new : MemNode) (right : IsPlaceOf cluster (place_in msg)) (handled : Handled seen_of LeftBy cluster msg reply old new) (is_node : IsNode cluster seen_of new) (mounted : new.is_due ≡ false) (settled : IsSettledDisk old.disk) where
  elsewhere : (name : List ℕ) → ((place : PlaceModel) → place_in msg ≡ Some place → name ≢ folder_of place) → IsSettled ((state_of new.disk).folder name)
  elsewhere name other = settled_still ((state_of old.disk).folder name) ((state_of new.disk).folder name) (handled.others.stands name other) (settled name)

  -- the folder of the place is in order, and its bytes are on the disk
  here : (place : PlaceModel) → place_in msg ≡ Some place → IsSettled ((state_of new.disk).folder (folder_of place))
  here place is = order_settled (is_primary cluster new.device place) _ ((state_of new.disk).folder (folder_of place))
      (is_node.in_order mounted place (subst (IsPlaceOf cluster) is right))
      (handled.synced place is (settled_synced ((state_of old.disk).folder (folder_of place)) (settled (folder_of place))))

  still_settled : IsSettledDisk new.disk
  still_settled name = about (place_in msg) refl
    where
      about : (found : Option PlaceModel) → place_in msg ≡ found → IsSettled ((state_of new.disk).folder name)
      about None is = elsewhere name (λ place some. absurd (cc))
      about (Some place) is = ⊎_elim
          (λ same. subst (λ (n : List ℕ). IsSettled ((state_of new.disk).folder n)) (sym same.1) (here place is))
          (λ differ. elsewhere name (λ other some same. differ.1 (same ∙ ap folder_of (let one : other ≡ place = cc in one))))
          (same_or_other name (folder_of place))

-- ---- a message that is handled

module _ (all : NodesModel) (are : AreNodes all) (slot : ℕ) (msg : Msg) (reply : Reply) (later : List MemNode) (handled : IsHandledAt all.cluster slot msg reply all.nodes later) where
  same_device : handled.new.device ≡ handled.old.device
  same_device = handles_device all.cluster msg reply handled.old handled.new handled.handles

  before : node_of all.nodes handled.old.device ≡ Some handled.old
  before = found_before all are slot handled.old handled.new handled.at same_device

  after : node_of later handled.old.device ≡ Some handled.new
  after = ap (λ (nodes : List MemNode). node_of nodes handled.old.device) handled.others ∙ found_after all are slot handled.old handled.new handled.at same_device

  capacity : handled.old.disk.capacity ≡ capacity_of all.cluster handled.old.device
  capacity = capacity_is all are slot handled.old handled.new handled.at same_device

  it_is : (P : MemNode → Type 0) → All P all.nodes → P handled.old
  it_is P each = old_is all are slot handled.old handled.new handled.at same_device P each

  module _ (up : is_among all.down handled.old.device ≡ false) (goes : all.is_wanting ≡ false) (none : is_want reply ≡ false) where
    mounted : handled.old.is_due ≡ false
    mounted = it_is (λ (node : MemNode). is_among all.down node.device ≡ false → node.is_due ≡ false) (are.mounted goes) up

    now : Handled seen_of LeftBy all.cluster msg reply handled.old handled.new
    now = when_mounted all.cluster msg reply handled.old handled.new mounted handled.handles

    room : IsFree (capacity_of all.cluster handled.old.device) (files_at (Some handled.old)) (free_of (state_of handled.old.disk))
    room = room_is all.cluster handled.old (it_is (IsNode all.cluster seen_of) are.are) mounted (capacity_of all.cluster handled.old.device) capacity

    -- it is the step of a node
    handled_by : IsHandledBy all.cluster handled.old.device msg reply (devices_of all.nodes) (devices_of later)
    handled_by = record {
      handles = record {
        room = free_of (state_of handled.old.disk);
        free = subst (λ (node : Option MemNode). IsFree (capacity_of all.cluster handled.old.device) (files_at node) (free_of (state_of handled.old.disk))) (sym before) room;
        step = subst (λ (node : Option MemNode). IsNodeStep all.cluster handled.old.device (free_of (state_of handled.old.disk)) msg (files_at node) (devices_of later handled.old.device) reply) (sym before)
            (subst (λ (node : Option MemNode). IsNodeStep all.cluster handled.old.device (free_of (state_of handled.old.disk)) msg (files_at (Some handled.old)) (files_at node) reply) (sym after) (now.step (no_want reply none)));
      };
      others = λ other differs name. ap (λ (nodes : List MemNode). devices_of nodes other name) handled.others ∙ other_files all are slot handled.old handled.new handled.at same_device other differs name;
    }

    still_mounted : handled.new.is_due ≡ false
    still_mounted = elim (cases_Bool handled.new.is_due) [
      | inl due ↦ absurd ((no_want reply none).0 (now.is_due due))
      | inr mounted ↦ mounted
    ]

  module _ (right : IsPlaceOf all.cluster (place_in msg)) (up : is_among all.down handled.old.device ≡ false) (wanting : Bool) (says : wanting ≡ false → (all.is_wanting ≡ false) × (is_want reply ≡ false)) where
    -- they are still the nodes of the cluster
    pub are_after : AreNodes (record all { nodes = later; is_wanting = wanting })
    are_after = subst (λ (nodes : List MemNode). AreNodes (record all { nodes = nodes; is_wanting = wanting })) (sym handled.others)
        (are_still all are slot handled.old handled.new handled.at same_device handled.is_node
        (handles_capacity all.cluster msg reply handled.old handled.new handled.handles ∙ capacity ∙ ap (capacity_of all.cluster) (sym same_device)) all.down all.lost wanting (λ goes. (says goes).0) (λ _ _ stays. stays)
        (λ goes.
        let mounted = still_mounted up (says goes).0 (says goes).1 in (
          λ _. mounted,
          still_settled all.cluster msg reply handled.old handled.new right (now up (says goes).0 (says goes).1) handled.is_node mounted (it_is (λ (node : MemNode). IsSettledDisk node.disk) (are.settled (says goes).0)),
        )))

  -- so it was called
  pub called : (device : ℕ) → is_among all.down device ≡ false → handled.old.device ≡ device → (wanting : Bool) → (wanting ≡ false → (all.is_wanting ≡ false) × (is_want reply ≡ false)) → (all.is_wanting ≡ false → wanting ≡ is_want reply)
      → CallsUp all device msg reply (record all { nodes = later; is_wanting = wanting })
  called device up mine wanting says cause = record {
    up = up;
    slot = slot;
    once = handled;
    mine = mine;
    handled = λ goes. subst (λ (id : ℕ). IsHandledBy all.cluster id msg reply (devices_of all.nodes) (devices_of later)) mine (handled_by (subst (λ (id : ℕ). is_among all.down id ≡ false) (sym mine) up) (says goes).0 (says goes).1);
    same_cluster = refl;
    same_down = refl;
    none_lost = refl;
    wanting = λ goes. (says goes).0;
    cause = cause;
  }
