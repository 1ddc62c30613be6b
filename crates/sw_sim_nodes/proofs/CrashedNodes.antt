-- A node whose device lost power, among the nodes of its cluster.
use Rattle.std.proofs.Common.{◌≡◌, ◌≢◌, ℕ, ◌+◌, ◌==◌, ◌||◌, Bool, true, false, List, Option, Some, ltb, max, refl, sym, ap, subst, ◌∙◌}
use Rattle.std.specs.List.{All}
use Rattle.std.proofs.lemmas.Bool.{eq-eqb, ltb-true, true≢false}
use Rattle.sw_memdisk.specs.Memory.{MemDiskModel, crashed, seen_of, state_of}
use Rattle.sw_ring.specs.Ring.{is_among}
use Rattle.sw_message.specs.Message.{IsPlaceOf, place_in}
use Rattle.sw_message.specs.Step.{Folders}
use Rattle.sw_message.specs.declared.message.Msg.{Msg}
use Rattle.sw_message.specs.declared.reply.Reply.{Reply}
use Rattle.sw_objsrv.specs.Handling.{folders_of}
use Rattle.sw_objsrv.specs.Node.{IsNode}
use Rattle.sw_law_scene.specs.Devices.{capacity_of}
use Rattle.sw_law_scene.specs.Disks.{IsHeldWithin, IsLeftOf, Sure}
use Rattle.sw_sim_nodes.specs.Crashing.{Crashes, IsCrashedAt, IsCut, cut_of, fused}
use Rattle.sw_sim_nodes.specs.Nodes.{AreNodes, IsSettledDisk, MemNode, NodesModel, devices_of, files_at, node_of}
use Rattle.sw_sim_nodes.proofs.Capacities.{handles_capacity, handles_device}
use Rattle.sw_sim_nodes.proofs.CrashedDisks.{settled_crashed}
use Rattle.sw_sim_nodes.proofs.CutNodes.{IsCutNode, is_cut, left_of}
use Rattle.sw_sim_nodes.proofs.Handling.{when_mounted}
use Rattle.sw_sim_nodes.proofs.Replacing.{are_still, capacity_is, found_after, found_before, old_is, other_files}

module _ (all : NodesModel) (are : AreNodes all) (slot : ℕ) (msg : Msg) (calls pick : ℕ) (cut : Bool) (later : List MemNode) (at : IsCrashedAt all.cluster slot msg calls pick cut all.nodes later) where
  abbrev old : MemNode
  old = at.old

  abbrev new : MemNode
  new = at.new

  abbrev between : MemNode
  between = at.crashes.between

  same_device : new.device ≡ old.device
  same_device = ap (λ (node : MemNode). node.device) at.crashes.new_is ∙ handles_device all.cluster msg at.crashes.reply (fused calls old) between at.crashes.handles

  disk_is : new.disk ≡ crashed pick between.disk
  disk_is = ap (λ (node : MemNode). node.disk) at.crashes.new_is

  it_is : (P : MemNode → Type 0) → All P all.nodes → P old
  it_is P each = old_is all are slot old new at.at same_device P each

  old_capacity : old.disk.capacity ≡ capacity_of all.cluster old.device
  old_capacity = capacity_is all are slot old new at.at same_device

  capacity : new.disk.capacity ≡ capacity_of all.cluster new.device
  capacity =
      ap (λ (disk : MemDiskModel). disk.capacity) disk_is ∙ handles_capacity all.cluster msg at.crashes.reply (fused calls old) between at.crashes.handles ∙ old_capacity
      ∙ ap (capacity_of all.cluster) (sym same_device)

  -- they are still the nodes of the cluster, as long as the device is down
  pub are_crashed : (down : List ℕ) (wanting : Bool) → (wanting ≡ false → all.is_wanting ≡ false) → ((other : ℕ) → other ≢ old.device → is_among down other ≡ false → is_among all.down other ≡ false) → (wanting ≡ false → is_among down old.device ≡ true)
      → AreNodes (record { cluster = all.cluster; nodes = later; down = down; lost = all.lost; is_wanting = wanting })
  are_crashed down wanting went stays is_down = subst (λ (nodes : List MemNode). AreNodes (record { cluster = all.cluster; nodes = nodes; down = down; lost = all.lost; is_wanting = wanting })) (sym at.others)
      (are_still all are slot old new at.at same_device at.crashes.is_node capacity down all.lost wanting went stays
      (λ goes. (
        λ up. absurd (true≢false (sym (is_down goes) ∙ ap (is_among down) (sym same_device) ∙ up)),
        subst IsSettledDisk (sym disk_is) (settled_crashed pick between.disk),
      )))

  -- ---- what is left

  module _ (right : IsPlaceOf all.cluster (place_in msg)) (goes : all.is_wanting ≡ false) (up : is_among all.down old.device ≡ false) (told : cut ≡ true) where
    mounted : old.is_due ≡ false
    mounted = it_is (λ (node : MemNode). is_among all.down node.device ≡ false → node.is_due ≡ false) (are.mounted goes) up

    -- its calls were used up
    abbrev used : Bool
    used = ltb (old.disk.calls + max calls 1) between.disk.calls

    was_cut : cut_of at.crashes.reply used ≡ true
    was_cut = sym at.crashes.cut_is ∙ told

    cut_node : IsCutNode all.cluster msg calls old between
    cut_node = record {
      reply = at.crashes.reply;
      handled = when_mounted all.cluster msg at.crashes.reply (fused calls old) between mounted at.crashes.handles;
      right = right;
      mounted = mounted;
      is_node = it_is (IsNode all.cluster seen_of) are.are;
      settled = it_is (λ (node : MemNode). IsSettledDisk node.disk) (are.settled goes);
      capacity = old_capacity;
      memory = λ wants. absurd (true≢false (sym was_cut ∙ ap (λ (reply : Reply). cut_of reply used) wants));
      used_up = λ failed. ltb-true (old.disk.calls + max calls 1) between.disk.calls (ap (λ (reply : Reply). cut_of reply used) (sym failed) ∙ was_cut);
    }

    -- its folders before and after
    was : node_of all.nodes old.device ≡ Some old
    was = found_before all are slot old new at.at same_device

    is_now : node_of later old.device ≡ Some new
    is_now = ap (λ (nodes : List MemNode). node_of nodes old.device) at.others ∙ found_after all are slot old new at.at same_device

    in_nodes : (P : Folders → Folders → Type 0) → P (folders_of (state_of old.disk)) (folders_of (state_of (crashed pick between.disk))) → P (devices_of all.nodes old.device) (devices_of later old.device)
    in_nodes P holds =
        subst (λ (node : Option MemNode). P (files_at node) (devices_of later old.device)) (sym was)
        (subst (λ (node : Option MemNode). P (files_at (Some old)) (files_at node)) (sym is_now)
        (subst (λ (disk : MemDiskModel). P (files_at (Some old)) (folders_of (state_of disk))) (sym disk_is) holds))

    pub crashes : (device : ℕ) → old.device ≡ device → (down : List ℕ) → ((other : ℕ) → is_among down other ≡ (is_among all.down other || other == device)) → Crashes all device msg calls pick (record all { nodes = later; down = down })
    crashes device mine down more = record {
      cut = subst (λ (id : ℕ). IsCut all.cluster id msg calls pick (devices_of all.nodes id) (devices_of later id)) mine
          (in_nodes (λ before after. IsCut all.cluster old.device msg calls pick before after) (is_cut all.cluster calls pick old between msg cut_node));
      left = subst (λ (id : ℕ). IsLeftOf all.cluster id (IsHeldWithin all.cluster id msg (Sure (devices_of all.nodes id))) (devices_of later id)) mine
          (in_nodes (λ before after. IsLeftOf all.cluster old.device (IsHeldWithin all.cluster old.device msg (Sure before)) after) (left_of all.cluster calls pick old between msg cut_node));
      others = λ other differs name. ap (λ (nodes : List MemNode). devices_of nodes other name) at.others ∙ other_files all are slot old new at.at same_device other (λ is. differs (is ∙ mine)) name;
      down = more;
      after_is = refl;
    }

-- the device is among those that are down, and no other comes up
module _ (all : NodesModel) (device : ℕ) (down : List ℕ) (more : (other : ℕ) → is_among down other ≡ (is_among all.down other || other == device)) where
  pub is_down : is_among down device ≡ true
  is_down = more device ∙ ap (λ (b : Bool). is_among all.down device || b) (eq-eqb device device refl) ∙ ends (is_among all.down device)
    where
      ends : (a : Bool) → (a || true) ≡ true
      ends true = refl
      ends false = refl

  pub none_up : (other : ℕ) → is_among down other ≡ false → is_among all.down other ≡ false
  none_up other up = first (is_among all.down other) (other == device) (sym (more other) ∙ up)
    where
      first : (a b : Bool) → (a || b) ≡ false → a ≡ false
      first true b is = is
      first false b is = refl
