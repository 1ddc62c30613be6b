-- A node that is mounted again, among the nodes of its cluster.
use Rattle.std.proofs.Common.{◌≡◌, ◌≢◌, ℕ, ◌==◌, ◌&&◌, Bool, true, false, not, List, Option, None, Some, Result, Ok, Err, ap, refl, sym, subst, ◌∙◌}
use Rattle.std.proofs.lemmas.Bool.{ne_eqb, true≢false}
use Rattle.std.specs.Result.{is_err}
use Rattle.sw_memdisk.specs.Memory.{LeftBy, seen_of}
use Rattle.sw_ring.specs.Ring.{is_among}
use Rattle.sw_objsrv.specs.Mounting.{Mounts, fault_of}
use Rattle.sw_objsrv.specs.declared.fault.MountFault.{MountFault}
use Rattle.sw_law_scene.specs.Devices.{capacity_of}
use Rattle.sw_law_scene.specs.Disks.{IsMounted}
use Rattle.sw_sim_nodes.specs.Nodes.{AreNodes, IsRemountedAt, IsSettledDisk, MemNode, NodesModel, Restarts, devices_of, files_at, node_of}
use Rattle.sw_sim_nodes.proofs.Capacities.{mounts_capacity}
use Rattle.sw_sim_nodes.proofs.MountedDisks.{is_mounted, settled_mounted}
use Rattle.sw_sim_nodes.proofs.Replacing.{are_still, capacity_is, found_after, found_before, old_is, other_files}

module _ (all : NodesModel) (are : AreNodes all) (goes : all.is_wanting ≡ false) (slot : ℕ) (fault : Option MountFault) (later : List MemNode) (again : IsRemountedAt all.cluster slot fault all.nodes later) where
  mounts : fault ≡ None → Mounts seen_of LeftBy all.cluster again.old.device None again.old.disk again.new.disk
  mounts none = subst (λ (reason : Option MountFault). Mounts seen_of LeftBy all.cluster again.old.device reason again.old.disk again.new.disk) none again.remounts.mounts

  -- the devices that are down, without that one
  abbrev AreFewer : ℕ → List ℕ → Type 0
  AreFewer device down = (other : ℕ) → is_among down other ≡ (is_among all.down other && not (other == device))

  -- they are still the nodes of the cluster
  pub are_remounted : (down : List ℕ) (wanting : Bool) → (wanting ≡ false → (fault ≡ None)) → ((other : ℕ) → other ≢ again.old.device → is_among down other ≡ false → is_among all.down other ≡ false)
      → AreNodes (record { cluster = all.cluster; nodes = later; down = down; lost = all.lost; is_wanting = wanting })
  are_remounted down wanting done stays = subst (λ (nodes : List MemNode). AreNodes (record { cluster = all.cluster; nodes = nodes; down = down; lost = all.lost; is_wanting = wanting })) (sym again.others)
      (are_still all are slot again.old again.new again.at again.remounts.device again.is_node
      (mounts_capacity all.cluster again.old.device fault again.old.disk again.new.disk again.remounts.mounts ∙ capacity_is all are slot again.old again.new again.at again.remounts.device
      ∙ ap (capacity_of all.cluster) (sym again.remounts.device))
      down all.lost wanting (λ _. goes) stays
      (λ on. (
        λ _. again.remounts.is_due (done on),
        settled_mounted all.cluster again.old.device again.old.disk again.new.disk (mounts (done on)) (old_is all are slot again.old again.new again.at again.remounts.device (λ (node : MemNode). IsSettledDisk node.disk) (are.settled goes)),
      )))

  pub others_stay : (device : ℕ) (down : List ℕ) → again.old.device ≡ device → AreFewer device down → (other : ℕ) → other ≢ again.old.device → is_among down other ≡ false → is_among all.down other ≡ false
  others_stay device down mine fewer other differs up =
      let same : is_among down other ≡ (is_among all.down other && not false) = fewer other ∙ ap (λ (is : Bool). is_among all.down other && not is) (ne_eqb other device (λ is. differs (is ∙ sym mine))) in
      whole (is_among all.down other) (sym same ∙ up)
    where
      whole : (b : Bool) → (b && not false) ≡ false → b ≡ false
      whole true is = is
      whole false is = refl

  -- so a device that was down restarted
  pub restarts : (device : ℕ) (down : List ℕ) → fault ≡ None → again.old.device ≡ device → is_among all.down device ≡ true → AreFewer device down → Restarts all device (record all { nodes = later; down = down })
  restarts device down none mine was_down fewer = record {
    after_is = refl;
    mounted = λ _. subst (λ (id : ℕ). IsMounted all.cluster id (devices_of all.nodes id) (devices_of later id)) mine
        (subst (λ (node : Option MemNode). IsMounted all.cluster again.old.device (files_at node) (devices_of later again.old.device)) (sym (found_before all are slot again.old again.new again.at again.remounts.device))
        (subst (λ (node : Option MemNode). IsMounted all.cluster again.old.device (files_at (Some again.old)) (files_at node)) (sym after)
        (is_mounted all.cluster again.old.device again.old.disk again.new.disk (mounts none))));
    same = λ up. absurd (true≢false (sym was_down ∙ up));
    others = λ other differs name. ap (λ (nodes : List MemNode). devices_of nodes other name) again.others ∙ other_files all are slot again.old again.new again.at again.remounts.device other (λ is. differs (is ∙ mine)) name;
    down = fewer;
  }
    where
      after : node_of later again.old.device ≡ Some again.new
      after = ap (λ (nodes : List MemNode). node_of nodes again.old.device) again.others ∙ found_after all are slot again.old again.new again.at again.remounts.device

-- it was not refused
pub no_fault : (result : Result (Unit {0}) MountFault) → is_err result ≡ false → fault_of result ≡ None
no_fault (Ok unit) none = refl
no_fault (Err fault) none = absurd (cc)
