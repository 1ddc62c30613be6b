-- What a mount leaves of a disk in memory: its places are mounted, and a crash still leaves it as it is.
use Rattle.std.proofs.Common.{⊎_elim, inl, inr, ℕ, Bool, List, [], ◌∷◌, None, refl, sym, subst}
use Rattle.sw_disk.specs.Calls.{ListFolders}
use Rattle.sw_diskfile.specs.Changes.{IsSettled}
use Rattle.sw_diskfile.specs.Normal.{Tidies}
use Rattle.sw_diskfile.proofs.Directories.{same_or_other}
use Rattle.sw_diskfile.proofs.Synced.{settled_synced}
use Rattle.sw_diskfile.proofs.Tidied.{tidy_others, tidy_stable}
use Rattle.sw_memdisk.specs.Laws.{earlier, now, only_now}
use Rattle.sw_memdisk.specs.Memory.{LeftBy, MemDiskModel, seen_of, state_of}
use Rattle.sw_ring.specs.Cluster.{ClusterModel}
use Rattle.sw_message.specs.Message.{is_primary}
use Rattle.sw_objsrv.specs.Handling.{folders_of}
use Rattle.sw_objsrv.specs.Mounting.{MountCalls, Mounts, TidiesEach}
use Rattle.sw_law_scene.specs.Disks.{IsMounted}
use Rattle.sw_sim_nodes.specs.Nodes.{IsSettledDisk}
use Rattle.sw_sim_nodes.proofs.Mounting.{quiet_run, settled_still}

settled_tidied : (folder : List ℕ) (primary : Bool) (a b : MemDiskModel) → IsSettledDisk a → Tidies seen_of LeftBy folder primary None a b → IsSettledDisk b
settled_tidied folder primary a b settled tidies name = ⊎_elim
    (λ same. subst (λ (n : List ℕ). IsSettled ((state_of b).folder n)) (sym same.1)
    ((tidy_stable seen_of LeftBy folder primary a b (now a folder) (only_now a folder) (λ since later. earlier a since later folder) None tidies refl).1 (settled_synced ((state_of a).folder folder) (settled folder))))
    (λ differ. settled_still ((state_of a).folder name) ((state_of b).folder name) ((tidy_others seen_of LeftBy folder primary a b (now a) (earlier a) None tidies).stands name differ.1) (settled name))
    (same_or_other name folder)

module _ (cluster : ClusterModel) (device : ℕ) where
  settled_each : (folders : List (List ℕ)) (a b : MemDiskModel) → IsSettledDisk a → TidiesEach seen_of LeftBy cluster device folders None a b → IsSettledDisk b
  settled_each [] a b settled none = subst IsSettledDisk (sym none.1) settled
  settled_each (folder ∷ folders) a b settled (inl other) = settled_each folders a b settled other.1
  settled_each (folder ∷ folders) a b settled (inr found) = ⊎_elim
      (λ done. settled_each folders done.0 b (settled_tidied folder (is_primary cluster device found.0) a done.0 settled done.1) done.2)
      (λ stopped. absurd (⊎_elim (λ want. let is = want.0 in cc) (λ refused. let is = refused.1 in cc) stopped))
      found.2

  settled_calls : (a b : MemDiskModel) → IsSettledDisk a → MountCalls seen_of LeftBy cluster device None a b → IsSettledDisk b
  settled_calls a b settled (inl refused) = absurd (let is = refused.1 in cc)
  settled_calls a b settled (inr all) =
      settled_each all.0 all.2 b (λ name. settled_still ((state_of a).folder name) ((state_of all.2).folder name) (quiet_run (ListFolders ∷ []) (λ name temporary. refl) a all.2 all.3 name) (settled name)) all.4

  module _ (a b : MemDiskModel) (mounts : Mounts seen_of LeftBy cluster device None a b) where
    pub settled_mounted : IsSettledDisk a → IsSettledDisk b
    settled_mounted settled = settled_calls a b settled mounts.calls

    pub is_mounted : IsMounted cluster device (folders_of (state_of a)) (folders_of (state_of b))
    is_mounted = record {
      normal = λ place is. (mounts.mounted refl place is).0;
      others = λ name none. (mounts.others.stands name (λ place is. none place is.0 is.1)).files;
    }
