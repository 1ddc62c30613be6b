-- An empty disk in memory, once it is mounted, is still empty, and a crash leaves it so.
use Rattle.std.proofs.Common.{◌≡◌, ℕ, Bool, List, [], None, refl, sym, subst, ◌∙◌}
use Rattle.sw_disk.specs.Folder.{Folder, files_of}
use Rattle.sw_diskfile.specs.Changes.{AreSynced, IsSettled}
use Rattle.sw_diskfile.proofs.Changed.{image_stable}
use Rattle.sw_diskfile.proofs.Lists.{Contains-none}
use Rattle.sw_diskfile.proofs.Synced.{survive_exactly}
use Rattle.sw_hashpath.specs.Place.{folder_of}
use Rattle.sw_hashpath.specs.FileName.{file_name_text}
use Rattle.sw_memdisk.specs.Log.{folder_of as folder_in}
use Rattle.sw_memdisk.specs.Memory.{Kept, LeftBy, MemDiskModel, log_at, seen_of, state_of}
use Rattle.sw_ring.specs.Cluster.{ClusterModel}
use Rattle.sw_message.specs.Message.{is_primary}
use Rattle.sw_objsrv.specs.Handling.{folders_of}
use Rattle.sw_objsrv.specs.Mounting.{Mounts}
use Rattle.sw_objsrv.proofs.Purging.{IsTidy, tidy_by}
use Rattle.sw_sim_nodes.specs.Nodes.{IsSettledDisk}
use Rattle.sw_sim_nodes.proofs.Mounting.{AreAsBefore, mounted_as_before, settled_still}

-- nothing is in a folder
pub record IsEmpty (folder : Folder) : Type 0 where
  pub no_files : files_of folder ≡ []
  pub no_changes : folder.pending ≡ []

module _ (a : MemDiskModel) (none : a.folders ≡ []) where
  empty_folder : (name : List ℕ) → IsEmpty ((state_of a).folder name)
  empty_folder name = subst (λ (folders : List Kept). IsEmpty (folder_in (log_at folders name))) (sym none) (record { no_files = refl; no_changes = refl })

  -- so in none a name is obsolete
  none_obsolete : (primary : Bool) (name : List ℕ) → IsTidy primary (files_of ((state_of a).folder name))
  none_obsolete primary name = subst (IsTidy primary) (sym (empty_folder name).no_files)
      (tidy_by primary [] [] (λ it. (λ has. absurd (Contains-none it has), λ named. absurd (Contains-none (file_name_text it) named.1))) (λ it obsolete. Contains-none it obsolete.0))

  settled : (name : List ℕ) → IsSettled ((state_of a).folder name)
  settled name = λ image left. survive_exactly (files_of ((state_of a).folder name)) image (subst AreSynced (sym (empty_folder name).no_files) tt) (image_stable name ((state_of a).folder name) image (empty_folder name).no_changes left)

  module _ (cluster : ClusterModel) (device : ℕ) (b : MemDiskModel) (mounts : Mounts seen_of LeftBy cluster device None a b) where
    same : AreAsBefore a b
    same = mounted_as_before cluster device a (λ place is. none_obsolete (is_primary cluster device place) (folder_of place)) b mounts

    pub still_empty : (name : List ℕ) → folders_of (state_of b) name ≡ []
    still_empty name = (same name).files ∙ (empty_folder name).no_files

    pub still_settled : IsSettledDisk b
    still_settled name = settled_still ((state_of a).folder name) ((state_of b).folder name) (same name) (settled name)
