-- A disk in memory in whose folders nothing is obsolete is as it was once it is mounted.
use Rattle.std.proofs.Common.{◌≡◌, inl, inr, ⊎_elim, ℕ, List, [], ◌∷◌, Option, None, refl, sym, ap, subst, ◌∙◌}
use Rattle.sw_disk.specs.Answers.{names_of}
use Rattle.sw_disk.specs.Calls.{Call, ListFolders, Step, calls_in}
use Rattle.sw_disk.specs.Folder.{Content, File, Folder, files_of}
use Rattle.sw_disk.specs.Runs.{Runs}
use Rattle.sw_disk.specs.State.{State, run}
use Rattle.sw_disk.proofs.Settling.{carry}
use Rattle.sw_hashpath.specs.Place.{IsPlace, PlaceModel, folder_of}
use Rattle.sw_diskfile.specs.Calls.{tidy_calls}
use Rattle.sw_diskfile.specs.Changes.{IsAsBefore, IsSettled}
use Rattle.sw_diskfile.specs.Normal.{AreObsolete, Tidies}
use Rattle.sw_diskfile.proofs.Changed.{as_before}
use Rattle.sw_diskfile.proofs.Listings.{listed_directory}
use Rattle.sw_diskfile.proofs.Normal.{one_list}
use Rattle.sw_diskfile.proofs.Steps.{changes_by}
use Rattle.sw_memdisk.specs.Memory.{LeftBy, MemDiskModel, seen_of, state_of}
use Rattle.sw_ring.specs.Cluster.{ClusterModel}
use Rattle.sw_message.specs.Message.{is_primary}
use Rattle.sw_objsrv.specs.Mounting.{IsFolderOf, MountCalls, Mounts, TidiesEach}
use Rattle.sw_objsrv.proofs.Purging.{IsTidy}

-- ---- folders that are as before

twice : (a b c : Folder) → IsAsBefore a b → IsAsBefore b c → IsAsBefore a c
twice a b c first second = record {
  files = second.files ∙ first.files;
  pending = λ none. second.pending (first.pending none);
  images = λ image left. first.images image (second.images image left);
}

-- what a crash leaves as it is, it leaves so
pub settled_still : (before after : Folder) → IsAsBefore before after → IsSettled before → IsSettled after
settled_still before after same settled = λ image left. settled image (same.images image left) ∙ sym same.files

abbrev pub AreAsBefore : MemDiskModel → MemDiskModel → Type 0
AreAsBefore a b = (name : List ℕ) → IsAsBefore ((state_of a).folder name) ((state_of b).folder name)

-- calls that change no name
pub quiet_run : (calls : List Call) → ((name : List ℕ) (temporary : Option Content) → changes_by name calls temporary ≡ []) → (a b : MemDiskModel) → Runs seen_of LeftBy calls None a b → AreAsBefore a b
quiet_run calls none a b runs name =
    carry seen_of LeftBy calls a b (λ (state : State). state ≡ state_of a) (λ (state : State). IsAsBefore ((state_of a).folder name) (state.folder name)) runs refl (λ steps state are is. made steps state are is)
  where
    made : (steps : List Step) (state : State) → calls_in steps ≡ calls → state ≡ state_of a → IsAsBefore ((state_of a).folder name) ((run steps state).folder name)
    made steps state are is = subst (λ (s : State). IsAsBefore (s.folder name) ((run steps state).folder name)) is
        (as_before name steps state (ap (λ (cs : List Call). changes_by name cs state.temporary) are ∙ none name state.temporary))

-- ---- mounting

module _ (cluster : ClusterModel) (device : ℕ) (first : MemDiskModel) (tidy : (place : PlaceModel) → IsPlace cluster.part_power place → IsTidy (is_primary cluster device place) (files_of ((state_of first).folder (folder_of place)))) where
  -- so in each folder of a place nothing is removed
  tidied : (place : PlaceModel) (folder : List ℕ) (a b : MemDiskModel) → AreAsBefore first a → IsFolderOf cluster place folder → Tidies seen_of LeftBy folder (is_primary cluster device place) None a b → AreAsBefore a b
  tidied place folder a b before is (inl early) = absurd (let refused = early.1 in cc)
  tidied place folder a b before is (inr all) =
      let files = files_of ((state_of a).folder folder) in
      let still : IsTidy (is_primary cluster device place) files = subst (λ (fs : List File). IsTidy (is_primary cluster device place) fs)
      (sym (ap (λ (name : List ℕ). files_of ((state_of a).folder name)) is.1 ∙ (before (folder_of place)).files)) (tidy place is.0) in
      let told : AreObsolete (is_primary cluster device place) (names_of files) all.1 =
      record { names = all.3.names; directory = listed_directory (names_of files) all.0 all.3.names all.2 all.3.directory; all = all.3.all; ascend = all.3.ascend } in
      let none : all.1 ≡ [] = one_list (is_primary cluster device place) (names_of files) all.1 [] told still in
      quiet_run (tidy_calls folder []) (λ name temporary. refl) a b (subst (λ (names : List (List ℕ)). Runs seen_of LeftBy (tidy_calls folder names) None a b) none all.5)

  each : (folders : List (List ℕ)) (a b : MemDiskModel) → AreAsBefore first a → TidiesEach seen_of LeftBy cluster device folders None a b → AreAsBefore first b
  each [] a b before none = subst (AreAsBefore first) (sym none.1) before
  each (folder ∷ folders) a b before (inl other) = each folders a b before other.1
  each (folder ∷ folders) a b before (inr found) = ⊎_elim
      (λ done. each folders done.0 b (λ name. twice ((state_of first).folder name) ((state_of a).folder name) ((state_of done.0).folder name) (before name) (tidied found.0 folder a done.0 before found.1 done.1 name)) done.2)
      (λ stopped. absurd (⊎_elim (λ want. let is = want.0 in cc) (λ refused. let is = refused.1 in cc) stopped))
      found.2

  by_calls : (b : MemDiskModel) → MountCalls seen_of LeftBy cluster device None first b → AreAsBefore first b
  by_calls b (inl refused) = absurd (let is = refused.1 in cc)
  by_calls b (inr all) = each all.0 all.2 b (quiet_run (ListFolders ∷ []) (λ name temporary. refl) first all.2 all.3) all.4

  pub mounted_as_before : (b : MemDiskModel) → Mounts seen_of LeftBy cluster device None first b → AreAsBefore first b
  mounted_as_before b mounts = by_calls b mounts.calls
