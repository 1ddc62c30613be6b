-- How the places of a disk are mounted: each one's folder is tidied.
use Rattle.std.specs.Prelude.{◌≡◌, ◌≢◌, ◌⊎◌, ℕ, ◌≤◌, List, [], ◌∷◌, Option, Some, None, IsSome, Result, Ok, Err}
use Rattle.sw_words.specs.Counts.{one_more}
use Rattle.sw_disk.specs.Answers.{AreFolders}
use Rattle.sw_disk.specs.Calls.{ListFolders}
use Rattle.sw_disk.specs.Folder.{File, files_of}
use Rattle.sw_disk.specs.Runs.{IfTold, Past, Runs, Seen}
use Rattle.sw_disk.specs.declared.refusal.DiskRefusal.{DiskRefusal}
use Rattle.sw_disk.specs.declared.refusal.DiskRefusal.TheVariants as refusal
use Rattle.sw_hashpath.specs.Place.{IsPlace, PlaceModel, folder_of}
use Rattle.sw_diskfile.specs.Changes.{AreSynced, IfBothTold, Keeps}
use Rattle.sw_diskfile.specs.Normal.{HaveOneNormalForm, IsNormalForm, Tidies}
use Rattle.sw_ring.specs.Cluster.{ClusterModel}
use Rattle.sw_message.specs.Message.{is_primary}
use Rattle.sw_objsrv.specs.declared.fault.MountFault.{MountFault}
use Rattle.sw_objsrv.specs.declared.fault.MountFault.TheVariants.{Failed, NoMemory}

abbrev pub mount_fault : DiskRefusal → MountFault
mount_fault refusal.Failed = Failed
mount_fault refusal.NoMemory = NoMemory
mount_fault (refusal.Full need free) = NoMemory

abbrev pub fault_of : {T : Type 0} → Result T MountFault → Option MountFault
fault_of (Ok value) = None
fault_of (Err fault) = Some fault

-- the folder is that of a place of the cluster
abbrev pub IsFolderOf : ClusterModel → PlaceModel → List ℕ → Type 0
IsFolderOf cluster place folder = IsPlace cluster.part_power place × (folder ≡ folder_of place)

abbrev pub IsOther : ClusterModel → List ℕ → Type 0
IsOther cluster folder = (place : PlaceModel) → IsFolderOf cluster place folder → ⊥

-- the folders of places are tidied, one after the other, up to the first refusal
abbrev pub TidiesEach : {D : Type 0} → (D → Seen) → (D → Past) → ClusterModel → ℕ → List (List ℕ) → Option MountFault → D → D → Type 0
TidiesEach seen left_since cluster device [] fault old new = (fault ≡ None) × (new ≡ old)
TidiesEach {D} seen left_since cluster device (folder ∷ folders) fault old new =
    (IsOther cluster folder × TidiesEach seen left_since cluster device folders fault old new)
    ⊎ ((place : PlaceModel) × IsFolderOf cluster place folder × (
    ((between : D) × Tidies seen left_since folder (is_primary cluster device place) None old between × TidiesEach seen left_since cluster device folders fault between new)
    ⊎ ((fault ≡ Some NoMemory) × Tidies seen left_since folder (is_primary cluster device place) None old new)
    ⊎ ((reason : DiskRefusal) × (fault ≡ Some (mount_fault reason)) × Tidies seen left_since folder (is_primary cluster device place) (Some reason) old new)))

-- the folders are listed, ascending, and those of places are tidied
abbrev pub MountCalls : {D : Type 0} → (D → Seen) → (D → Past) → ClusterModel → ℕ → Option MountFault → D → D → Type 0
MountCalls {D} seen left_since cluster device fault old new =
    ((reason : DiskRefusal) × (fault ≡ Some (mount_fault reason)) × Runs seen left_since (ListFolders ∷ []) (Some reason) old new)
    ⊎ ((listed : List (List ℕ)) × IfTold (seen old).told (λ state. AreFolders state listed)
    × (between : D) × Runs seen left_since (ListFolders ∷ []) None old between × TidiesEach seen left_since cluster device listed fault between new)

-- The places of a disk are mounted, or a refusal stops that.
pub record Mounts {D : Type 0} (seen : D → Seen) (left_since : D → Past) (cluster : ClusterModel) (device : ℕ) (fault : Option MountFault) (old new : D) : Type 0 where
  pub calls : MountCalls seen left_since cluster device fault old new
  -- each folder keeps its normal form, also where a crash comes at any moment within
  pub stands : (place : PlaceModel) → IsPlace cluster.part_power place →
      IfBothTold (seen old) (seen new) (folder_of place) (λ before after. HaveOneNormalForm (is_primary cluster device place) (files_of before) (files_of after))
  pub leaves : IsSome (seen old).told → (place : PlaceModel) → IsPlace cluster.part_power place → (t : ℕ) (image : List File) → t ≤ (seen old).moment →
      left_since new t (folder_of place) image → (before : List File) × left_since old t (folder_of place) before × HaveOneNormalForm (is_primary cluster device place) before image
  -- and has it at the end, with nothing pending
  pub mounted : fault ≡ None → (place : PlaceModel) → IsPlace cluster.part_power place →
      IfBothTold (seen old) (seen new) (folder_of place) (λ before after. IsNormalForm (is_primary cluster device place) (files_of before) (files_of after) × (after.pending ≡ []))
  pub synced : (place : PlaceModel) → IsPlace cluster.part_power place →
      IfBothTold (seen old) (seen new) (folder_of place) (λ before after. AreSynced (files_of before) → AreSynced (files_of after))
  pub others : Keeps seen left_since (IsOther cluster) old new
  -- a failure counts one, and nothing else does
  pub failed : fault ≡ Some Failed → (seen new).faults ≡ one_more (seen old).faults
  pub quiet : fault ≢ Some Failed → (seen new).faults ≡ (seen old).faults
