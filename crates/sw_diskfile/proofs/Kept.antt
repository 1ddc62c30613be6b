-- What a disk that tells still holds after calls that change no name.
use Rattle.std.proofs.Common.{ℕ, false, List, [], ◌∷◌, Option, Some, None, refl, sym, subst}
use Rattle.std.specs.Prelude.{IsSome, ⊤}
use Rattle.sw_disk.specs.Calls.{Call, SyncTmp, WriteTmp}
use Rattle.sw_disk.specs.Folder.{File, files_of}
use Rattle.sw_disk.specs.Runs.{IfTold, Past, Runs, Seen}
use Rattle.sw_disk.specs.State.{State, synced}
use Rattle.sw_disk.proofs.Settling.{AreQuiet, carry, files_kept, some_synced, temporary_after}

pub always : (told : Option State) → IfTold told (λ s. ⊤)
always None = tt
always (Some state) = tt

module _ {D : Type 0} (seen : D → Seen) (left_since : D → Past) (a b : D) where
  -- facts of a folder's files
  pub quiet_keeps : (calls : List Call) (folder : List ℕ) (P : List File → Type 0) → AreQuiet calls → Runs seen left_since calls None a b
      → IfTold (seen a).told (λ s. P (files_of (s.folder folder))) → IfTold (seen b).told (λ s. P (files_of (s.folder folder)))
  quiet_keeps calls folder P quiet runs has =
      carry seen left_since calls a b (λ s. P (files_of (s.folder folder))) (λ s. P (files_of (s.folder folder))) runs has
      (λ steps state is holds. subst P (sym (files_kept steps state folder (subst AreQuiet (sym is) quiet))) holds)

  -- a temporary file is there once it was written, and when it is synced
  pub sync_keeps : Runs seen left_since (SyncTmp ∷ []) None a b → IfTold (seen a).told (λ s. IsSome s.temporary) → IfTold (seen b).told (λ s. IsSome s.temporary)
  sync_keeps runs has =
      carry seen left_since (SyncTmp ∷ []) a b (λ s. IsSome s.temporary) (λ s. IsSome s.temporary) runs has
      (λ steps state is some. subst IsSome (sym (temporary_after SyncTmp synced (λ s. refl) steps state is)) (some_synced state.temporary some))

  pub write_gives : (bytes : List ℕ) → Runs seen left_since (WriteTmp bytes ∷ []) None a b → IfTold (seen b).told (λ s. IsSome s.temporary)
  write_gives bytes runs =
      carry seen left_since (WriteTmp bytes ∷ []) a b (λ s. ⊤) (λ s. IsSome s.temporary) runs (always (seen a).told)
      (λ steps state is some. subst IsSome (sym (temporary_after (WriteTmp bytes) (λ before. Some (record { bytes = bytes; synced = false })) (λ s. refl) steps state is)) refl)
