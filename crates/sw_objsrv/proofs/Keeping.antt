-- What calls of a disk keep of its folders.
use Rattle.std.proofs.Common.{inl, inr, ℕ, ◌≤◌, Bool, List, map, Option, refl, sym, ◌∙◌, subst, arith}
use Rattle.std.specs.Prelude.{⊤, IsSome}
use Rattle.sw_disk.specs.Folder.{File, Folder, IsImage, Remove, files_of}
use Rattle.sw_disk.specs.Runs.{IfTold, IsTelling, Past, Seen}
use Rattle.sw_disk.specs.declared.refusal.DiskRefusal.{DiskRefusal}
use Rattle.sw_diskfile.specs.Calls.{tidy_calls}
use Rattle.sw_diskfile.specs.Changes.{AreSynced, IfBothTold, IsAsBefore, Keeps}
use Rattle.sw_diskfile.specs.Normal.{HaveOneNormalForm, Tidies}
use Rattle.sw_diskfile.proofs.CallLists.{makes_tidy}
use Rattle.sw_diskfile.proofs.Kept.{always}
use Rattle.sw_diskfile.proofs.Normal.{same_itself, same_trans}
use Rattle.sw_diskfile.proofs.Outcomes.{both_map, changes_run, quiet_run}
use Rattle.sw_diskfile.proofs.Tidied.{tidy_before, tidy_keeps}
use Rattle.sw_objsrv.proofs.Told.{both_more, both_self, told_too}

-- what holds of each disk of a type
pub record IsDisk {D : Type 0} (seen : D → Seen) (left_since : D → Past) (tells : Bool) : Type 0 where
  pub telling : (disk : D) → IsTelling tells (seen disk).told
  pub now : (disk : D) (folder : List ℕ) (image : List File) → IfTold (seen disk).told (λ state. IsImage (state.folder folder) image → left_since disk (seen disk).moment folder image)
  pub only_now : (disk : D) (folder : List ℕ) (image : List File) → left_since disk (seen disk).moment folder image → IfTold (seen disk).told (λ state. IsImage (state.folder folder) image)
  pub earlier : (disk : D) (since later : ℕ) (folder : List ℕ) (image : List File) → since ≤ later → left_since disk later folder image → left_since disk since folder image

-- the folder keeps its normal form, also where a crash comes at any moment within, and bytes that are on the disk
pub record KeepsFolder {D : Type 0} (seen : D → Seen) (left_since : D → Past) (is_primary : Bool) (folder : List ℕ) (old new : D) : Type 0 where
  pub stands : IfBothTold (seen old) (seen new) folder (λ before after. HaveOneNormalForm is_primary (files_of before) (files_of after))
  pub leaves : IsSome (seen old).told → (t : ℕ) (image : List File) → t ≤ (seen old).moment → left_since new t folder image → (before : List File) × left_since old t folder before × HaveOneNormalForm is_primary before image
  pub synced : IfBothTold (seen old) (seen new) folder (λ before after. AreSynced (files_of before) → AreSynced (files_of after))

before_self : (x : Folder) → IsAsBefore x x
before_self x = record { files = refl; pending = λ none. none; images = λ image w. w }

before_more : (x y z : Folder) → IsAsBefore x y → IsAsBefore y z → IsAsBefore x z
before_more x y z first second = record {
  files = second.files ∙ first.files;
  pending = λ none. second.pending (first.pending none);
  images = λ image w. first.images image (second.images image w);
}

-- folders that are kept twice are kept
pub keeps_twice : {D : Type 0} (seen : D → Seen) (left_since : D → Past) (These : List ℕ → Type 0) (a b c : D) (tells : Bool) → IsTelling tells (seen a).told → IsTelling tells (seen b).told → (seen a).moment ≤ (seen b).moment → Keeps seen left_since These a b
    → Keeps seen left_since These b c → Keeps seen left_since These a c
keeps_twice seen left_since These a b c tells tell_a tell_b later first second = record {
  stands = λ name these. both_more name tells (seen a).told (seen b).told (seen c).told IsAsBefore IsAsBefore IsAsBefore tell_a tell_b before_more (first.stands name these) (second.stands name these);
  leaves = λ some name these t image le left. first.leaves some name these t image le (second.leaves (told_too tells (seen a).told (seen b).told tell_a tell_b some) name these t image (omega (arith, le, later)) left);
}

module _ {D : Type 0} (seen : D → Seen) (left_since : D → Past) (tells : Bool) (laws : IsDisk seen left_since tells) where
  some_too : (a b : D) → IsSome (seen a).told → IsSome (seen b).told
  some_too a b some = told_too tells (seen a).told (seen b).told (laws.telling a) (laws.telling b) some

  -- ---- folders that are as before

  module _ (These : List ℕ → Type 0) where
    pub keeps_self : (a : D) → Keeps seen left_since These a a
    keeps_self a = record {
      stands = λ name these. both_self name (seen a).told IsAsBefore before_self;
      leaves = λ some name these t image le left. left;
    }

    pub keeps_more : (a b c : D) → (seen a).moment ≤ (seen b).moment → Keeps seen left_since These a b → Keeps seen left_since These b c → Keeps seen left_since These a c
    keeps_more a b c later first second = keeps_twice seen left_since These a b c tells (laws.telling a) (laws.telling b) later first second

    pub keeps_fewer : (Those : List ℕ → Type 0) (a b : D) → ((name : List ℕ) → Those name → These name) → Keeps seen left_since These a b → Keeps seen left_since Those a b
    keeps_fewer Those a b fewer kept = record {
      stands = λ name those. kept.stands name (fewer name those);
      leaves = λ some name those. kept.leaves some name (fewer name those);
    }

  -- ---- a folder that keeps its normal form

  module _ (is_primary : Bool) (folder : List ℕ) where
    abbrev One : Folder → Folder → Type 0
    One before after = HaveOneNormalForm is_primary (files_of before) (files_of after)

    abbrev Synced : Folder → Folder → Type 0
    Synced before after = AreSynced (files_of before) → AreSynced (files_of after)

    pub folder_self : (a : D) → KeepsFolder seen left_since is_primary folder a a
    folder_self a = record {
      stands = both_self folder (seen a).told One (λ x. same_itself is_primary (files_of x));
      leaves = λ some t image le left. (image, left, same_itself is_primary image);
      synced = both_self folder (seen a).told Synced (λ x synced. synced);
    }

    pub folder_more : (a b c : D) → (seen a).moment ≤ (seen b).moment → KeepsFolder seen left_since is_primary folder a b → KeepsFolder seen left_since is_primary folder b c → KeepsFolder seen left_since is_primary folder a c
    folder_more a b c later first second = record {
      stands = both_more folder tells (seen a).told (seen b).told (seen c).told One One One (laws.telling a) (laws.telling b) (λ x y z. same_trans is_primary (files_of x) (files_of y) (files_of z)) first.stands second.stands;
      leaves = λ some t image le left.
          let between = second.leaves (some_too a b some) t image (omega (arith, le, later)) left in
          let before = first.leaves some t between.0 le between.1 in
          (before.0, before.1, same_trans is_primary before.0 between.0 image before.2 between.2);
      synced = both_more folder tells (seen a).told (seen b).told (seen c).told Synced Synced Synced (laws.telling a) (laws.telling b) (λ x y z one two synced. two (one synced)) first.synced second.synced;
    }

    same_normal : (before after : Folder) → ⊤ → IsAsBefore before after → One before after
    same_normal before after _ same = subst (HaveOneNormalForm is_primary (files_of before)) (sym same.files) (same_itself is_primary (files_of before))

    same_synced : (before after : Folder) → ⊤ → IsAsBefore before after → Synced before after
    same_synced before after _ same = λ synced. subst AreSynced (sym same.files) synced

    pub folder_kept : (These : List ℕ → Type 0) (a b : D) → These folder → Keeps seen left_since These a b → KeepsFolder seen left_since is_primary folder a b
    folder_kept These a b these kept = record {
      stands = both_map (seen a) (seen b) folder (λ _. ⊤) IsAsBefore One same_normal (always (seen a).told) (kept.stands folder these);
      leaves = λ some t image le left. (image, kept.leaves some folder these t image le left, same_itself is_primary image);
      synced = both_map (seen a) (seen b) folder (λ _. ⊤) IsAsBefore Synced same_synced (always (seen a).told) (kept.stands folder these);
    }

    -- ---- a folder that is tidied

    module _ (a b : D) (refusal : Option DiskRefusal) where
      tidied_synced : Tidies seen left_since folder is_primary refusal a b → IfBothTold (seen a) (seen b) folder Synced
      tidied_synced (inl early) = both_map (seen a) (seen b) folder (λ _. ⊤) IsAsBefore Synced same_synced (always (seen a).told) (quiet_run folder seen left_since _ a b (λ temporary. refl) refusal early.2)
      tidied_synced (inr all) =
          let early = tidy_before seen left_since folder is_primary a b (laws.now a folder) (laws.only_now a folder) (λ since later image. laws.earlier a since later folder image) refusal (inr all) in
          (changes_run seen left_since folder (tidy_calls folder all.1) (map Remove all.1) (makes_tidy folder all.1) a b refusal (laws.now a folder) (laws.only_now a folder) (λ since later image. laws.earlier a since later folder image) all.5 early).synced

      pub folder_tidied : Tidies seen left_since folder is_primary refusal a b → KeepsFolder seen left_since is_primary folder a b
      folder_tidied tidies =
          let kept = tidy_keeps seen left_since folder is_primary a b (laws.now a folder) (laws.only_now a folder) (λ since later image. laws.earlier a since later folder image) refusal tidies in
          record { stands = kept.stands; leaves = kept.leaves; synced = tidied_synced tidies }
