-- A folder keeps its normal form while obsolete files are removed.
use Rattle.std.proofs.Common.{◌≡◌, ◌⊎◌, ⊎_elim, ℕ, zero, suc, ◌≤◌, Bool, true≢false, List, [], length, map, take, Option, Some, None, IsSome, refl, sym, ◌∙◌, ap, subst, arith}
use Rattle.std.specs.Prelude.{⊤}
use Rattle.std.proofs.lemmas.List.{take_all}
use Rattle.sw_disk.specs.Answers.{names_of}
use Rattle.sw_disk.specs.Folder.{Change, File, Folder, IsImage, Remove, Survive, all_changed, files_of}
use Rattle.sw_disk.specs.Runs.{IfTold, Past, Seen}
use Rattle.sw_disk.specs.State.{State}
use Rattle.sw_disk.specs.declared.refusal.DiskRefusal.{DiskRefusal}
use Rattle.sw_disk.specs.declared.refusal.DiskRefusal.TheVariants.{Failed, Full, NoMemory}
use Rattle.sw_disk.proofs.Images.{image_of_all}
use Rattle.sw_hashdir.specs.Directory.{IsDirectory}
use Rattle.sw_hashpath.specs.FileName.{file_name_text}
use Rattle.sw_diskfile.specs.Changes.{Changes, IsFirstPart, IsSettled, Stands, SurvivesPart}
use Rattle.sw_diskfile.specs.Normal.{AreObsolete, HaveOneNormalForm, IsNormalForm, IsTidied, KeepsNormal}
use Rattle.sw_diskfile.proofs.Lists.{Contains-none}
use Rattle.sw_diskfile.proofs.Normal.{all_normal, floor_stays, image_normal, none_left, part_normal, same_itself}
use Rattle.sw_diskfile.proofs.Obsoletes.{obsolete_same, one_directory}
use Rattle.sw_diskfile.proofs.Outcomes.{both_map}

-- changes of files that have something keep their normal form, whatever first part of them is made or survives
pub record Keeps (is_primary : Bool) (Has : List File → Type 0) (changes : List Change) : Type 0 where
  pub part : (files part : List File) → Has files → IsFirstPart changes files part → HaveOneNormalForm is_primary files part
  pub image : (files image : List File) (count : ℕ) → Has files → Survive (all_changed (take count changes) files) image → (before : List File) × Survive files before × HaveOneNormalForm is_primary before image

module _ (is_primary : Bool) (Has : List File → Type 0) (changes : List Change) (same : Keeps is_primary Has changes) where
  stand_same : (refusal : Option DiskRefusal) (before after : Folder) → Has (files_of before) → Stands refusal changes before after → HaveOneNormalForm is_primary (files_of before) (files_of after)
  stand_same None before after has is = same.part (files_of before) (files_of after) has (length changes, is ∙ ap (λ (cs : List Change). all_changed cs (files_of before)) (sym (take_all (length changes) changes (omega arith))))
  stand_same (Some Failed) before after has is = same.part (files_of before) (files_of after) has is
  stand_same (Some (Full need free)) before after has is = subst (HaveOneNormalForm is_primary (files_of before)) (sym is.files) (same_itself is_primary (files_of before))
  stand_same (Some NoMemory) before after has is = subst (HaveOneNormalForm is_primary (files_of before)) (sym is.files) (same_itself is_primary (files_of before))

  module _ {D : Type 0} (seen : D → Seen) (left_since : D → Past) (folder : List ℕ) (a b : D) where
    leaves_same : (told : Option State) → IfTold told (λ s. Has (files_of (s.folder folder))) → ((image : List File) → IfTold told (λ s. IsImage (s.folder folder) image → left_since a (seen a).moment folder image))
        → ((since later : ℕ) (image : List File) → since ≤ later → left_since a later folder image → left_since a since folder image)
        → IfTold told (λ before. (t : ℕ) (image : List File) → t ≤ (seen a).moment → left_since b t folder image → left_since a t folder image ⊎ SurvivesPart changes (files_of (before.folder folder)) image)
        → IsSome told → (t : ℕ) (image : List File) → t ≤ (seen a).moment → left_since b t folder image → (before : List File) × left_since a t folder before × HaveOneNormalForm is_primary before image
    leaves_same None has now earlier leaves = λ some t image le left. absurd (true≢false (sym some))
    leaves_same (Some s) has now earlier leaves = λ some t image le left. ⊎_elim
        (λ past. (image, past, same_itself is_primary image))
        (λ part.
        let back = same.image (files_of (s.folder folder)) image part.0 has part.1 in
        (back.0, earlier t (seen a).moment back.0 le (now back.0 (image_of_all (s.folder folder) back.0 back.1)), back.2))
        (leaves t image le left)

    within_same : (told : Option State) → IfTold told (λ s. Has (files_of (s.folder folder)))
        → IfTold told (λ before. IsSettled (before.folder folder) → (image : List File) → left_since b (seen a).moment folder image → IsFirstPart changes (files_of (before.folder folder)) image)
        → IfTold told (λ before. IsSettled (before.folder folder) → (image : List File) → left_since b (seen a).moment folder image → HaveOneNormalForm is_primary (files_of (before.folder folder)) image)
    within_same None has within = tt
    within_same (Some s) has within = λ is_settled image left. same.part (files_of (s.folder folder)) image has (within is_settled image left)

    pub keeps : (refusal : Option DiskRefusal) → IfTold (seen a).told (λ s. Has (files_of (s.folder folder)))
        → ((image : List File) → IfTold (seen a).told (λ s. IsImage (s.folder folder) image → left_since a (seen a).moment folder image))
        → ((since later : ℕ) (image : List File) → since ≤ later → left_since a later folder image → left_since a since folder image)
        → Changes seen left_since folder changes refusal a b → KeepsNormal seen left_since folder is_primary a b
    keeps refusal has now earlier done = record {
      stands = both_map (seen a) (seen b) folder (λ before. Has (files_of before)) (Stands refusal changes) (λ before after. HaveOneNormalForm is_primary (files_of before) (files_of after)) (stand_same refusal) has done.stands;
      leaves = leaves_same (seen a).told has now earlier done.leaves;
      within = within_same (seen a).told has done.within;
    }

-- no changes at all
pub keeps_none : (is_primary : Bool) → Keeps is_primary (λ _. ⊤) []
keeps_none is_primary = record {
  part = λ files part _ first. subst (HaveOneNormalForm is_primary files) (sym (first.1 ∙ nothing first.0 files)) (same_itself is_primary files);
  image = λ files image count _ survive. (image, subst (λ (fs : List File). Survive fs image) (nothing count files) survive, same_itself is_primary image);
}
  where
    nothing : (count : ℕ) (files : List File) → all_changed (take count []) files ≡ files
    nothing zero files = refl
    nothing (suc count) files = refl

-- the removal of what is obsolete
module _ (is_primary : Bool) (obsolete : List (List ℕ)) where
  pub keeps_removed : Keeps is_primary (λ files. AreObsolete is_primary (names_of files) obsolete) (map Remove obsolete)
  keeps_removed = record {
    part = λ files part are first. subst (HaveOneNormalForm is_primary files) (sym first.1) (part_normal is_primary obsolete files first.0 are);
    image = λ files image count are survive. image_normal is_primary obsolete files image count are survive;
  }

  -- once all are removed the folder is tidied
  pub tidied : (before after : Folder) → AreObsolete is_primary (names_of (files_of before)) obsolete → files_of after ≡ all_changed (map Remove obsolete) (files_of before) → IsTidied is_primary before after
  tidied before after are is =
      let files = files_of before in
      let left = none_left is_primary obsolete files are in
      record {
        obsolete = obsolete;
        are = are;
        removed = is;
        normal = subst (λ (fs : List File). IsNormalForm is_primary files fs) (sym is) (all_normal is_primary obsolete files are);
        none = λ names name directory is_obsolete.
            let same = one_directory (names_of (all_changed (map Remove obsolete) files)) names left.names (subst (λ (fs : List File). IsDirectory (names_of fs) names) is directory) left.directory in
            Contains-none (file_name_text name) ((left.all (file_name_text name)).1 (name, obsolete_same names left.names same is_primary name is_obsolete, refl));
        floor = λ names later floor directory directory_later is_floor.
            floor_stays is_primary obsolete files are names later directory (subst (λ (fs : List File). IsDirectory (names_of fs) later) is directory_later) floor is_floor;
      }
