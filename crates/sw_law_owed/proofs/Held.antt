-- What a disk may hold after a mount, a failure and a crash: each name is by a step, where it was so before.
use Rattle.std.proofs.Common.{inl, inr, ℕ, Contains, refl, sym, subst}
use Rattle.sw_disk.specs.Answers.{names_of}
use Rattle.sw_hashpath.specs.FileName.{file_name_text}
use Rattle.sw_hashpath.specs.Place.{folder_of}
use Rattle.sw_diskfile.proofs.Lists.{Contains-map, mapped}
use Rattle.sw_message.specs.Message.{IsPlaceOf, place_in}
use Rattle.sw_message.specs.Step.{Folders}
use Rattle.sw_message.specs.declared.message.Msg.{Msg}
use Rattle.sw_message.specs.declared.reply.Reply.{Reply}
use Rattle.sw_objsrv.specs.Handling.{IsStamped}
use Rattle.sw_law_claim.proofs.Normal.{left_before}
use Rattle.sw_law_scene.specs.Devices.{IsDeviceStep}
use Rattle.sw_law_scene.specs.Disks.{Disk, IsFailedBy, IsFoundOn, IsHeldWithin, IsLeftOf, IsMounted, IsSide, Sure, Undecided}
use Rattle.sw_law_scene.specs.Scene.{Scene}
use Rattle.sw_law_owed.specs.Decided.{AreNamesBy, IsMessageBy}
use Rattle.sw_law_owed.proofs.Named.{name_in}
use Rattle.sw_law_owed.proofs.Steps.{stepped}

module _ (scene : Scene) (by : ℕ) where
  abbrev Names : Folders → Type 0
  Names = AreNamesBy scene by

  -- whatever a disk may hold has such names
  abbrev pub DiskNames : Disk → Type 0
  DiskNames disk = (side : Folders) → IsSide disk side → Names side

  -- where it is sure, and where it is not
  pub sure_names : (folders : Folders) → Names folders → DiskNames (Sure folders)
  sure_names folders names side is = subst Names (sym is) names

  undecided_names : (before after : Folders) → Names before → Names after → DiskNames (Undecided before after)
  undecided_names before after first second side (inl is) = subst Names (sym is) first
  undecided_names before after first second side (inr is) = subst Names (sym is) second

  module _ (device : ℕ) where
    -- a mount makes none
    pub mounted_names : (before after : Folders) → IsMounted scene.cluster device before after → Names before → Names after
    mounted_names before after is names = λ place name is_place spelt has.
        names place name is_place spelt (left_before _ (before (folder_of place)) (after (folder_of place)) (is.normal place is_place).left (file_name_text name) has)

    -- so does what a device works on
    pub found_names : (disk : Disk) (found : Folders) → IsFoundOn scene.cluster device disk found → DiskNames disk → Names found
    found_names (Sure folders) found is names = names found is
    found_names (Undecided before after) found (inl mounted) names = mounted_names before found mounted (names before (inl refl))
    found_names (Undecided before after) found (inr mounted) names = mounted_names after found mounted (names after (inr refl))

    -- and what a crash leaves
    pub left_names : (These : Folders → Type 0) (image : Folders) → IsLeftOf scene.cluster device These image → ((these : Folders) → These these → Names these) → Names image
    left_names These image is names = λ place name is_place spelt has.
        let file = mapped name_in (image (folder_of place)) (file_name_text name) has in
        let from = is.files place file.0 is_place file.1 in
        names from.0 from.1 place name is_place spelt (subst (Contains (names_of (from.0 (folder_of place)))) file.2 (Contains-map name_in (from.0 (folder_of place)) file.0 from.2))

    -- ---- what happens within a handling

    module _ (msg : Msg) (right : IsPlaceOf scene.cluster (place_in msg)) (stamped : IsStamped msg) (may : IsMessageBy scene by msg) where
      step_names : (answer : Reply) (before after : Folders) → Names before → IsDeviceStep scene.cluster device msg answer before after → Names after
      step_names answer before after names step = (stepped scene by before after names device msg answer right stamped may step).0

      -- whatever a disk may hold within it
      pub held_names : (disk : Disk) → DiskNames disk → (these : Folders) → IsHeldWithin scene.cluster device msg disk these → Names these
      held_names disk names these (inl side) = names these side
      held_names disk names these (inr (found, answer, is_found, step)) = step_names answer found these (found_names disk found is_found names) step

      -- and once it failed
      pub failed_names : (before after : Disk) → IsFailedBy scene.cluster device msg before after → DiskNames before → DiskNames after
      failed_names (Sure folders) failed (answer, after, step, same) names =
          subst DiskNames (sym same) (undecided_names folders after (names folders refl) (step_names answer folders after (names folders refl) step))
      failed_names (Undecided before after) failed (inl same) names = subst DiskNames (sym same) names
      failed_names (Undecided before after) failed (inr (found, later, answer, is_found, step, same)) names =
          let here = found_names (Undecided before after) found is_found names in
          subst DiskNames (sym same) (undecided_names found later here (step_names answer found later here step))
