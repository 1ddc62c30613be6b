-- What is told of a line's basic events is the same each time.
use Rattle.std.proofs.Common.{◌≡◌, ℕ, Contains, List, [], ◌∷◌, ◌++◌, map, Some, refl, sym, ap, ap₂, subst, ◌∙◌}
use Rattle.std.specs.List.{AllZip}
use Rattle.std.proofs.lemmas.Option.{same_Some}
use Rattle.sw_disk.specs.Answers.{names_of}
use Rattle.sw_disk.specs.Folder.{Content, File}
use Rattle.sw_hashpath.specs.Place.{folder_of}
use Rattle.sw_hashdir.specs.Listing.{ListingModel}
use Rattle.sw_hashdir.specs.declared.entry.Entry.{Entry}
use Rattle.sw_diskfile.proofs.Lists.{Contains-first, Contains-later}
use Rattle.sw_diskfile.proofs.Obsoletes.{one_directory}
use Rattle.sw_archive.specs.Archive.{ArchiveModel, IsArchive}
use Rattle.sw_archive.proofs.Archives.{one_archive}
use Rattle.sw_ring.specs.Cluster.{ClusterModel, place_of_name}
use Rattle.sw_message.specs.Step.{Folders}
use Rattle.sw_message.proofs.Directories.{one_listing}
use Rattle.sw_law_scene.specs.Disks.{Sure}
use Rattle.sw_core.specs.Sound.{IsSoundWorld}
use Rattle.sw_core.specs.World.{World, numbered}
use Rattle.sw_core.proofs.Happening.{leads-sound}
use Rattle.sw_script.specs.declared.event.Event as script
use Rattle.sw_script.specs.declared.event.Event.TheVariants as event
use Rattle.sw_sim_exchange.specs.declared.lines.EndLine.{EndLine}
use Rattle.sw_sim_world.specs.declared.told.ShowLine.{ShowLine}
use Rattle.sw_sim_world.specs.declared.told.ShowLine.TheVariants.{Buried, Stored}
use Rattle.sw_sim_world.specs.declared.told.Told.{Told}
use Rattle.sw_sim_world.specs.ScriptedWorld.{AreSteps, ScriptedWorld, Step}
use Rattle.sw_sim_world.specs.Show.{IsShown, IsShownEntry, or_empty}
use Rattle.sw_sim_world.specs.Unfolding.{Ended, Tells, TellsEnd, TellsEnds, TellsShown, ended_from}
use Rattle.sw_sim_world.proofs.Ended.{ended_over}
use Rattle.sw_play.proofs.OneEnds.{one_end}

-- beside each item stands one
module _ {A B : Type 0} (R : A → B → Type 0) where
  zip_once : (xs : List A) → ((x : A) → Contains xs x → (y z : B) → R x y → R x z → y ≡ z) → (ys zs : List B) → AllZip R xs ys → AllZip R xs zs → ys ≡ zs
  zip_once [] once [] [] first second = refl
  zip_once [] once [] (z ∷ zs) first second = absurd second
  zip_once [] once (y ∷ ys) zs first second = absurd first
  zip_once (x ∷ xs) once [] zs first second = absurd first
  zip_once (x ∷ xs) once (y ∷ ys) [] first second = absurd second
  zip_once (x ∷ xs) once (y ∷ ys) (z ∷ zs) first second =
      ap₂ (λ (item : B) (items : List B). item ∷ items) (once x (Contains-first x xs) y z first.0 second.0) (zip_once xs (λ it has. once it (Contains-later x xs it has)) ys zs first.1 second.1)

-- ---- what is shown

module _ (device : ℕ) (files : List File) where
  entry_once : (entry : Entry) (one other : ShowLine) → IsShownEntry device files entry one → IsShownEntry device files entry other → one ≡ other
  entry_once entry one other x y =
      let content : x.content ≡ y.content = same_Some x.content y.content (sym x.there ∙ y.there) in
      let archive = one_archive y.content.bytes x.archive y.archive (subst (λ (it : Content). IsArchive it.bytes x.archive) content x.is_archive) y.is_archive in
      x.line_is ∙ ap (λ (it : ArchiveModel). Stored device entry it.payload) archive ∙ sym y.line_is

  shown_once : (one other : List ShowLine) → IsShown device files one → IsShown device files other → one ≡ other
  shown_once one other x y =
      let names = one_directory (names_of files) x.names y.names x.directory y.directory in
      let listing = one_listing x.names y.names names x.listing y.listing x.is_listing y.is_listing in
      let entries = zip_once (IsShownEntry device files) y.listing.entries (λ entry has a b. entry_once entry a b) x.entries y.entries
      (subst (λ (it : ListingModel). AllZip (IsShownEntry device files) it.entries x.entries) listing x.are_entries) y.are_entries in
      x.shown_is ∙ ap₂ (λ (lines : List ShowLine) (it : ListingModel). or_empty device (lines ++ map (Buried device) it.tombstones)) entries listing ∙ sym y.shown_is

same_folders : (one other : Folders) → Sure one ≡ Sure other → one ≡ other
same_folders one other same = cc

shows_once : (line : script.Event) (before : ScriptedWorld) (one other : List ShowLine) → TellsShown line before one → TellsShown line before other → one ≡ other
shows_once (event.Show device name) before one other (folders, is, shown) (others, also, shows) =
    let folder = folder_of (place_of_name before.world.scene.cluster name) in
    shown_once device (folders folder) one other shown (subst (λ (it : Folders). IsShown device (it folder) other) (sym (same_folders folders others (sym is ∙ also))) shows)
shows_once line before one other x y = x ∙ sym y

-- ---- ends

module _ (cluster : ClusterModel) where
  end_once : (world : World) → IsSoundWorld cluster world → (ended : Ended) → numbered world.operations ended.number ≡ Some ended.operation → (one other : EndLine) → TellsEnd ended one → TellsEnd ended other → one ≡ other
  end_once world sound ended there one other x y =
      let number = x.0 ∙ sym y.0 in
      let how = one_end ended.operation.begun ended.operation.past one.end other.end (sound.operations ended.number ended.operation there).valid x.1 y.1 in
      λ i. record { operation = number i; end = how i }

  ends_once : (steps : List Step) (before after : ScriptedWorld) (one other : List EndLine) → IsSoundWorld cluster before.world → AreSteps before steps after → TellsEnds before steps one → TellsEnds before steps other → one ≡ other
  ends_once [] before after one other sound are x y = x ∙ sym y
  ends_once (step ∷ steps) before after one other sound are (mine, others, whole, zips, tells) (its, later, all, also, rest) =
      let next = leads-sound cluster before.world (step.event ∷ []) step.after.world sound (step.after.world, are.0.happens, refl) in
      let ended = ended_from 1 before.world.operations step.after.world.operations in
      let first = zip_once TellsEnd ended (λ this has. end_once step.after.world next this (ended_over before.world.operations step.after.world.operations this has).0) mine its zips also in
      whole ∙ ap₂ (λ (these those : List EndLine). these ++ those) first (ends_once steps step.after after others later next are.1 tells rest) ∙ sym all

  -- ---- all that is told

  pub told_once : (line : script.Event) (before : ScriptedWorld) (steps : List Step) (after : ScriptedWorld) (one other : Told) → IsSoundWorld cluster before.world → AreSteps before steps after → Tells line before steps after one
      → Tells line before steps after other → one ≡ other
  told_once line before steps after one other sound are x y =
      let sent = x.sent ∙ sym y.sent in
      let ends = ends_once steps before after one.ends other.ends sound are x.ends y.ends in
      let shown = shows_once line before one.shown other.shown x.shown y.shown in
      λ i. record { sent = sent i; ends = ends i; shown = shown i }
