-- Files in memory are those that contracts see: changes made in memory are changes of these.
use Rattle.std.proofs.Common.{◌≡◌, ◌∷◌, [], List, true, false, cond, not, map, refl, sym, ap, ◌∙◌}
use Rattle.std.proofs.lemmas.List.{map-append}
use Rattle.arrayvec.specs.ArrayString.{ArrayString}
use Rattle.sw_disk.specs.Folder.{Change, File, all_changed, changed, same_name}
use Rattle.sw_disk.specs.Folder as change
use Rattle.sw_memdisk.specs.Held.{all_moved, change_of, file_of, files_in, held_named, held_renamed, moved}
use Rattle.sw_memdisk.specs.declared.held.Held.{Held}
use Rattle.sw_memdisk.specs.declared.held.MemContent.{MemContent}
use Rattle.sw_memdisk.specs.declared.held.Move.{Move}
use Rattle.sw_memdisk.specs.declared.held.Move.TheVariants.{Publish, Rename, Remove}

module _ (contents : List MemContent) where
  renamed_is : (from to : ArrayString) (held : Held) → file_of contents (held_renamed from to held) ≡ change.renamed from.bytes to.bytes (file_of contents held)
  renamed_is from to held = elim (held_named from held) as (λ b. file_of contents (record held { name = cond b to held.name }) ≡ record (file_of contents held) { name = cond b to.bytes held.name.bytes }) [ true ↦ refl | false ↦ refl ]

  renamed_all : (from to : ArrayString) (files : List Held) → map (change.renamed from.bytes to.bytes) (files_in contents files) ≡ files_in contents (map (held_renamed from to) files)
  renamed_all from to [] = refl
  renamed_all from to (held ∷ files) = λ i. sym (renamed_is from to held) i ∷ renamed_all from to files i

  removed_all : (name : ArrayString) (files : List Held) → changed (change.Remove name.bytes) (files_in contents files) ≡ files_in contents (moved (Remove name) files)
  removed_all name [] = refl
  removed_all name (held ∷ files) =
      elim (held_named name held) as (λ b. cond (not b) (file_of contents held ∷ changed (change.Remove name.bytes) (files_in contents files)) (changed (change.Remove name.bytes) (files_in contents files)) ≡ files_in contents (cond (not b) (held ∷ moved (Remove name) files) (moved (Remove name) files))) [
        | true ↦ removed_all name files
        | false ↦ ap (λ (rest : List File). file_of contents held ∷ rest) (removed_all name files)
      ]

  -- one change
  pub moved_is : (move : Move) (files : List Held) → changed (change_of contents move) (files_in contents files) ≡ files_in contents (moved move files)
  moved_is (Publish held) files = sym (map-append (file_of contents) files (held ∷ []))
  moved_is (Rename from to) files = renamed_all from to files
  moved_is (Remove name) files = removed_all name files

  -- all of them
  pub all_moved_is : (moves : List Move) (files : List Held) → all_changed (map (change_of contents) moves) (files_in contents files) ≡ files_in contents (all_moved moves files)
  all_moved_is [] files = refl
  all_moved_is (move ∷ moves) files = ap (all_changed (map (change_of contents) moves)) (moved_is move files) ∙ all_moved_is moves (moved move files)
