use Rattle.std.proofs.Common.{◌≡◌, ℕ, ◌++◌, List, map, vec_len, sym, ap, subst, ◌∙◌}
use borrow.Author.Tests.{eqb-false, eqb-true}
use Rattle.std.specs.List.{All, AllZip}
use Rattle.std.proofs.lemmas.List.Elements.{All-weaker}
use Rattle.sw_disk.specs.Answers.{IsListing, names_of, texts_of}
use Rattle.sw_disk.specs.Folder.{File}
use Rattle.sw_hashdir.specs.Directory.{IsDirectory}
use Rattle.sw_hashdir.specs.declared.entry.Entry.{Entry}
use Rattle.sw_hashpath.specs.Place.{folder_of}
use Rattle.sw_memdisk.specs.Lent.{LendsFiles}
use Rattle.sw_memdisk.specs.Log.{files_now}
use Rattle.sw_memdisk.specs.Memory.{log_at}
use Rattle.sw_sim_world.specs.declared.told.ShowLine.TheVariants.{Buried}
use Rattle.sw_sim_world.specs.Show.{HasArchive, IsShownEntry, or_empty}
use Rattle.sw_sim_world.proofs.ShownLines.{all_shown, archive_lent, lines_shown, no_line, some_line}
use Rattle.sw_sim_world.proofs.ShownNames.{HasNameOf, entries_named, same_directory}
use Rattle.sw_sim_world.proofs.show.shown.Goals as goal
use Rattle.sw_sim_world.proofs.show.shown.Goals.{After-entries, then-is_empty+in_ok-push, else-is_empty}

-- the files of the folder
abbrev files : After-entries → List File
files c = files_now (log_at c.args.disk.now.folders (folder_of c.args.place))

listed : (c : After-entries) → IsListing (names_of (files c)) (texts_of c.in_ok-names.names.items)
listed c =
    subst (λ (folder : List ℕ). IsListing (names_of (files_now (log_at c.args.disk.now.folders folder))) (texts_of c.in_ok-names.names.items)) (c.as_str.ensures.value ∙ c.in_ok-folder.ensures) c.in_ok-names.ensures

directory : (c : After-entries) → IsDirectory (texts_of c.in_ok-names.names.items) c.in_ok-directory.directory
directory c = subst (λ names. IsDirectory (texts_of names) c.in_ok-directory.directory) c.deref.ensures.value c.in_ok-directory.ensures

lends : (c : After-entries) → LendsFiles (files c) c.in_ok-lent.lent
lends c = subst (λ (folder : List ℕ). LendsFiles (files_now (log_at c.args.disk.now.folders folder)) c.in_ok-lent.lent) (c.as_str-2.ensures.value ∙ c.in_ok-folder.ensures) c.in_ok-lent.ensures

pub stored_lines-requires : goal.stored_lines-requires
stored_lines-requires c =
    let after = (goal.at.stored_lines-requires c).After-entries in
    let named = entries_named (names_of (files after)) c.in_ok-directory.directory c.in_ok-listing.listing (same_directory (names_of (files after)) _ c.in_ok-directory.directory (listed after) (directory after)) c.in_ok-listing.ensures in
    subst (All (HasArchive c.in_ok-lent.lent)) (sym c.entries.ensures)
    (All-weaker (HasNameOf (names_of (files after))) (HasArchive c.in_ok-lent.lent) (archive_lent (files after) c.in_ok-lent.lent (lends after) c.requires) c.in_ok-listing.listing.entries named)

pub returns : goal.returns
returns c =
    let after = (goal.at.returns c).After-entries in
    let lines = c.push_buried.new.lines in
    let shown : c.if-is_empty.lines.items ≡ or_empty c.args.device lines.items = elim c.if-is_empty.branch [
      | then-is_empty+in_ok-push w ↦
          let none = sym lines.ok.0 ∙ eqb-true (vec_len lines) 0 (sym w.if-is_empty.ensures) in
          ap (λ v. v.items) w.lines-is ∙ w.in_ok-push.ensures.items ∙ sym (no_line c.args.device lines.items none)
      | else-is_empty w ↦
          let some = eqb-false (vec_len lines) 0 (sym w.if-is_empty.ensures) in
          ap (λ v. v.items) w.lines-is ∙ sym (some_line c.args.device lines.items (λ none. some (lines.ok.0 ∙ none)))
    ] in
    let are = lines_shown (files after) c.in_ok-lent.lent (lends after) c.args.device c.entries.result.now c.in_ok-lines.lines.items c.in_ok-lines.ensures in
    let all = subst (λ (entries : List Entry). AllZip (IsShownEntry c.args.device (files after)) entries c.in_ok-lines.lines.items) c.entries.ensures are in
    let buried : lines.items ≡ c.in_ok-lines.lines.items ++ map (Buried c.args.device) c.in_ok-listing.listing.tombstones
    = c.in_ok-push_buried.ensures ∙ ap (λ (stamps : List ℕ). c.in_ok-lines.lines.items ++ map (Buried c.args.device) stamps) c.tombstones.ensures in
    all_shown c.args.device (files after) _ c.in_ok-directory.directory c.in_ok-listing.listing c.in_ok-lines.lines.items c.from.result (listed after) (directory after) c.in_ok-listing.ensures all
    (c.from.ensures ∙ shown ∙ ap (or_empty c.args.device) buried)
