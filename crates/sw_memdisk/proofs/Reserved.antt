-- Room is made in a folder, and it holds what it held.
use Rattle.std.proofs.Common.{◌≡◌, ℕ, ◌≤◌, Bool, true, false, cond, Option, Some, None, List, refl, sym, ◌∙◌, ap, subst, arith, sum_by}
use Rattle.std.specs.Prelude.{String, string_bytes}
use Rattle.std.specs.BTreeMap.{BTreeMap, IsOrdered, UpdatesBy, insert_entry}
use Rattle.std.specs.Cmp.Lexicographic.{nat_list_eq_equiv, same_text}
use Rattle.std.specs.Map.{lookup, set_value, values_of}
use Rattle.std.specs.Option.{option_map, unwrap_or}
use Rattle.std.specs.String.{string_cmp, string_cmp_total}
use Rattle.std.specs.declared.alloc.Global.{Global}
use Rattle.std.proofs.lemmas.Map.Entries.{sum_by-insert_entry}
use Rattle.std.proofs.lemmas.Map.Text.{btree_map_updates_text}
use Rattle.sw_disk.specs.Folder.{same_name}
use Rattle.sw_disk.specs.State.{size_of}
use Rattle.sw_memdisk.specs.Disk.{kept_entries, kept_in}
use Rattle.sw_memdisk.specs.Log.{Log, empty_log, folder_of}
use Rattle.sw_memdisk.specs.Memory.{FolderModel, IsRoomier, Kept, bytes_in, empty_folder, folder_at, log_at, room_at, used_by}
use Rattle.sw_memdisk.proofs.Lookups.{Entries, at_found, at_none, becomes_set, found_is, is_named, or_empty, used_by_values}

abbrev pub Folders : Type 0
Folders = BTreeMap (String Global) FolderModel

abbrev bytes_with : Log → ℕ
bytes_with log = size_of (folder_of log)

same_as_itself : (name : List ℕ) → same_name name name ≡ true
same_as_itself name = nat_list_eq_equiv.refl name

-- one folder becomes another with the same record
module _ (old new : List Kept) (name : List ℕ) (folder : FolderModel)
    (at : (other : List ℕ) → folder_at new other ≡ cond (same_name other name) folder (folder_at old other)) where
  pub at_name : folder_at new name ≡ folder
  at_name = at name ∙ ap (λ (b : Bool). cond b folder (folder_at old name)) (same_as_itself name)

  log_so : (other : List ℕ) (b : Bool) → same_name other name ≡ b → folder.log ≡ log_at old name → (cond b folder (folder_at old other)).log ≡ log_at old other
  log_so other true same log = log ∙ ap (log_at old) (sym (same_text other name (sym same)))
  log_so other false same log = refl

  room_so : (other : List ℕ) (b : Bool) → same_name other name ≡ b → room_at old name ≤ folder.room → room_at old other ≤ (cond b folder (folder_at old other)).room
  room_so other true same room = subst (λ (n : List ℕ). room_at old n ≤ folder.room) (sym (same_text other name (sym same))) room
  room_so other false same room = omega arith

  pub roomier : used_by new ≡ used_by old → folder.log ≡ log_at old name → room_at old name ≤ folder.room → IsRoomier old new
  roomier used log room = record {
    logs = λ other. ap (λ (f : FolderModel). f.log) (at other) ∙ log_so other (same_name other name) refl log;
    used = used;
    rooms = λ other. subst (λ (f : FolderModel). room_at old other ≤ f.room) (sym (at other)) (room_so other (same_name other name) refl room);
  }

-- the folder was found
module _ (name : List ℕ) (entries new : Entries) (old folder : FolderModel)
    (there : lookup (is_named name) entries ≡ Some old) (is : new ≡ set_value (is_named name) entries folder) where
  pub found_room : room_at (kept_entries new) name ≡ folder.room
  found_room = ap (λ (f : FolderModel). f.room) (at_name (kept_entries entries) (kept_entries new) name folder (becomes_set name folder entries new old there is).at)

  pub found_roomier : folder.log ≡ old.log → old.room ≤ folder.room → IsRoomier (kept_entries entries) (kept_entries new)
  found_roomier log room =
      let becomes = becomes_set name folder entries new old there is in
      let at : folder_at (kept_entries entries) name ≡ old = at_found name entries old there in
      let bytes : bytes_in folder ≡ bytes_in (folder_at (kept_entries entries) name) = ap bytes_with (log ∙ ap (λ (f : FolderModel). f.log) (sym at)) in
      let used : used_by (kept_entries new) ≡ used_by (kept_entries entries) = omega (arith, becomes.used, becomes.within, bytes) in
      roomier (kept_entries entries) (kept_entries new) name folder becomes.at used
      (log ∙ ap (λ (f : FolderModel). f.log) (sym at))
      (omega (arith, room, ap (λ (f : FolderModel). f.room) at))

-- the folder was not there, and one with no file was put in
module _ (name : List ℕ) (key : String Global) (folders new : Folders) (folder : FolderModel) (named : string_bytes key ≡ name)
    (none : lookup (is_named name) folders.entries ≡ None) (updates : UpdatesBy string_cmp (string_cmp key) folders new (Some folder)) where
  or_empty_cond : (b : Bool) (value : Option FolderModel) → or_empty (cond b (Some folder) value) ≡ cond b folder (or_empty value)
  or_empty_cond true value = refl
  or_empty_cond false value = refl

  put_at : (other : List ℕ) → folder_at (kept_in new) other ≡ cond (same_name other name) folder (folder_at (kept_in folders) other)
  put_at other =
      let flip : same_name (string_bytes key) other ≡ same_name other name = ap (λ (n : List ℕ). same_name n other) named ∙ nat_list_eq_equiv.symm name other in
      found_is other new.entries
      ∙ ap or_empty (btree_map_updates_text (string_bytes key) folders new (Some folder) updates other)
      ∙ or_empty_cond (same_name (string_bytes key) other) (lookup (is_named other) folders.entries)
      ∙ ap (λ (b : Bool). cond b folder (or_empty (lookup (is_named other) folders.entries))) flip
      ∙ ap (λ (f : FolderModel). cond (same_name other name) folder f) (sym (found_is other folders.entries))

  pub put_room : room_at (kept_in new) name ≡ folder.room
  put_room = ap (λ (f : FolderModel). f.room) (at_name (kept_in folders) (kept_in new) name folder put_at)

  pub put_roomier : IsOrdered string_cmp folders → new.entries ≡ insert_entry string_cmp folders.entries key folder → folder.log ≡ empty_log → IsRoomier (kept_in folders) (kept_in new)
  put_roomier ordered is log =
      let no_bytes : bytes_in folder ≡ 0 = ap bytes_with log in
      let at : folder_at (kept_in folders) name ≡ empty_folder = at_none name folders.entries none in
      let nothing : lookup (is_named (string_bytes key)) folders.entries ≡ None = subst (λ (n : List ℕ). lookup (is_named n) folders.entries ≡ None) (sym named) none in
      let sum = sum_by-insert_entry bytes_in string_cmp_total folders.entries key folder ordered in
      let used : used_by (kept_in new) ≡ used_by (kept_in folders)
      = omega (
        arith,
        sum,
        no_bytes,
        ap (λ (o : Option FolderModel). unwrap_or (option_map bytes_in o) 0) nothing,
        used_by_values folders.entries,
        used_by_values new.entries,
        ap (λ (es : Entries). sum_by bytes_in (values_of es)) is,
      ) in
      roomier (kept_in folders) (kept_in new) name folder put_at used
      (log ∙ ap (λ (f : FolderModel). f.log) (sym at))
      (omega (arith, ap (λ (f : FolderModel). f.room) at))
