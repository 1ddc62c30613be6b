-- A folder that was found by its name, and another one put in its place.
use Rattle.std.proofs.Common.{◌≡◌, ℕ, ◌+◌, ◌≤◌, Bool, true, false, cond, Option, Some, None, List, [], ◌∷◌, refl, sym, ◌∙◌, ap, subst, arith, map, sum_by}
use Rattle.std.specs.Prelude.{String, string_bytes}
use Rattle.std.specs.Cmp.Lexicographic.{nat_list_eq_equiv, same_text, slice_cmp}
use Rattle.std.specs.Map.{lookup, set_value, values_of}
use Rattle.std.specs.Ordering.{is_eq, nat_cmp}
use Rattle.std.specs.declared.alloc.Global.{Global}
use Rattle.std.proofs.lemmas.Map.Text.{is_eq-slice_cmp}
use Rattle.std.proofs.lemmas.List.Sums.{sum_by-cons}
use Rattle.std.proofs.lemmas.Option.{same_Some}
use Rattle.sw_disk.specs.Folder.{same_name}
use Rattle.sw_memdisk.specs.Disk.{kept_entries}
use Rattle.sw_memdisk.specs.Log.{Log, crashed_log}
use Rattle.sw_memdisk.specs.Memory.{Becomes, FolderModel, Kept, bytes_in, crashed_kept, empty_folder, folder_at, used_by}

-- the test by which a folder is looked up
abbrev pub is_named : List ℕ → String Global → Bool
is_named name key = is_eq (slice_cmp nat_cmp name (string_bytes key))

is_named_same : (name : List ℕ) (key : String Global) → is_named name key ≡ same_name (string_bytes key) name
is_named_same name key = is_eq-slice_cmp name (string_bytes key) ∙ nat_list_eq_equiv.symm name (string_bytes key)

abbrev pub Entries : Type 0
Entries = List (String Global × FolderModel)

abbrev pub or_empty : Option FolderModel → FolderModel
or_empty None = empty_folder
or_empty (Some folder) = folder

-- what is looked up
pub found_is : (name : List ℕ) (entries : Entries) → folder_at (kept_entries entries) name ≡ or_empty (lookup (is_named name) entries)
found_is name [] = refl
found_is name (entry ∷ entries) =
    ap (λ (b : Bool). cond b entry.1 (folder_at (kept_entries entries) name)) (sym (is_named_same name entry.0))
    ∙ elim (is_named name entry.0) as (λ b. cond b entry.1 (folder_at (kept_entries entries) name) ≡ or_empty (cond b (Some entry.1) (lookup (is_named name) entries))) [
      | true ↦ refl
      | false ↦ found_is name entries
    ]

twice : (b : Bool) (x y z : FolderModel) → cond b x z ≡ cond b x (cond b y z)
twice true x y z = refl
twice false x y z = refl

apart : (a b : Bool) (x y z : FolderModel) → (a ≡ true → b ≡ true → ⊥) → cond a x (cond b y z) ≡ cond b y (cond a x z)
apart true true x y z never = absurd (never refl refl)
apart true false x y z never = refl
apart false b x y z never = refl

no_value : (folder : FolderModel) → None ≡ Some folder → ⊥
no_value folder is = cc

-- the bytes of one folder and of the others
pub used_more : (kept : Kept) (folders : List Kept) → used_by (kept ∷ folders) ≡ bytes_in kept.folder + used_by folders
used_more kept folders = sum_by-cons (λ (k : Kept). bytes_in k.folder) kept folders

abbrev kept_entry : String Global × FolderModel → Kept
kept_entry entry = record { name = string_bytes entry.0; folder = entry.1 }

module _ (name : List ℕ) (folder : FolderModel) where
  abbrev set_in : Entries → Entries
  set_in entries = set_value (is_named name) entries folder

  -- in the first entry of the name
  set_first : (entry : String Global × FolderModel) (entries : Entries) (other : List ℕ) → same_name (string_bytes entry.0) name ≡ true
      → folder_at (kept_entries ((entry.0, folder) ∷ entries)) other ≡ cond (same_name other name) folder (folder_at (kept_entries (entry ∷ entries)) other)
  set_first entry entries other same =
      let rest : FolderModel = folder_at (kept_entries entries) other in
      let named : string_bytes entry.0 ≡ name = same_text (string_bytes entry.0) name (sym same) in
      let flip : same_name (string_bytes entry.0) other ≡ same_name other name = ap (λ (n : List ℕ). same_name n other) named ∙ nat_list_eq_equiv.symm name other in
      twice (same_name (string_bytes entry.0) other) folder entry.1 rest
      ∙ ap (λ (b : Bool). cond b folder (cond (same_name (string_bytes entry.0) other) entry.1 rest)) flip

  -- in a later one
  set_later : (entry : String Global × FolderModel) (entries : Entries) (other : List ℕ) → same_name (string_bytes entry.0) name ≡ false
      → folder_at (kept_entries (set_in entries)) other ≡ cond (same_name other name) folder (folder_at (kept_entries entries) other)
      → folder_at (kept_entries (entry ∷ set_in entries)) other ≡ cond (same_name other name) folder (folder_at (kept_entries (entry ∷ entries)) other)
  set_later entry entries other differs rest =
      let never : same_name (string_bytes entry.0) other ≡ true → same_name other name ≡ true → ⊥ = λ a b.
      let at : same_name (string_bytes entry.0) name ≡ true = subst (λ (n : List ℕ). same_name (string_bytes entry.0) n ≡ true) (same_text other name (sym b)) a in
      unequal (sym at ∙ differs) in
      ap (λ (f : FolderModel). cond (same_name (string_bytes entry.0) other) entry.1 f) rest
      ∙ apart (same_name (string_bytes entry.0) other) (same_name other name) entry.1 folder (folder_at (kept_entries entries) other) never
    where
      unequal : true ≡ false → ⊥
      unequal is = cc

  set_at : (entries : Entries) (old : FolderModel) → lookup (is_named name) entries ≡ Some old → (other : List ℕ)
      → folder_at (kept_entries (set_in entries)) other ≡ cond (same_name other name) folder (folder_at (kept_entries entries) other)
  set_at [] old found other = absurd (no_value old found)
  set_at (entry ∷ entries) old found other =
      elim (is_named name entry.0) as (λ b. is_named name entry.0 ≡ b → cond b (Some entry.1) (lookup (is_named name) entries) ≡ Some old
      → folder_at (kept_entries (cond b ((entry.0, folder) ∷ entries) (entry ∷ set_in entries))) other ≡ cond (same_name other name) folder (folder_at (kept_entries (entry ∷ entries)) other)) [
        | true ↦ λ is there. set_first entry entries other (sym (is_named_same name entry.0) ∙ is)
        | false ↦ λ is there. set_later entry entries other (sym (is_named_same name entry.0) ∙ is) (set_at entries old there other)
      ] refl found

  -- the bytes of all files
  set_used : (entries : Entries) (old : FolderModel) → lookup (is_named name) entries ≡ Some old → used_by (kept_entries (set_in entries)) + bytes_in old ≡ used_by (kept_entries entries) + bytes_in folder
  set_used [] old found = absurd (no_value old found)
  set_used (entry ∷ entries) old found =
      elim (is_named name entry.0) as (λ b. cond b (Some entry.1) (lookup (is_named name) entries) ≡ Some old
      → used_by (kept_entries (cond b ((entry.0, folder) ∷ entries) (entry ∷ set_in entries))) + bytes_in old ≡ used_by (kept_entries (entry ∷ entries)) + bytes_in folder) [
        | true ↦ λ there. omega (arith, ap bytes_in (same_Some entry.1 old there), used_more (kept_entry entry) (kept_entries entries), used_more (kept_entry (entry.0, folder)) (kept_entries entries))
        | false ↦ λ there. omega (arith, set_used entries old there, used_more (kept_entry entry) (kept_entries entries), used_more (kept_entry entry) (kept_entries (set_in entries)))
      ] found

bytes_within : (name : List ℕ) (entries : Entries) (old : FolderModel) → lookup (is_named name) entries ≡ Some old → bytes_in old ≤ used_by (kept_entries entries)
bytes_within name [] old found = absurd (no_value old found)
bytes_within name (entry ∷ entries) old found =
    elim (is_named name entry.0) as (λ b. cond b (Some entry.1) (lookup (is_named name) entries) ≡ Some old → bytes_in old ≤ used_by (kept_entries (entry ∷ entries))) [
      | true ↦ λ there. omega (arith, ap bytes_in (same_Some entry.1 old there), used_more (kept_entry entry) (kept_entries entries))
      | false ↦ λ there. omega (arith, bytes_within name entries old there, used_more (kept_entry entry) (kept_entries entries))
    ] found

-- a folder that was found becomes another
pub becomes_set : (name : List ℕ) (folder : FolderModel) (entries new : Entries) (old : FolderModel) → lookup (is_named name) entries ≡ Some old → new ≡ set_value (is_named name) entries folder
    → Becomes (kept_entries entries) (kept_entries new) name folder
becomes_set name folder entries new old found is =
    let at : folder_at (kept_entries entries) name ≡ old = found_is name entries ∙ ap or_empty found in
    let bytes : bytes_in (folder_at (kept_entries entries) name) ≡ bytes_in old = ap bytes_in at in
    let within = bytes_within name entries old found in
    subst (λ (e : Entries). Becomes (kept_entries entries) (kept_entries e) name folder) (sym is) (record {
      at = set_at name folder entries old found;
      used = omega (arith, set_used name folder entries old found, bytes, within);
      within = omega (arith, bytes, within);
    })

-- the folder that is found
pub at_found : (name : List ℕ) (entries : Entries) (old : FolderModel) → lookup (is_named name) entries ≡ Some old → folder_at (kept_entries entries) name ≡ old
at_found name entries old found = found_is name entries ∙ ap or_empty found

pub at_none : (name : List ℕ) (entries : Entries) → lookup (is_named name) entries ≡ None → folder_at (kept_entries entries) name ≡ empty_folder
at_none name entries none = found_is name entries ∙ ap or_empty none

abbrev pub folder_model : Log → ℕ → FolderModel
folder_model log room = record { log = log; room = room }

-- it becomes one with this record and room
pub becomes_found : (name : List ℕ) (entries new : Entries) (old folder : FolderModel) (log : Log) (room : ℕ) → lookup (is_named name) entries ≡ Some old → new ≡ set_value (is_named name) entries folder
    → folder.log ≡ log → folder.room ≡ room → Becomes (kept_entries entries) (kept_entries new) name (folder_model log room)
becomes_found name entries new old folder log room found is log_is room_is =
    let same : folder ≡ folder_model log room = λ i. record { log = log_is i; room = room_is i } in
    subst (Becomes (kept_entries entries) (kept_entries new) name) same (becomes_set name folder entries new old found is)

-- a folder that is not there becomes an empty one
pub becomes_none : (name : List ℕ) (folder : FolderModel) (entries new : Entries) → lookup (is_named name) entries ≡ None → new ≡ entries → folder ≡ empty_folder
    → Becomes (kept_entries entries) (kept_entries new) name folder
becomes_none name folder entries new none is empty =
    let at : folder_at (kept_entries entries) name ≡ empty_folder = found_is name entries ∙ ap or_empty none in
    let bytes : bytes_in (folder_at (kept_entries entries) name) ≡ 0 = ap bytes_in at in
    let no_bytes : bytes_in folder ≡ 0 = ap bytes_in empty in
    subst (λ (e : Entries). Becomes (kept_entries entries) (kept_entries e) name folder) (sym is) (record {
      at = λ other. pick other (same_name other name) refl;
      used = omega (arith, bytes, no_bytes);
      within = omega (arith, bytes);
    })
  where
    pick : (other : List ℕ) (b : Bool) → same_name other name ≡ b → folder_at (kept_entries entries) other ≡ cond b folder (folder_at (kept_entries entries) other)
    pick other true same = ap (folder_at (kept_entries entries)) (same_text other name (sym same)) ∙ found_is name entries ∙ ap or_empty none ∙ sym empty
    pick other false same = refl

-- the bytes of all files, folder by folder
pub used_by_values : (entries : Entries) → sum_by bytes_in (values_of entries) ≡ used_by (kept_entries entries)
used_by_values [] = refl
used_by_values (entry ∷ entries) =
    sum_by-cons bytes_in entry.1 (values_of entries)
    ∙ ap (λ (n : ℕ). bytes_in entry.1 + n) (used_by_values entries)
    ∙ sym (used_more (kept_entry entry) (kept_entries entries))

-- a folder is its record and its room
pub same_folder : (a b : FolderModel) → a.log ≡ b.log → a.room ≡ b.room → a ≡ b
same_folder a b log room = λ i. record { log = log i; room = room i }

abbrev pub crashed_model : ℕ → FolderModel → FolderModel
crashed_model pick folder = record folder { log = crashed_log pick folder.log }

-- a crash of each folder
pub crashed_entries : (pick : ℕ) (entries : Entries) → kept_entries (map (λ entry. (entry.0, crashed_model pick entry.1)) entries) ≡ map (crashed_kept pick) (kept_entries entries)
crashed_entries pick [] = refl
crashed_entries pick (entry ∷ entries) = ap (λ (kept : List Kept). kept_entry (entry.0, crashed_model pick entry.1) ∷ kept) (crashed_entries pick entries)
