-- What holds of each file of a folder, also after changes that keep it.
use Rattle.std.proofs.Common.{◌≡◌, inl, inr, ℕ, Bool, cond, not, List, [], ◌∷◌, map, Some, sym, subst}
use Rattle.std.specs.Prelude.{⊤}
use Rattle.std.specs.List.{All, find}
use Rattle.std.proofs.lemmas.List.Elements.{All-filter, All-head, All-map, All-push, All-tail, All-weaker}
use Rattle.std.proofs.lemmas.Option.{none-some, same_Some}
use Rattle.sw_disk.specs.Folder.{Change, Content, File, Publish, Remove, Rename, all_changed, changed, content_at, content_of, named, renamed, same_name}
use Rattle.sw_diskfile.proofs.Directories.{same_or_other}

module _ (P : File → Type 0) where
  -- a change keeps it: it holds of a file that is published, and of one that it holds of once that is renamed
  abbrev pub Keeps : Change → Type 0
  Keeps (Publish file) = P file
  Keeps (Rename from to) = (file : File) → file.name ≡ from → P file → P (record file { name = to })
  Keeps (Remove name) = ⊤

  renamed-kept : (from to : List ℕ) → Keeps (Rename from to) → (file : File) → P file → P (renamed from to file)
  renamed-kept from to keeps file is = elim (same_or_other file.name from) [
    | inl same ↦ subst (λ (b : Bool). P (record file { name = cond b to file.name })) (sym same.0) (keeps file same.1 is)
    | inr other ↦ subst (λ (b : Bool). P (record file { name = cond b to file.name })) (sym other.0) is
  ]

  changed-kept : (change : Change) (files : List File) → Keeps change → All P files → All P (changed change files)
  changed-kept (Publish file) files keeps all = All-push P files file all keeps
  changed-kept (Rename from to) files keeps all =
      All-map P (renamed from to) files (All-weaker P (λ (file : File). P (renamed from to file)) (renamed-kept from to keeps) files all)
  changed-kept (Remove name) files keeps all = All-filter (λ (file : File). not (same_name file.name name)) P files all

  pub all_changed-kept : (changes : List Change) (files : List File) → All Keeps changes → All P files → All P (all_changed changes files)
  all_changed-kept [] files keeps all = all
  all_changed-kept (change ∷ changes) files keeps all =
      all_changed-kept changes (changed change files) (All-tail Keeps change changes keeps) (changed-kept change files (All-head Keeps change changes keeps) all)

  pub removals-keep : (names : List (List ℕ)) → All Keeps (map Remove names)
  removals-keep names = All-map Keeps Remove names (λ k name within. tt)

  -- it holds of the file that has a name
  pub found_file : (files : List File) (name : List ℕ) (content : Content) → content_at name files ≡ Some content → All P files → (file : File) × P file × (file.name ≡ name) × (file.content ≡ content)
  found_file [] name content is all = absurd (none-some content is)
  found_file (file ∷ files) name content is all = elim (same_or_other file.name name) [
    | inl same ↦ (
      file,
      All-head P file files all,
      same.1,
      same_Some file.content content (subst (λ (b : Bool). content_of (cond b (Some file) (find (named name) files)) ≡ Some content) same.0 is),
    )
    | inr other ↦
        found_file files name content (subst (λ (b : Bool). content_of (cond b (Some file) (find (named name) files)) ≡ Some content) other.0 is) (All-tail P file files all)
  ]
