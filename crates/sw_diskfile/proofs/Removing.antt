-- Files that are removed one after the other.
use Rattle.std.proofs.Common.{◌≡◌, ℕ, ◌+◌, ◌<◌, Bool, cond, List, [], ◌∷◌, ◌++◌, None, Global, String, drop, get_or, length, map, string_bytes, take, refl, sym, ap, subst, ◌∙◌, arith}
use Rattle.std.proofs.lemmas.List.{drop_more, map-append, map_push, take-append-drop, take_more}
use Rattle.sw_disk.specs.Answers.{names_of, texts_of}
use Rattle.sw_disk.specs.Calls.{Call, RemoveFile, SyncDir, Step, calls_in}
use Rattle.sw_disk.specs.Folder.{File, Remove, all_changed, changed, files_of}
use Rattle.sw_disk.specs.Runs.{IfTold, Past, Runs, Seen}
use Rattle.sw_disk.specs.State.{State, run}
use Rattle.sw_disk.proofs.Images.{same_name-refl}
use Rattle.sw_disk.proofs.Settling.{carry}
use Rattle.sw_diskfile.specs.Calls.{purge_calls}
use Rattle.sw_diskfile.specs.Normal.{AreObsolete}
use Rattle.sw_diskfile.proofs.Normal.{fewer}
use Rattle.sw_diskfile.proofs.Steps.{changes_by, run_files}

-- the calls that remove these files
abbrev pub removals : List ℕ → List (String Global) → List Call
removals folder names = map (RemoveFile folder) (texts_of names)

module _ (folder : List ℕ) (names : List (String Global)) (i : ℕ) (name : String Global) (less : i < length names) where
  pub next_text : texts_of (drop i names) ≡ string_bytes (get_or names i name) ∷ texts_of (drop (i + 1) names)
  next_text = ap texts_of (drop_more names i name less)

  pub more_removals : removals folder (take i names) ++ RemoveFile folder (string_bytes (get_or names i name)) ∷ [] ≡ removals folder (take (i + 1) names)
  more_removals =
      sym (map_push (RemoveFile folder) (texts_of (take i names)) (string_bytes (get_or names i name)))
      ∙ ap (map (RemoveFile folder)) (sym (map_push string_bytes (take i names) (get_or names i name)))
      ∙ ap (removals folder) (sym (take_more names i name less))

  pub all_removals : removals folder names ≡ removals folder (take (i + 1) names) ++ removals folder (drop (i + 1) names)
  all_removals =
      ap (removals folder) (sym (take-append-drop (i + 1) names))
      ∙ ap (map (RemoveFile folder)) (map-append string_bytes (take (i + 1) names) (drop (i + 1) names))
      ∙ map-append (RemoveFile folder) (texts_of (take (i + 1) names)) (texts_of (drop (i + 1) names))

-- once the first obsolete name is removed, the others are those that are obsolete
module _ {D : Type 0} (seen : D → Seen) (left_since : D → Past) (folder text : List ℕ) (rest : List (List ℕ)) (is_primary : Bool) (a b : D) where
  removed_files : (steps : List Step) (state : State) → calls_in steps ≡ RemoveFile folder text ∷ [] → files_of ((run steps state).folder folder) ≡ changed (Remove text) (files_of (state.folder folder))
  removed_files steps state is =
      run_files folder steps state
      ∙ ap (λ (calls : List Call). all_changed (changes_by folder calls state.temporary) (files_of (state.folder folder))) is
      ∙ ap (λ (same : Bool). all_changed (cond same (Remove text ∷ []) [] ++ []) (files_of (state.folder folder))) (same_name-refl folder)

  pub removed : Runs seen left_since (RemoveFile folder text ∷ []) None a b → IfTold (seen a).told (λ s. AreObsolete is_primary (names_of (files_of (s.folder folder))) (text ∷ rest))
      → IfTold (seen b).told (λ s. AreObsolete is_primary (names_of (files_of (s.folder folder))) rest)
  removed runs are =
      carry seen left_since (RemoveFile folder text ∷ []) a b (λ s. AreObsolete is_primary (names_of (files_of (s.folder folder))) (text ∷ rest)) (λ s. AreObsolete is_primary (names_of (files_of (s.folder folder))) rest) runs are
      (λ steps state is has. subst (λ (files : List File). AreObsolete is_primary (names_of files) rest) (sym (removed_files steps state is)) (fewer is_primary text rest (files_of (state.folder folder)) has))

-- ---- the calls of a purge

pub no_names : (names : List (String Global)) → length names ≡ 0 → names ≡ []
no_names [] none = refl
no_names (name ∷ names) none = absurd (omega (arith, none))

pub no_purge : (folder : List ℕ) (names : List (String Global)) → length names ≡ 0 → purge_calls folder (texts_of names) ≡ []
no_purge folder names none = ap (λ (l : List (String Global)). purge_calls folder (texts_of l)) (no_names names none)

pub some_purge : (folder : List ℕ) (names : List (String Global)) → (length names ≡ 0 → ⊥) → purge_calls folder (texts_of names) ≡ removals folder names ++ SyncDir folder ∷ []
some_purge folder [] some = absurd (some refl)
some_purge folder (name ∷ names) some = refl
