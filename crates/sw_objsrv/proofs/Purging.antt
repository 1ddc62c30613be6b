-- Folders in which nothing is obsolete, and changes that leave them so.
use Rattle.std.proofs.Common.{◌≡◌, ◌⊎◌, inl, inr, ⊎_elim, ℕ, zero, suc, Bool, Contains, List, [], ◌∷◌, map, take, Option, refl, sym, ap, subst, ◌∙◌, arith}
use Rattle.sw_disk.specs.Answers.{names_of}
use Rattle.sw_disk.specs.Folder.{Change, File, Folder, Remove, all_changed, changed, files_of}
use Rattle.sw_hashpath.specs.FileName.{file_name_text}
use Rattle.sw_hashpath.specs.declared.file_name.FileName.{FileName}
use Rattle.sw_hashdir.specs.Directory.{IsDirectory}
use Rattle.sw_hashdir.specs.Obsolete.{IsObsolete}
use Rattle.sw_hashdir.specs.declared.floor.Floor.{Floor}
use Rattle.sw_diskfile.specs.Changes.{IsFirstPart}
use Rattle.sw_diskfile.specs.Normal.{AreObsolete, IsNormalForm}
use Rattle.sw_diskfile.proofs.Lists.{Contains-none}
use Rattle.sw_diskfile.proofs.Normal.{all_normal, none_obsolete, part_normal}
use Rattle.sw_diskfile.proofs.Obsoletes.{obsolete_same, one_directory}
use Rattle.sw_objsrv.specs.Folder.{IsInOrder}
use Rattle.sw_objsrv.proofs.MadeFiles.{StaysMade, start_or_end}

-- ---- folders in which nothing is obsolete

-- the list of the obsolete names of these files is empty
abbrev pub IsTidy : Bool → List File → Type 0
IsTidy primary files = AreObsolete primary (names_of files) []

module _ (primary : Bool) where
  pub tidy_by : (files : List File) (names : List FileName) → IsDirectory (names_of files) names → ((name : FileName) → IsObsolete primary names name → ⊥) → IsTidy primary files
  tidy_by files names directory none = record {
    names = names;
    directory = directory;
    all = λ text. (λ has. absurd (Contains-none text has), λ is. absurd (none is.0 is.1));
    ascend = λ i j d less within. absurd (omega (arith, less, within));
  }

  -- in no directory of them is a name obsolete
  pub tidy_names : (files : List File) → IsTidy primary files → (names : List FileName) → IsDirectory (names_of files) names → (name : FileName) → IsObsolete primary names name → ⊥
  tidy_names files tidy names directory name obsolete =
      let same = one_directory (names_of files) names tidy.names directory tidy.directory in
      Contains-none (file_name_text name) ((tidy.all (file_name_text name)).1 (name, obsolete_same names tidy.names same primary name obsolete, refl))

  pub in_order_tidy : (floor : Option Floor) (folder : Folder) → IsInOrder primary floor folder → IsTidy primary (files_of folder)
  in_order_tidy floor folder in_order = tidy_by (files_of folder) in_order.names in_order.directory in_order.none_obsolete

  -- a folder in order is its own normal form
  pub in_order_normal : (floor : Option Floor) (folder : Folder) → IsInOrder primary floor folder → IsNormalForm primary (files_of folder) (files_of folder)
  in_order_normal floor folder in_order = none_obsolete primary (files_of folder) (in_order_tidy floor folder in_order)

  -- ---- no change, or one and then the removal of what it makes obsolete, which is nothing that it made

  abbrev pub ArePurging : List File → List Change → Type 0
  ArePurging files changes =
      (changes ≡ []) ⊎ ((change : Change) × (obsolete : List (List ℕ)) × (changes ≡ change ∷ map Remove obsolete) × AreObsolete primary (names_of (changed change files)) obsolete × StaysMade files change obsolete)

  module _ (files : List File) (changes : List Change) (purging : ArePurging files changes) (tidy : IsTidy primary files) where
    nothing : (count : ℕ) → all_changed (take count []) files ≡ files
    nothing zero = refl
    nothing (suc count) = refl

    -- some first part has the normal form of the start, or of the end
    pub purged_parts : (part : List File) → IsFirstPart changes files part → IsNormalForm primary part files ⊎ IsNormalForm primary part (all_changed changes files)
    purged_parts part first = ⊎_elim
        (λ none. inl (at_start (first.1 ∙ ap (λ (cs : List Change). all_changed (take first.0 cs) files) none ∙ nothing first.0)))
        (λ purge. by_count purge.0 purge.1 purge.2 purge.3 first.0 (first.1 ∙ ap (λ (cs : List Change). all_changed (take first.0 cs) files) purge.2))
        purging
      where
        at_start : part ≡ files → IsNormalForm primary part files
        at_start is = subst (λ (fs : List File). IsNormalForm primary fs files) (sym is) (none_obsolete primary files tidy)

        by_count : (change : Change) (obsolete : List (List ℕ)) → changes ≡ change ∷ map Remove obsolete → AreObsolete primary (names_of (changed change files)) obsolete → (count : ℕ)
            → part ≡ all_changed (take count (change ∷ map Remove obsolete)) files → IsNormalForm primary part files ⊎ IsNormalForm primary part (all_changed changes files)
        by_count change obsolete are obsolete_are zero is = inl (at_start is)
        by_count change obsolete are obsolete_are (suc count) is =
            let begun = changed change files in
            let end = all_changed (map Remove obsolete) begun in
            let form = (part_normal primary obsolete begun count obsolete_are end).0 (all_normal primary obsolete begun obsolete_are) in
            inr (subst (λ (cs : List Change). IsNormalForm primary part (all_changed cs files)) (sym are) (subst (λ (fs : List File). IsNormalForm primary fs end) (sym is) form))

    -- and each of its files is one of the start, or of the end
    pub purged_files : (part : List File) → IsFirstPart changes files part → (file : File) → Contains part file → Contains files file ⊎ Contains (all_changed changes files) file
    purged_files part first file has = ⊎_elim
        (λ none. inl (subst (λ (fs : List File). Contains fs file) (first.1 ∙ ap (λ (cs : List Change). all_changed (take first.0 cs) files) none ∙ nothing first.0) has))
        (λ purge.
        let is = first.1 ∙ ap (λ (cs : List Change). all_changed (take first.0 cs) files) purge.2 in
        subst (λ (cs : List Change). Contains files file ⊎ Contains (all_changed cs files) file) (sym purge.2)
        (start_or_end files purge.0 purge.1 purge.4 first.0 file (subst (λ (fs : List File). Contains fs file) is has)))
        purging
