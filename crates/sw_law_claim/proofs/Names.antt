-- What a folder bears after a change of its names.
use Rattle.std.proofs.Common.{◌≡◌, inl, inr, ⊎_elim, ℕ, Bool, true, false, Contains, List, [], ◌∷◌, ◌++◌, map, refl, sym, ap, subst}
use Rattle.std.proofs.lemmas.List.{map-append}
use Rattle.std.proofs.lemmas.List.Elements.{Contains-append_left, Contains-push}
use Rattle.sw_disk.specs.Answers.{names_of}
use Rattle.sw_disk.specs.Folder.{Change, File, Remove, Rename, all_changed, changed}
use Rattle.sw_hashpath.specs.FileName.{IsFileName, file_name_text}
use Rattle.sw_hashpath.specs.declared.file_name.FileName.{FileName}
use Rattle.sw_hashpath.specs.declared.file_name.FileName.TheVariants.{Data}
use Rattle.sw_hashdir.specs.Directory.{IsDirectory}
use Rattle.sw_hashdir.specs.Obsolete.{IsAfter}
use Rattle.sw_hashdir.proofs.Texts.{one_text}
use Rattle.sw_diskfile.specs.Normal.{AreObsolete}
use Rattle.sw_diskfile.proofs.Decisions.{same_or_not}
use Rattle.sw_diskfile.proofs.Directories.{durable_directory, has_content, removed_texts}
use Rattle.sw_diskfile.proofs.Normal.{all_normal}
use Rattle.sw_message.specs.Table.{durable_text, plain_text}
use Rattle.sw_law_claim.specs.Claim.{Claim, IsBearing, IsBorneBy}
use Rattle.sw_law_claim.proofs.Bearing.{plain_bears}
use Rattle.sw_law_claim.proofs.Normal.{normal_bears}

module _ (primary : Bool) (claim : Claim) (files : List File) where
  -- with one file more
  pub more_bears : (file : File) → IsBorneBy primary claim files → IsBorneBy primary claim (files ++ file ∷ [])
  more_bears file borne = record {
    name = borne.name;
    spelt = borne.spelt;
    there = subst (λ (texts : List (List ℕ)). Contains texts (file_name_text borne.name)) (sym (map-append (λ (f : File). f.name) files (file ∷ [])))
        (Contains-append_left (names_of files) (file.name ∷ []) (file_name_text borne.name) borne.there);
    bearing = borne.bearing;
  }

  -- and what the name of that bears
  pub made_bears : (file : File) (made : FileName) → IsFileName made → file.name ≡ file_name_text made → IsBearing primary claim made → IsBorneBy primary claim (files ++ file ∷ [])
  made_bears file made spelt is bearing = record {
    name = made;
    spelt = spelt;
    there = subst (λ (texts : List (List ℕ)). Contains texts (file_name_text made)) (sym (map-append (λ (f : File). f.name) files (file ∷ [])))
        (subst (Contains (names_of files ++ file.name ∷ [])) is (Contains-push (names_of files) file.name));
    bearing = bearing;
  }

  -- without a name that does not bear it
  pub without_bears : (gone : FileName) → IsFileName gone → (IsBearing primary claim gone → ⊥) → IsBorneBy primary claim files → IsBorneBy primary claim (changed (Remove (file_name_text gone)) files)
  without_bears gone spelt not borne = record {
    name = borne.name;
    spelt = borne.spelt;
    there = (removed_texts (file_name_text gone) files (file_name_text borne.name)).1
        (borne.there, λ same. not (subst (IsBearing primary claim) (one_text borne.name gone borne.spelt spelt same) borne.bearing));
    bearing = borne.bearing;
  }

  -- without the names that are obsolete after a change
  pub purged_bears : (change : Change) (obsolete : List (List ℕ)) → AreObsolete primary (names_of (changed change files)) obsolete → IsBorneBy primary claim (changed change files)
      → IsBorneBy primary claim (all_changed (change ∷ map Remove obsolete) files)
  purged_bears change obsolete are borne =
      (normal_bears primary (changed change files) (all_changed (map Remove obsolete) (changed change files)) (all_normal primary obsolete (changed change files) are) claim).0 borne

  module _ (names : List FileName) (directory : IsDirectory (names_of files) names) where
    -- what a name in the folder bears
    pub there_bears : (name : FileName) → Contains names name → IsBearing primary claim name → IsBorneBy primary claim files
    there_bears name has bearing = let spelt = (directory name).0 has in record { name = name; spelt = spelt.0; there = spelt.1; bearing = bearing }

    -- with an entry durable that was not
    module _ (stamp index : ℕ) (later : List FileName) (has : Contains names (Data stamp index false)) (is_after : IsAfter (Data stamp index true) names later) where
      -- the files once it has its durable name
      abbrev renamed_files : List File
      renamed_files = changed (Rename (plain_text stamp index) (durable_text stamp index)) files

      -- its plain name was there
      plain : IsFileName (Data stamp index false) × Contains (names_of files) (plain_text stamp index)
      plain = (directory (Data stamp index false)).0 has

      -- what a name bears that is there then
      now : (name : FileName) → Contains later name → IsBearing primary claim name → IsBorneBy primary claim renamed_files
      now name there bearing =
          let spelt = (durable_directory files stamp index names later directory plain.0 (has_content files (plain_text stamp index) plain.1) is_after name).0 there in
          record { name = name; spelt = spelt.0; there = spelt.1; bearing = bearing }

      -- what the durable name bears
      pub renamed_bears : IsBearing primary claim (Data stamp index true) → IsBorneBy primary claim renamed_files
      renamed_bears = now (Data stamp index true) ((is_after (Data stamp index true)).1 (inl refl))

      -- and what was borne before
      pub durable_bears : IsBorneBy primary claim files → IsBorneBy primary claim renamed_files
      durable_bears borne = ⊎_elim
          (λ same. renamed_bears (plain_bears primary claim stamp index (subst (IsBearing primary claim) (one_text borne.name (Data stamp index false) borne.spelt plain.0 same) borne.bearing)))
          (λ differ. now borne.name ((is_after borne.name).1 (inr ((directory borne.name).1 (borne.spelt, borne.there), λ replaced. differ (ap file_name_text replaced)))) borne.bearing)
          (same_or_not (file_name_text borne.name) (plain_text stamp index))
