-- Normal forms of folders while the files whose names are obsolete are removed one by one.
use Rattle.std.proofs.Common.{◌≡◌, ◌↔◌, inl, inr, ⊎_elim, ℕ, zero, suc, Bool, Contains, List, [], ◌∷◌, map, take, Option, IsSome, refl, sym, ap, subst, ◌∙◌}
use Rattle.sw_disk.specs.Answers.{names_of}
use Rattle.sw_disk.specs.Folder.{File, Remove, Survive, all_changed, changed, content_at}
use Rattle.sw_disk.proofs.Images.{survive-removed}
use Rattle.sw_hashpath.specs.declared.file_name.FileName.{FileName}
use Rattle.sw_hashdir.specs.Directory.{IsDirectory, IsFloor}
use Rattle.sw_hashdir.specs.declared.floor.Floor.{Floor}
use Rattle.sw_diskfile.specs.Normal.{AreObsolete, AreThoseLeft, HaveOneNormalForm, IsNormalForm, IsObsoleteText}
use Rattle.sw_diskfile.proofs.Directories.{has_content}
use Rattle.sw_diskfile.proofs.Lists.{Contains-cases, Contains-first, Contains-later, Contains-none, IsBefore, IsBefore-never, first_once, one_ascending, rest_ascend}
use Rattle.sw_diskfile.proofs.Obsoletes.{floor_same, obsolete_same, one_directory}
use Rattle.sw_diskfile.proofs.Removals.{all_left, directory_left, floor_left, left_with, left_without, obsolete_left}

-- the names of what survives are those of the files
survive_names : (files image : List File) → Survive files image → names_of image ≡ names_of files
survive_names [] [] s = refl
survive_names [] (i ∷ image) s = absurd s
survive_names (f ∷ files) [] s = absurd s
survive_names (f ∷ files) (i ∷ image) s = ap (λ n. n ∷ names_of image) s.0.name ∙ ap (λ ns. f.name ∷ ns) (survive_names files image s.1)

module _ (is_primary : Bool) where
  text_same : (texts : List (List ℕ)) (names others : List FileName) → IsDirectory texts names → IsDirectory texts others → (text : List ℕ) → IsObsoleteText is_primary names text → IsObsoleteText is_primary others text
  text_same texts names others first second text is = (is.0, obsolete_same names others (one_directory texts names others first second) is_primary is.0 is.1, is.2)

  -- of those that go in the same way the same are left
  one_left : (Goes Still : List ℕ → Type 0) → ((text : List ℕ) → Goes text ↔ Still text) → (files a b : List File) → AreThoseLeft Goes files a → AreThoseLeft Still files b → a ≡ b
  one_left Goes Still same [] a b first second = first ∙ sym second
  one_left Goes Still same (file ∷ files) a b (inl x) (inl y) = one_left Goes Still same files a b x.1 y.1
  one_left Goes Still same (file ∷ files) a b (inl x) (inr y) = absurd (y.0 ((same file.name).0 x.0))
  one_left Goes Still same (file ∷ files) a b (inr x) (inl y) = absurd (x.0 ((same file.name).1 y.0))
  one_left Goes Still same (file ∷ files) a b (inr x) (inr y) = x.2 ∙ ap (λ left. file ∷ left) (one_left Goes Still same files x.1 y.1 x.3 y.3) ∙ sym y.2

  pub one_normal : (files a b : List File) → IsNormalForm is_primary files a → IsNormalForm is_primary files b → a ≡ b
  one_normal files a b first second =
      one_left (IsObsoleteText is_primary first.names) (IsObsoleteText is_primary second.names)
      (λ text. (text_same (names_of files) first.names second.names first.directory second.directory text, text_same (names_of files) second.names first.names second.directory first.directory text))
      files a b first.left second.left

  pub one_list : (texts : List (List ℕ)) (a b : List (List ℕ)) → AreObsolete is_primary texts a → AreObsolete is_primary texts b → a ≡ b
  one_list texts a b first second = one_ascending a b first.ascend second.ascend (λ text. (
    λ has. (second.all text).1 (text_same texts first.names second.names first.directory second.directory text ((first.all text).0 has)),
    λ has. (first.all text).1 (text_same texts second.names first.names second.directory first.directory text ((second.all text).0 has)),
  ))

  pub removals_there : (obsolete : List (List ℕ)) (files : List File) → AreObsolete is_primary (names_of files) obsolete → (text : List ℕ) → Contains obsolete text → IsSome (content_at text files)
  removals_there obsolete files are text has =
      let is = (are.all text).0 has in
      has_content files text (subst (Contains (names_of files)) (sym is.2) ((are.directory is.0).0 is.1.0).1)

  pub none_obsolete : (files : List File) → AreObsolete is_primary (names_of files) [] → IsNormalForm is_primary files files
  none_obsolete files are = record {
    names = are.names;
    directory = are.directory;
    left = all_left (IsObsoleteText is_primary are.names) (λ text is. Contains-none text ((are.all text).1 is)) files;
  }

  -- ---- one removal

  module _ (name : List ℕ) (obsolete : List (List ℕ)) (files : List File) (are : AreObsolete is_primary (names_of files) (name ∷ obsolete)) where
    first : IsObsoleteText is_primary are.names name
    first = (are.all name).0 (Contains-first name obsolete)

    -- in whatever directory
    first_in : (names : List FileName) → IsDirectory (names_of files) names → IsObsoleteText is_primary names name
    first_in names is = text_same (names_of files) are.names names are.directory is name first

    -- what else is obsolete stays so
    pub fewer : AreObsolete is_primary (names_of (changed (Remove name) files)) obsolete
    fewer =
        let rest = directory_left files first.0 are.names are.directory ((are.directory first.0).0 first.1.0).0 name first.2 in
        let left = obsolete_left is_primary files name are.names rest.0 are.directory rest.1 first in
        record {
          names = rest.0;
          directory = rest.1;
          all = λ text. (
            λ has. (left text).1 ((are.all text).0 (Contains-later name obsolete text has), λ same. first_once IsBefore IsBefore-never name obsolete are.ascend (subst (Contains obsolete) same has)),
            λ is.
                let both = (left text).0 is in
                ⊎_elim (λ here. absurd (both.1 (sym here))) (λ later. later) (Contains-cases name obsolete text ((are.all text).1 both.0)),
          );
          ascend = rest_ascend IsBefore name obsolete are.ascend;
        }

    pub same_normal : HaveOneNormalForm is_primary files (changed (Remove name) files)
    same_normal normal = (
      λ form.
          let goes = first_in form.names form.directory in
          let left = obsolete_left is_primary files name form.names fewer.names form.directory fewer.directory goes in
          record {
            names = fewer.names;
            directory = fewer.directory;
            left = left_without (IsObsoleteText is_primary form.names) (IsObsoleteText is_primary fewer.names) name goes left files normal form.left;
          },
      λ form.
          let left = obsolete_left is_primary files name are.names form.names are.directory form.directory first in
          record {
            names = are.names;
            directory = are.directory;
            left = left_with (IsObsoleteText is_primary are.names) (IsObsoleteText is_primary form.names) name first left files normal form.left;
          },
    )

  -- ---- a first part of the removals, and all of them

  pub same_itself : (files : List File) → HaveOneNormalForm is_primary files files
  same_itself files normal = (λ form. form, λ form. form)

  pub same_trans : (a b c : List File) → HaveOneNormalForm is_primary a b → HaveOneNormalForm is_primary b c → HaveOneNormalForm is_primary a c
  same_trans a b c one two normal = (λ form. (two normal).0 ((one normal).0 form), λ form. (one normal).1 ((two normal).1 form))

  pub part_normal : (obsolete : List (List ℕ)) (files : List File) (count : ℕ) → AreObsolete is_primary (names_of files) obsolete → HaveOneNormalForm is_primary files (all_changed (take count (map Remove obsolete)) files)
  part_normal obsolete files zero are = same_itself files
  part_normal [] files (suc count) are = same_itself files
  part_normal (name ∷ obsolete) files (suc count) are =
      same_trans files (changed (Remove name) files) (all_changed (take count (map Remove obsolete)) (changed (Remove name) files))
      (same_normal name obsolete files are) (part_normal obsolete (changed (Remove name) files) count (fewer name obsolete files are))

  pub all_normal : (obsolete : List (List ℕ)) (files : List File) → AreObsolete is_primary (names_of files) obsolete → IsNormalForm is_primary files (all_changed (map Remove obsolete) files)
  all_normal [] files are = none_obsolete files are
  all_normal (name ∷ obsolete) files are =
      (same_normal name obsolete files are (all_changed (map Remove obsolete) (changed (Remove name) files))).1 (all_normal obsolete (changed (Remove name) files) (fewer name obsolete files are))

  pub none_left : (obsolete : List (List ℕ)) (files : List File) → AreObsolete is_primary (names_of files) obsolete → AreObsolete is_primary (names_of (all_changed (map Remove obsolete) files)) []
  none_left [] files are = are
  none_left (name ∷ obsolete) files are = none_left obsolete (changed (Remove name) files) (fewer name obsolete files are)

  -- what a crash leaves of a first part of them has the normal form of what it may leave with none
  pub image_normal : (obsolete : List (List ℕ)) (files image : List File) (count : ℕ) → AreObsolete is_primary (names_of files) obsolete → Survive (all_changed (take count (map Remove obsolete)) files) image
      → (before : List File) × Survive files before × HaveOneNormalForm is_primary before image
  image_normal obsolete files image zero are survive = (image, survive, same_itself image)
  image_normal [] files image (suc count) are survive = (image, survive, same_itself image)
  image_normal (name ∷ obsolete) files image (suc count) are survive =
      let later = image_normal obsolete (changed (Remove name) files) image count (fewer name obsolete files are) survive in
      let back = survive-removed name files later.0 later.1 in
      let texts = survive_names files back.before back.survive in
      let one = same_normal name obsolete back.before (subst (λ ts. AreObsolete is_primary ts (name ∷ obsolete)) (sym texts) are) in
      (back.before, back.survive, same_trans back.before later.0 image (subst (HaveOneNormalForm is_primary back.before) (sym back.is) one) later.2)

  pub floor_stays : (obsolete : List (List ℕ)) (files : List File) → AreObsolete is_primary (names_of files) obsolete → (names after : List FileName) → IsDirectory (names_of files) names
      → IsDirectory (names_of (all_changed (map Remove obsolete) files)) after → (floor : Option Floor) → IsFloor names floor → IsFloor after floor
  floor_stays [] files are names after is is_after floor has = floor_same names after (one_directory (names_of files) names after is is_after) floor has
  floor_stays (name ∷ obsolete) files are names after is is_after floor has =
      let less = fewer name obsolete files are in
      let still = floor_left is_primary files name names less.names is less.directory (first_in name obsolete files are names is) floor has in
      floor_stays obsolete (changed (Remove name) files) less less.names after less.directory is_after floor still
