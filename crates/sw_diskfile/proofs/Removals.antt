-- Directories and obsolete names once the file of an obsolete one is removed, and the files that are left.
use Rattle.std.proofs.Common.{◌≡◌, ◌≢◌, inl, inr, ⊎_elim, ◌↔◌, ℕ, Bool, cond, not, List, [], ◌∷◌, filter, Option, refl, sym, ap, subst, ◌∙◌}
use Rattle.sw_disk.specs.Answers.{names_of}
use Rattle.sw_disk.specs.Folder.{File, Remove, changed, same_name}
use Rattle.sw_hashpath.specs.FileName.{IsFileName, file_name_text}
use Rattle.sw_hashpath.specs.declared.file_name.FileName.{FileName}
use Rattle.sw_hashdir.specs.Directory.{IsDirectory, IsFloor}
use Rattle.sw_hashdir.specs.declared.floor.Floor.{Floor}
use Rattle.sw_hashdir.specs.Obsolete.{IsWithout}
use Rattle.sw_diskfile.specs.Normal.{AreThoseLeft, IsObsoleteText}
use Rattle.sw_diskfile.proofs.Directories.{dropped_directory, passes_if_other, removed_texts, same_or_other}
use Rattle.sw_diskfile.proofs.Lists.{kept, keeps}
use Rattle.sw_diskfile.proofs.Obsoletes.{floor_still, obsolete_before, obsolete_still}
use Rattle.sw_hashdir.proofs.Texts.{one_text}

-- ---- directories

-- a folder has one, too, once a file is removed
module _ (files : List File) (gone : FileName) (names : List FileName) (is : IsDirectory (names_of files) names) (is_name : IsFileName gone) where
  abbrev differs : FileName → Bool
  differs name = not (same_name (file_name_text name) (file_name_text gone))

  filtered : IsWithout gone names (filter differs names)
  filtered name =
      let passes = passes_if_other (file_name_text name) (file_name_text gone) in (
        λ has. let both = kept differs names name has in (both.0, λ same. passes.0 both.1 (ap file_name_text same)),
        λ stay. keeps differs names name stay.0 (passes.1 (λ same. stay.1 (one_text name gone ((is name).0 stay.0).0 is_name same))),
      )

  pub directory_left : (text : List ℕ) → text ≡ file_name_text gone → (rest : List FileName) × IsDirectory (names_of (changed (Remove text) files)) rest
  directory_left text spelt = (
    filter differs names,
    subst (λ t. IsDirectory (names_of (changed (Remove t) files)) (filter differs names)) (sym spelt) (dropped_directory files gone names (filter differs names) is is_name filtered),
  )

-- and each that it has is without the name
without : (files : List File) (text : List ℕ) (gone : FileName) (names rest : List FileName) → IsDirectory (names_of files) names → IsDirectory (names_of (changed (Remove text) files)) rest
    → IsFileName gone → text ≡ file_name_text gone → IsWithout gone names rest
without files text gone names rest is is_rest is_name spelt = λ name. (
  λ has.
      let there = (is_rest name).0 has in
      let stay = (removed_texts text files (file_name_text name)).0 there.1 in
      ((is name).1 (there.0, stay.0), λ same. stay.1 (ap file_name_text same ∙ sym spelt)),
  λ stay.
      let there = (is name).0 stay.0 in
      (is_rest name).1 (there.0, (removed_texts text files (file_name_text name)).1 (there.1, λ same. stay.1 (one_text name gone there.0 is_name (same ∙ spelt)))),
)

-- ---- the floor, and what is obsolete

module _ (is_primary : Bool) (files : List File) (text : List ℕ) (names rest : List FileName) (is : IsDirectory (names_of files) names) (is_rest : IsDirectory (names_of (changed (Remove text) files)) rest) (obsolete : IsObsoleteText is_primary names text) where
  is_name : IsFileName obsolete.0
  is_name = ((is obsolete.0).0 obsolete.1.0).0

  is_without : IsWithout obsolete.0 names rest
  is_without = without files text obsolete.0 names rest is is_rest is_name obsolete.2

  pub floor_left : (floor : Option Floor) → IsFloor names floor → IsFloor rest floor
  floor_left = floor_still is_primary obsolete.0 names rest is_without obsolete.1

  pub obsolete_left : (other : List ℕ) → IsObsoleteText is_primary rest other ↔ (IsObsoleteText is_primary names other × (other ≢ text))
  obsolete_left other = (
    λ left.
        let both = obsolete_before is_primary obsolete.0 names rest is_without obsolete.1 left.0 left.1 in
        ((left.0, both.0, left.2), λ same. both.1 (one_text left.0 obsolete.0 ((is left.0).0 both.0.0).0 is_name (sym left.2 ∙ same ∙ obsolete.2))),
    λ both.
        let was = both.0 in
        (was.0, obsolete_still is_primary obsolete.0 names rest is_without obsolete.1 was.0 was.1 (λ same. both.1 (was.2 ∙ ap file_name_text same ∙ sym obsolete.2)), was.2),
  )

-- ---- files

-- the files that do not go are those that are left, whether one that goes is removed before or not
module _ (Goes Still : List ℕ → Type 0) (text : List ℕ) (goes : Goes text) (still : (other : List ℕ) → Still other ↔ (Goes other × (other ≢ text))) where
  abbrev IsLeftIf : File → (files left : List File) → Bool → Type 0
  IsLeftIf file files left is_same = AreThoseLeft Still (cond (not is_same) (file ∷ changed (Remove text) files) (changed (Remove text) files)) left

  pub left_without : (files left : List File) → AreThoseLeft Goes files left → AreThoseLeft Still (changed (Remove text) files) left
  left_without [] left is = is
  left_without (file ∷ files) left is = ⊎_elim
      (λ same. subst (IsLeftIf file files left) (sym same.0)
      (⊎_elim (λ gone. left_without files left gone.1) (λ stays. absurd (stays.0 (subst Goes (sym same.1) goes))) is))
      (λ other. subst (IsLeftIf file files left) (sym other.0) (⊎_elim
      (λ gone. inl ((still file.name).1 (gone.0, other.1), left_without files left gone.1))
      (λ stays. inr (λ s. stays.0 ((still file.name).0 s).0, stays.1, stays.2, left_without files stays.1 stays.3))
      is))
      (same_or_other file.name text)

  pub left_with : (files left : List File) → AreThoseLeft Still (changed (Remove text) files) left → AreThoseLeft Goes files left
  left_with [] left is = is
  left_with (file ∷ files) left is = ⊎_elim
      (λ same. inl (subst Goes (sym same.1) goes, left_with files left (subst (IsLeftIf file files left) same.0 is)))
      (λ other. ⊎_elim
      (λ gone. inl (((still file.name).0 gone.0).0, left_with files left gone.1))
      (λ stays. inr (λ g. stays.0 ((still file.name).1 (g, other.1)), stays.1, stays.2, left_with files stays.1 stays.3))
      (subst (IsLeftIf file files left) other.0 is))
      (same_or_other file.name text)

pub all_left : (Goes : List ℕ → Type 0) → ((text : List ℕ) → Goes text → ⊥) → (files : List File) → AreThoseLeft Goes files files
all_left Goes none [] = refl
all_left Goes none (file ∷ files) = inr (none file.name, files, refl, all_left Goes none files)
