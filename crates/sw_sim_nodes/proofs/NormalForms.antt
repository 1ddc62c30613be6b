-- The normal form of a folder is its own normal form, so it is that of both.
use Rattle.std.proofs.Common.{◌≡◌, ◌⊎◌, inl, inr, ⊎_elim, ℕ, zero, suc, ◌<◌, ◌≤◌, Bool, true, false, cond, not, Contains, List, [], ◌∷◌, length, refl, sym, ap, subst, ◌∙◌, arith}
use Rattle.sw_disk.specs.Answers.{names_of}
use Rattle.sw_disk.specs.Folder.{File, Remove, changed, same_name}
use Rattle.sw_hashpath.specs.declared.file_name.FileName.{FileName}
use Rattle.sw_hashdir.specs.Directory.{IsDirectory}
use Rattle.sw_diskfile.specs.Normal.{AreThoseLeft, HaveOneNormalForm, IsNormalForm, IsObsoleteText}
use Rattle.sw_diskfile.proofs.Directories.{same_or_other}
use Rattle.sw_diskfile.proofs.Lists.{Contains-cases, Contains-first, Contains-later, Contains-none}
use Rattle.sw_diskfile.proofs.Normal.{one_normal}
use Rattle.sw_diskfile.proofs.Removals.{directory_left, left_without, obsolete_left}

-- ---- the files that go

-- some file goes, or all are left
going : (Goes : List ℕ → Type 0) (files left : List File) → AreThoseLeft Goes files left → ((file : File) × Contains files file × Goes file.name) ⊎ (left ≡ files)
going Goes [] left none = inr none
going Goes (file ∷ files) left (inl goes) = inl (file, Contains-first file files, goes.0)
going Goes (file ∷ files) left (inr stays) = ⊎_elim
    (λ later. inl (later.0, Contains-later file files later.0 later.1, later.2))
    (λ all. inr (stays.2 ∙ ap (λ (rest : List File). file ∷ rest) all))
    (going Goes files stays.1 stays.3)

-- without its name there are fewer
module _ (name : List ℕ) where
  no_more : (files : List File) → length (changed (Remove name) files) ≤ length files
  no_more [] = omega arith
  no_more (file ∷ files) =
      let rest = no_more files in
      elim (same_name file.name name) as (λ b. length (cond (not b) (file ∷ changed (Remove name) files) (changed (Remove name) files)) ≤ suc (length files)) [
        | true ↦ omega (arith, rest)
        | false ↦ omega (arith, rest)
      ]

  fewer : (files : List File) (file : File) → Contains files file → file.name ≡ name → length (changed (Remove name) files) < length files
  fewer [] file has is = absurd (Contains-none file has)
  fewer (first ∷ files) file has is = ⊎_elim
      (λ same. without true same.0 (λ differs. absurd (cc)))
      (λ other. without false other.0 (λ _. fewer files file (⊎_elim (λ here. absurd (other.1 (ap (λ (f : File). f.name) here ∙ is))) (λ later. later) (Contains-cases first files file has)) is))
      (same_or_other first.name name)
    where
      without : (is_same : Bool) → same_name first.name name ≡ is_same → (is_same ≡ false → length (changed (Remove name) files) < length files) → length (changed (Remove name) (first ∷ files)) < length (first ∷ files)
      without true e rest = subst (λ b. length (cond (not b) (first ∷ changed (Remove name) files) (changed (Remove name) files)) < suc (length files)) (sym e) (omega (arith, no_more files))
      without false e rest = subst (λ b. length (cond (not b) (first ∷ changed (Remove name) files) (changed (Remove name) files)) < suc (length files)) (sym e) (omega (arith, rest refl))

-- ---- normal forms

module _ (primary : Bool) where
  -- what is obsolete goes one by one
  by_count : (count : ℕ) (files left : List File) (names : List FileName) → length files ≤ count → IsDirectory (names_of files) names → AreThoseLeft (IsObsoleteText primary names) files left → IsNormalForm primary left left
  by_count zero [] left names few directory are = subst (λ (fs : List File). IsNormalForm primary fs left) (sym are) (record { names = names; directory = directory; left = are })
  by_count zero (file ∷ files) left names few directory are = absurd (omega (arith, few))
  by_count (suc count) files left names few directory are = ⊎_elim
      (λ goes.
      let file = goes.0 in
      let text = goes.2 in
      let rest = directory_left files text.0 names directory ((directory text.0).0 text.1.0).0 file.name text.2 in
      let obsolete = obsolete_left primary files file.name names rest.0 directory rest.1 text in
      by_count count (changed (Remove file.name) files) left rest.0 (omega (arith, few, fewer file.name files file goes.1 refl)) rest.1
      (left_without (IsObsoleteText primary names) (IsObsoleteText primary rest.0) file.name text obsolete files left are))
      (λ all. subst (λ (fs : List File). IsNormalForm primary fs left) (sym all) (record { names = names; directory = directory; left = are }))
      (going (IsObsoleteText primary names) files left are)

  normal_itself : (files normal : List File) → IsNormalForm primary files normal → IsNormalForm primary normal normal
  normal_itself files normal is = by_count (length files) files normal is.names (omega arith) is.directory is.left

  pub one_form : (files normal : List File) → IsNormalForm primary files normal → HaveOneNormalForm primary files normal
  one_form files normal is form =
      let itself = normal_itself files normal is in (
        λ other. subst (IsNormalForm primary normal) (one_normal primary files normal form is other) itself,
        λ other. subst (IsNormalForm primary files) (one_normal primary normal normal form itself other) is,
      )
