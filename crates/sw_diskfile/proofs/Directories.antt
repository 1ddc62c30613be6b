-- Directories of the files of a folder after a change of names.
use Rattle.std.proofs.Common.{◌≡◌, ◌≢◌, ◌⊎◌, inl, inr, ⊎_elim, ◌↔◌, ℕ, Bool, true, false, cond, not, true≢false, Contains, List, [], ◌∷◌, ◌++◌, find, map, Some, IsSome, refl, sym, ap, subst, ◌∙◌}
use Rattle.std.specs.Cmp.Lexicographic.{bytes_decides, other_text, same_text}
use Rattle.std.proofs.lemmas.List.{map-append}
use Rattle.std.proofs.lemmas.List.Elements.{Contains-append_left, Contains-push, Contains-push_cases}
use Rattle.sw_disk.specs.Answers.{names_of}
use Rattle.sw_disk.specs.Folder.{File, Remove, changed, content_at, content_of, named, renamed, same_name}
use Rattle.sw_hashpath.specs.FileName.{IsFileName, file_name_text}
use Rattle.sw_hashpath.specs.declared.file_name.FileName.{FileName}
use Rattle.sw_hashpath.specs.declared.file_name.FileName.TheVariants.{Data}
use Rattle.sw_hashdir.specs.Directory.{IsDirectory}
use Rattle.sw_hashdir.specs.Obsolete.{IsAfter, IsWithout, Replaces}
use Rattle.sw_diskfile.proofs.Lists.{Contains-cases, Contains-first, Contains-later, Contains-map, Contains-none, kept, keeps, mapped}
use Rattle.sw_hashdir.proofs.Texts.{one_text}

abbrev name_of : File → List ℕ
name_of file = file.name

-- whether two names are the same, and what that says
pub same_or_other : (a b : List ℕ) → ((same_name a b ≡ true) × (a ≡ b)) ⊎ ((same_name a b ≡ false) × (a ≢ b))
same_or_other a b = told (same_name a b) refl
  where
    told : (is_same : Bool) → same_name a b ≡ is_same → ((same_name a b ≡ true) × (a ≡ b)) ⊎ ((same_name a b ≡ false) × (a ≢ b))
    told true e = inl (e, same_text a b (sym e))
    told false e = inr (e, other_text a b (sym e))

pub other_name : (a b : List ℕ) → a ≢ b → same_name a b ≡ false
other_name a b other = ⊎_elim (λ same. absurd (other same.1)) (λ differ. differ.0) (same_or_other a b)

pub passes_if_other : (a b : List ℕ) → (not (same_name a b) ≡ true) ↔ (a ≢ b)
passes_if_other a b = (λ passes same. true≢false (sym passes ∙ ap not ((bytes_decides a b).1 same)), λ other. ap not (other_name a b other))

-- ---- the names of files, and their content

pub has_content : (files : List File) (text : List ℕ) → Contains (names_of files) text → IsSome (content_at text files)
has_content [] text has = absurd (Contains-none text has)
has_content (file ∷ files) text has = ⊎_elim
    (λ same. found true same.0 refl)
    (λ other. found false other.0 (has_content files text (⊎_elim (λ here. absurd (other.1 here)) (λ later. later) (Contains-cases file.name (names_of files) text has))))
    (same_or_other file.name text)
  where
    found : (is_same : Bool) → same_name file.name text ≡ is_same → IsSome (content_of (cond is_same (Some file) (find (named text) files))) → IsSome (content_at text (file ∷ files))
    found is_same e some = subst (λ b. IsSome (content_of (cond b (Some file) (find (named text) files)))) (sym e) some

pub has_name : (files : List File) (text : List ℕ) → IsSome (content_at text files) → Contains (names_of files) text
has_name [] text some = absurd (true≢false (sym some))
has_name (file ∷ files) text some = ⊎_elim
    (λ same. subst (Contains (file.name ∷ names_of files)) same.1 (Contains-first file.name (names_of files)))
    (λ other. Contains-later file.name (names_of files) text (has_name files text (subst (λ b. IsSome (content_of (cond b (Some file) (find (named text) files)))) other.0 some)))
    (same_or_other file.name text)

-- ---- one file more

pub made_directory : (files : List File) (file : File) (made : FileName) (names after : List FileName) → IsDirectory (names_of files) names → IsFileName made → file.name ≡ file_name_text made
    → ((other : FileName) → Replaces made other → ⊥) → IsAfter made names after → IsDirectory (names_of (files ++ file ∷ [])) after
made_directory files file made names after is is_name same none is_after =
    subst (λ texts. IsDirectory texts after) (sym (map-append name_of files (file ∷ []))) (λ name. (
      λ there. ⊎_elim
          (λ here. (subst IsFileName (sym here) is_name, subst (Contains (names_of files ++ file.name ∷ [])) (same ∙ ap file_name_text (sym here)) (Contains-push (names_of files) file.name)))
          (λ before. let was = (is name).0 before.0 in (was.0, Contains-append_left (names_of files) (file.name ∷ []) (file_name_text name) was.1))
          ((is_after name).0 there),
      λ spelt. (is_after name).1 (⊎_elim
          (λ before. inr ((is name).1 (spelt.0, before), none name))
          (λ here. inl (one_text name made spelt.0 is_name (sym here ∙ same)))
          (Contains-push_cases (names_of files) file.name (file_name_text name) spelt.1)),
    ))

-- ---- one file removed

module _ (gone : List ℕ) (files : List File) where
  abbrev stays : File → Bool
  stays file = not (same_name file.name gone)

  pub removed_texts : (text : List ℕ) → Contains (names_of (changed (Remove gone) files)) text ↔ (Contains (names_of files) text × (text ≢ gone))
  removed_texts text = (
    λ there.
        let from = mapped name_of (changed (Remove gone) files) text there in
        let both = kept stays files from.0 from.1 in (
          subst (Contains (names_of files)) from.2 (Contains-map name_of files from.0 both.0),
          λ same. (passes_if_other from.0.name gone).0 both.1 (from.2 ∙ same),
        ),
    λ stay.
        let from = mapped name_of files text stay.0 in
        let passes = (passes_if_other from.0.name gone).1 (λ same. stay.1 (sym from.2 ∙ same)) in
        subst (Contains (names_of (changed (Remove gone) files))) from.2 (Contains-map name_of (changed (Remove gone) files) from.0 (keeps stays files from.0 from.1 passes)),
  )

pub dropped_directory : (files : List File) (gone : FileName) (names after : List FileName) → IsDirectory (names_of files) names → IsFileName gone → IsWithout gone names after
    → IsDirectory (names_of (changed (Remove (file_name_text gone)) files)) after
dropped_directory files gone names after is is_name without = λ name. (
  λ there.
      let stay = (without name).0 there in
      let was = (is name).0 stay.0 in
      (was.0, (removed_texts (file_name_text gone) files (file_name_text name)).1 (was.1, λ same. stay.1 (one_text name gone was.0 is_name same))),
  λ spelt.
      let stay = (removed_texts (file_name_text gone) files (file_name_text name)).0 spelt.1 in
      (without name).1 ((is name).1 (spelt.0, stay.0), λ same. stay.1 (ap file_name_text same)),
)

-- ---- one file renamed

module _ (from to : List ℕ) (files : List File) where
  new_name : (file : File) (is_same : Bool) → same_name file.name from ≡ is_same → name_of (renamed from to file) ≡ cond is_same to file.name
  new_name file is_same e = ap (λ b. cond b to file.name) e

  among : (file : File) (text : List ℕ) → Contains files file → name_of (renamed from to file) ≡ text → Contains (names_of (map (renamed from to) files)) text
  among file text there is = subst (Contains (names_of (map (renamed from to) files))) is
      (Contains-map name_of (map (renamed from to) files) (renamed from to file) (Contains-map (renamed from to) files file there))

  renamed_texts : (text : List ℕ) → Contains (names_of files) from → Contains (names_of (map (renamed from to) files)) text ↔ ((text ≡ to) ⊎ (Contains (names_of files) text × (text ≢ from)))
  renamed_texts text plain = (
    λ there.
        let new = mapped name_of (map (renamed from to) files) text there in
        let old = mapped (renamed from to) files new.0 new.1 in
        let is : name_of (renamed from to old.0) ≡ text = ap name_of old.2 ∙ new.2 in
        ⊎_elim
        (λ same. inl (sym is ∙ new_name old.0 true same.0))
        (λ other.
        let still : old.0.name ≡ text = sym (new_name old.0 false other.0) ∙ is in
        inr (subst (Contains (names_of files)) still (Contains-map name_of files old.0 old.1), λ same. other.1 (still ∙ same)))
        (same_or_other old.0.name from),
    λ either. ⊎_elim
        (λ here. let old = mapped name_of files from plain in among old.0 text old.1 (new_name old.0 true ((bytes_decides old.0.name from).1 old.2) ∙ sym here))
        (λ before. let old = mapped name_of files text before.0 in among old.0 text old.1 (new_name old.0 false (other_name old.0.name from (λ same. before.1 (sym old.2 ∙ same))) ∙ old.2))
        either,
  )

renamed_directory : (files : List File) (plain durable : FileName) (names after : List FileName) → IsDirectory (names_of files) names → IsFileName plain → IsFileName durable
    → IsSome (content_at (file_name_text plain) files) → ((name : FileName) → Contains after name ↔ ((name ≡ durable) ⊎ (Contains names name × (name ≢ plain))))
    → IsDirectory (names_of (map (renamed (file_name_text plain) (file_name_text durable)) files)) after
renamed_directory files plain durable names after is is_plain is_durable there is_after = λ name. (
  λ has. ⊎_elim
      (λ here. (subst IsFileName (sym here) is_durable, (texts name).1 (inl (ap file_name_text here))))
      (λ before. let was = (is name).0 before.0 in (was.0, (texts name).1 (inr (was.1, λ same. before.1 (one_text name plain was.0 is_plain same)))))
      ((is_after name).0 has),
  λ spelt. (is_after name).1 (⊎_elim
      (λ here. inl (one_text name durable spelt.0 is_durable here))
      (λ before. inr ((is name).1 (spelt.0, before.0), λ same. before.1 (ap file_name_text same)))
      ((texts name).0 spelt.1)),
)
  where
    texts : (name : FileName) → Contains (names_of (map (renamed (file_name_text plain) (file_name_text durable)) files)) (file_name_text name)
        ↔ ((file_name_text name ≡ file_name_text durable) ⊎ (Contains (names_of files) (file_name_text name) × (file_name_text name ≢ file_name_text plain)))
    texts name = renamed_texts (file_name_text plain) (file_name_text durable) files (file_name_text name) (has_name files (file_name_text plain) there)

pub durable_directory : (files : List File) (stamp index : ℕ) (names after : List FileName) → IsDirectory (names_of files) names → IsFileName (Data stamp index true)
    → IsSome (content_at (file_name_text (Data stamp index false)) files) → IsAfter (Data stamp index true) names after
    → IsDirectory (names_of (map (renamed (file_name_text (Data stamp index false)) (file_name_text (Data stamp index true))) files)) after
durable_directory files stamp index names after is is_name there is_after =
    renamed_directory files (Data stamp index false) (Data stamp index true) names after is is_name is_name there is_after
