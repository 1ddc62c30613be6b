-- Obsolete names that were printed, in their order.
use Rattle.std.proofs.Common.{◌≡◌, ◌↔◌, ℕ, ◌<◌, ◌≤◌, Bool, List, [], ◌∷◌, Contains, Global, String, get_or, length, map, string_bytes, sym, ap, subst, ◌∙◌, arith}
use Rattle.std.specs.List.{All, AllPairs}
use Rattle.std.proofs.lemmas.List.{get_or-map, length-map}
use Rattle.std.proofs.lemmas.List.Elements.{All-contains_itself}
use Rattle.sw_disk.specs.Answers.{texts_of}
use Rattle.sw_hashpath.specs.FileName.{IsFileName, file_name_text}
use Rattle.sw_hashpath.specs.declared.file_name.FileName.{FileName}
use Rattle.sw_hashdir.specs.Listing.{IsTextBefore}
use Rattle.sw_hashdir.specs.Obsolete.{IsObsolete}
use Rattle.sw_diskfile.specs.Normal.{IsObsoleteText}
use Rattle.sw_diskfile.proofs.FileTexts.{short_text}
use Rattle.sw_diskfile.proofs.Lists.{Contains-map, IsBefore, mapped}

module _ (texts : List (String Global)) (found : List FileName) (printed : texts_of texts ≡ map file_name_text found) where
  pub printed_all : (is_primary : Bool) (names : List FileName) → ((name : FileName) → Contains found name ↔ IsObsolete is_primary names name) → (text : List ℕ) → Contains (texts_of texts) text ↔ IsObsoleteText is_primary names text
  printed_all is_primary names obsolete text = (
    λ has.
        let name = mapped file_name_text found text (subst (λ ts. Contains ts text) printed has) in
        (name.0, (obsolete name.0).0 name.1, sym name.2),
    λ is. subst (λ ts. Contains ts text) (sym printed) (subst (Contains (map file_name_text found)) (sym is.2) (Contains-map file_name_text found is.0 ((obsolete is.0).1 is.1))),
  )

  pub printed_short : ((name : FileName) → Contains found name → IsFileName name) → All (λ text. length (string_bytes text) ≤ 96) texts
  printed_short named k d lt = short found printed within named
    where
      within : k < length found
      within = let e = sym (length-map texts string_bytes) ∙ ap length printed ∙ length-map found file_name_text in omega (arith, lt, e)

      short : (names : List FileName) → texts_of texts ≡ map file_name_text names → k < length names → ((name : FileName) → Contains names name → IsFileName name) → length (string_bytes (get_or texts k d)) ≤ 96
      short [] same inside is = absurd (omega arith)
      short (first ∷ names) same inside is =
          let name = get_or (first ∷ names) k first in
          let text : string_bytes (get_or texts k d) ≡ file_name_text name =
          sym (get_or-map string_bytes texts k d [] lt) ∙ ap (λ (ts : List (List ℕ)). get_or ts k []) same ∙ get_or-map file_name_text (first ∷ names) k first [] inside in
          subst (λ (t : List ℕ). length t ≤ 96) (sym text) (short_text name (is name (All-contains_itself (first ∷ names) k first inside)))

  pub printed_ascend : AllPairs IsTextBefore found → AllPairs IsBefore (texts_of texts)
  printed_ascend ascend = subst (AllPairs IsBefore) (sym printed) (mapped_ascend found ascend)
    where
      mapped_ascend : (names : List FileName) → AllPairs IsTextBefore names → AllPairs IsBefore (map file_name_text names)
      mapped_ascend [] ascend i j d lt within = absurd (omega arith)
      mapped_ascend (first ∷ names) ascend i j d lt within =
          let inside : j < length (first ∷ names) = let e = length-map (first ∷ names) file_name_text in omega (arith, within, e) in
          subst (λ (t : List ℕ). IsBefore t (get_or (map file_name_text (first ∷ names)) j d)) (sym (get_or-map file_name_text (first ∷ names) i first d (omega (arith, lt, inside))))
          (subst (IsBefore (file_name_text (get_or (first ∷ names) i first))) (sym (get_or-map file_name_text (first ∷ names) j first d inside)) (ascend i j first lt inside))
