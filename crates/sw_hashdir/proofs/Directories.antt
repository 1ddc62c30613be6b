-- Names that are added one by one, and floors of lists of names.
use Rattle.std.proofs.Common.{◌≡◌, ◌⊎◌, ◌↔◌, inl, inr, ⊎_elim, ℕ, ◌<◌, true, List, [], ◌∷◌, ◌++◌, Option, Some, None, refl, sym, ◌∙◌, ap, subst, arith}
use Rattle.std.specs.List.{Contains}
use Rattle.std.proofs.lemmas.List.Elements.{Contains-append_cases, Contains-append_left, Contains-append_right, Contains-push, Contains-push_cases}
use Rattle.sw_hashpath.specs.FileName.{IsFileName, file_name_text}
use Rattle.sw_hashpath.specs.declared.file_name.FileName.{FileName}
use Rattle.sw_hashpath.specs.declared.file_name.FileName.TheVariants.{Data, Tombstone}
use Rattle.sw_hashdir.specs.Directory.{HasFloorAt, IsAbove, IsDirectory, IsFloor}
use Rattle.sw_hashdir.specs.Obsolete.{IsAfter, Replaces}
use Rattle.sw_hashdir.specs.declared.floor.Floor.{Floor}
use Rattle.sw_hashdir.specs.declared.floor.FloorKind.{FloorKind}
use Rattle.sw_hashdir.specs.declared.floor.FloorKind.TheVariants as kind

-- ---- floors, in order

pub kind_either : (k : FloorKind) → (k ≡ kind.Tombstone) ⊎ (k ≡ kind.Durable)
kind_either kind.Durable = inr refl
kind_either kind.Tombstone = inl refl

above_trans : (a b c : Floor) → IsAbove a b → IsAbove b c → IsAbove a c
above_trans a b c (inl f) (inl g) = inl (omega (arith, f, g))
above_trans a b c (inl f) (inr g) = inl (omega (arith, f, g.0))
above_trans a b c (inr f) (inl g) = inl (omega (arith, f.0, g))
above_trans a b c (inr f) (inr g) = let d = f.2 in let t = g.1 in absurd (cc)

-- what is above a floor is above each one that is not
same_or_less : (m n : ℕ) → (m < n → ⊥) → (n < m) ⊎ (n ≡ m)
same_or_less m n not = grind arith

above_next : (a b c : Floor) → IsAbove c a → (IsAbove b a → ⊥) → IsAbove c b
above_next a b c (inl f) not = let le : a.stamp < b.stamp → ⊥ = λ l. not (inl l) in inl (omega (arith, f, le))
above_next a b c (inr f) not = ⊎_elim
    (λ less. inl (omega (arith, f.0, less)))
    (λ same. ⊎_elim
    (λ tombstone. absurd (not (inr (same, tombstone, f.2))))
    (λ durable. inr (f.0 ∙ sym same, f.1, durable))
    (kind_either b.kind))
    (same_or_less a.stamp b.stamp (λ l. not (inl l)))

-- ---- the floor of the names of two lists

module _ (names others : List FileName) where
  has_either : (stamp : ℕ) (k : FloorKind) → HasFloorAt (names ++ others) stamp k → HasFloorAt names stamp k ⊎ HasFloorAt others stamp k
  has_either stamp kind.Durable has = ⊎_elim (λ l. inl (has.0, l)) (λ r. inr (has.0, r)) (Contains-append_cases names others (Data stamp has.0 true) has.1)
  has_either stamp kind.Tombstone has = Contains-append_cases names others (Tombstone stamp) has

  has_first : (stamp : ℕ) (k : FloorKind) → HasFloorAt names stamp k → HasFloorAt (names ++ others) stamp k
  has_first stamp kind.Durable has = (has.0, Contains-append_left names others (Data stamp has.0 true) has.1)
  has_first stamp kind.Tombstone has = Contains-append_left names others (Tombstone stamp) has

  has_second : (stamp : ℕ) (k : FloorKind) → HasFloorAt others stamp k → HasFloorAt (names ++ others) stamp k
  has_second stamp kind.Durable has = (has.0, Contains-append_right names others (Data stamp has.0 true) has.1)
  has_second stamp kind.Tombstone has = Contains-append_right names others (Tombstone stamp) has

  pub second_alone : (b : Option Floor) → IsFloor names None → IsFloor others b → IsFloor (names ++ others) b
  second_alone None f g = λ other has. ⊎_elim (f other) (g other) (has_either other.stamp other.kind has)
  second_alone (Some b) f g = (
    has_second b.stamp b.kind g.0,
    λ other has. ⊎_elim (λ h. absurd (f other h)) (g.1 other) (has_either other.stamp other.kind has),
  )

  pub first_alone : (a : Option Floor) → IsFloor names a → IsFloor others None → IsFloor (names ++ others) a
  first_alone None f g = λ other has. ⊎_elim (f other) (g other) (has_either other.stamp other.kind has)
  first_alone (Some a) f g = (
    has_first a.stamp a.kind f.0,
    λ other has. ⊎_elim (f.1 other) (λ h. absurd (g other h)) (has_either other.stamp other.kind has),
  )

  pub second_above : (a b : Floor) → IsFloor names (Some a) → IsFloor others (Some b) → IsAbove b a → IsFloor (names ++ others) (Some b)
  second_above a b f g above = (
    has_second b.stamp b.kind g.0,
    λ other has higher. ⊎_elim (λ h. f.1 other h (above_trans other b a higher above)) (λ h. g.1 other h higher) (has_either other.stamp other.kind has),
  )

  pub first_above : (a b : Floor) → IsFloor names (Some a) → IsFloor others (Some b) → (IsAbove b a → ⊥) → IsFloor (names ++ others) (Some a)
  first_above a b f g not = (
    has_first a.stamp a.kind f.0,
    λ other has higher. ⊎_elim (λ h. f.1 other h higher) (λ h. g.1 other h (above_next a b other higher not)) (has_either other.stamp other.kind has),
  )

-- ---- the directory of one text more

module _ (texts : List (List ℕ)) (text : List ℕ) (names : List FileName) (is : IsDirectory texts names) where
  -- the text is no name's
  pub left_out : ((name : FileName) → IsFileName name → text ≡ file_name_text name → ⊥) → IsDirectory (texts ++ text ∷ []) names
  left_out none = λ name. (
    λ there. let is_there = (is name).0 there in (is_there.0, Contains-append_left texts (text ∷ []) (file_name_text name) is_there.1),
    λ spelt. ⊎_elim
        (λ before. (is name).1 (spelt.0, before))
        (λ here. absurd (none name spelt.0 here))
        (Contains-push_cases texts text (file_name_text name) spelt.1),
  )

  -- it is this name's alone
  pub put_in : (made : FileName) (after : List FileName) → IsFileName made → text ≡ file_name_text made → ((name : FileName) → IsFileName name → text ≡ file_name_text name → name ≡ made)
      → ((name : FileName) → Contains after name ↔ ((name ≡ made) ⊎ Contains names name)) → IsDirectory (texts ++ text ∷ []) after
  put_in made after is_name same alone added = λ name. (
    λ there. ⊎_elim
        (λ here. (subst IsFileName (sym here) is_name, subst (Contains (texts ++ text ∷ [])) (same ∙ ap file_name_text (sym here)) (Contains-push texts text)))
        (λ before. let was = (is name).0 before in (was.0, Contains-append_left texts (text ∷ []) (file_name_text name) was.1))
        ((added name).0 there),
    λ spelt. (added name).1 (⊎_elim
        (λ before. inr ((is name).1 (spelt.0, before)))
        (λ here. inl (alone name spelt.0 here))
        (Contains-push_cases texts text (file_name_text name) spelt.1)),
  )

-- ---- the names that stay once one was made

-- of these names the ones that it does not replace
abbrev pub IsKept : FileName → List FileName → List FileName → Type 0
IsKept made names kept = (name : FileName) → Contains kept name ↔ (Contains names name × (Replaces made name → ⊥))

module _ (made : FileName) (names : List FileName) (other : FileName) (kept : List FileName) (is : IsKept made names kept) where
  pub replaced : Replaces made other → IsKept made (names ++ other ∷ []) kept
  replaced gone = λ name. (
    λ there. let was = (is name).0 there in (Contains-append_left names (other ∷ []) name was.0, was.1),
    λ stays. ⊎_elim
        (λ before. (is name).1 (before, stays.1))
        (λ here. absurd (stays.1 (subst (Replaces made) here gone)))
        (Contains-push_cases names other name stays.0),
  )

  pub kept_too : (after : List FileName) → (Replaces made other → ⊥) → ((name : FileName) → Contains after name ↔ ((name ≡ other) ⊎ Contains kept name)) → IsKept made (names ++ other ∷ []) after
  kept_too after stands added = λ name. (
    λ there. ⊎_elim
        (λ here. (subst (Contains (names ++ other ∷ [])) (sym here) (Contains-push names other), subst (λ n. Replaces made n → ⊥) (sym here) stands))
        (λ before. let was = (is name).0 before in (Contains-append_left names (other ∷ []) name was.0, was.1))
        ((added name).0 there),
    λ stays. (added name).1 (⊎_elim
        (λ before. inr ((is name).1 (before, stays.1)))
        (λ here. inl (sym here))
        (Contains-push_cases names other name stays.0)),
  )

-- these names and the one that was made
pub made_and_kept : (made : FileName) (names kept after : List FileName) → IsKept made names kept → ((name : FileName) → Contains after name ↔ ((name ≡ made) ⊎ Contains kept name)) → IsAfter made names after
made_and_kept made names kept after is added = λ name. (
  λ there. ⊎_elim (λ here. inl here) (λ before. inr ((is name).0 before)) ((added name).0 there),
  λ stays. (added name).1 (⊎_elim (λ here. inl here) (λ before. inr ((is name).1 before)) stays),
)

-- ---- names put in order

-- the names after one was pushed to them
pub added : (made : FileName) (names pushed after : List FileName) → pushed ≡ names ++ made ∷ [] → ((name : FileName) → Contains after name ↔ Contains pushed name) → (name : FileName) → Contains after name ↔ ((name ≡ made) ⊎ Contains names name)
added made names pushed after is same name = (
  λ there. elim (Contains-push_cases names made name (subst (λ ns. Contains ns name) is ((same name).0 there))) [
    | inl before ↦ inr before
    | inr here ↦ inl (sym here)
  ],
  λ either. (same name).1 (subst (λ ns. Contains ns name) (sym is) (elim either [
    | inl here ↦ subst (Contains (names ++ made ∷ [])) (sym here) (Contains-push names made)
    | inr before ↦ Contains-append_left names (made ∷ []) name before
  ])),
)

pub same_directory : (texts : List (List ℕ)) (names after : List FileName) → IsDirectory texts names → ((name : FileName) → Contains after name ↔ Contains names name) → IsDirectory texts after
same_directory texts names after is same name = (λ there. (is name).0 ((same name).0 there), λ spelt. (same name).1 ((is name).1 spelt))
