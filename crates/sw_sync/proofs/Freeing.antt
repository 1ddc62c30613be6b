-- Sources that are free: not tried, and of an index that none has that is live.
use Rattle.std.proofs.Common.{◌≡◌, ◌⊎◌, inl, inr, ℕ, ◌&&◌, Bool, true, false, not, Contains, List, [], ◌∷◌, ◌++◌, Some, refl, sym, ap, subst, ◌∙◌}
use Rattle.std.specs.Prelude.{if◌then◌else◌}
use Rattle.std.specs.List.{All, find, list_any}
use Rattle.std.proofs.lemmas.Bool.{and_cases, and_from, and_parts, cases_Bool, eq-eqb, eqb-true, not-false, not-true, true≢false}
use Rattle.std.proofs.lemmas.List.Elements.{All-contains, Contains-append_left, Contains-push, Contains-push_cases}
use Rattle.std.proofs.lemmas.Option.{none-some, same_Some}
use Rattle.sw_message.specs.declared.target.Target.{Target}
use Rattle.sw_gather.specs.Choices.{has_index, same_target}
use Rattle.sw_ring.proofs.Among.{Contains-cons}
use Rattle.sw_gather.proofs.Lists.{any_passes, here, some_passes}
use Rattle.sw_gather.proofs.Sources.{same_source, self_same}
use Rattle.sw_sync.specs.Sync.{is_live}

-- it was tried; one of its index is live
abbrev pub was_tried : List Target → Target → Bool
was_tried tried source = list_any (same_target source) tried

abbrev pub holds : List Target → ℕ → Target → Bool
holds lost index other = has_index index other && is_live lost other

abbrev pub is_taken : (tried lost : List Target) → ℕ → Bool
is_taken tried lost index = list_any (holds lost index) tried

abbrev pub free_by : (tried lost : List Target) → Target → Bool
free_by tried lost source = not (was_tried tried source) && not (is_taken tried lost source.index)

-- a source that is live is not among the lost ones
pub live-not_lost : (lost : List Target) (source : Target) → is_live lost source ≡ true → Contains lost source → ⊥
live-not_lost lost source live there = true≢false (sym (any_passes (same_target source) lost source there (self_same source)) ∙ not-true (list_any (same_target source) lost) live)

lost-there : (lost : List Target) (source : Target) → is_live lost source ≡ false → Contains lost source
lost-there lost source dead =
    let one = some_passes (same_target source) lost (not-false (list_any (same_target source) lost) dead) in
    subst (Contains lost) (sym (same_source source one.0 one.2)) one.1

pub not-lost_live : (lost : List Target) (source : Target) → (Contains lost source → ⊥) → is_live lost source ≡ true
not-lost_live lost source never = elim (cases_Bool (is_live lost source)) [ inl live ↦ live | inr dead ↦ absurd (never (lost-there lost source dead)) ]

pub tried-there : (tried : List Target) (source : Target) → was_tried tried source ≡ true → Contains tried source
tried-there tried source is = let one = some_passes (same_target source) tried is in subst (Contains tried) (sym (same_source source one.0 one.2)) one.1

there-tried : (tried : List Target) (source : Target) → Contains tried source → was_tried tried source ≡ true
there-tried tried source there = any_passes (same_target source) tried source there (self_same source)

-- what is not free was tried, or one of its index is live
pub not-free : (tried lost : List Target) (source : Target) → free_by tried lost source ≡ false
    → Contains tried source ⊎ ((other : Target) × Contains tried other × (other.index ≡ source.index) × (is_live lost other ≡ true))
not-free tried lost source is = elim (and_cases (not (was_tried tried source)) (not (is_taken tried lost source.index)) is) [
  | inl was ↦ inl (tried-there tried source (not-false (was_tried tried source) was))
  | inr taken ↦
      let one = some_passes (holds lost source.index) tried (not-false (is_taken tried lost source.index) taken) in
      let both = and_parts (has_index source.index one.0) (is_live lost one.0) one.2 in
      inr (one.0, one.1, eqb-true one.0.index source.index both.0, both.1)
]

-- what is free was not tried, and none of its index is live
pub free-untried : (tried lost : List Target) (source : Target) → free_by tried lost source ≡ true → Contains tried source → ⊥
free-untried tried lost source free there =
    true≢false (sym (there-tried tried source there) ∙ not-true (was_tried tried source) (and_parts (not (was_tried tried source)) (not (is_taken tried lost source.index)) free).0)

pub free-untaken : (tried lost : List Target) (source other : Target) → free_by tried lost source ≡ true → Contains tried other → other.index ≡ source.index → is_live lost other ≡ true → ⊥
free-untaken tried lost source other free there same live =
    let taken = any_passes (holds lost source.index) tried other there (and_from (has_index source.index other) (is_live lost other) (eq-eqb other.index source.index same) live) in
    true≢false (sym taken ∙ not-true (is_taken tried lost source.index) (and_parts (not (was_tried tried source)) (not (is_taken tried lost source.index)) free).1)

free-fewer : (tried lost : List Target) (more source : Target) → free_by (tried ++ more ∷ []) lost source ≡ true → free_by tried lost source ≡ true
free-fewer tried lost more source free = elim (cases_Bool (free_by tried lost source)) [
  | inl is ↦ is
  | inr is_not ↦ absurd (elim (not-free tried lost source is_not) [
    | inl there ↦ free-untried (tried ++ more ∷ []) lost source free (Contains-append_left tried (more ∷ []) source there)
    | inr one ↦ free-untaken (tried ++ more ∷ []) lost source one.0 free (Contains-append_left tried (more ∷ []) one.0 one.1) one.2 one.3
  ])
]

-- ---- where none is free, and a source is lost

module _ (choices tried lost : List Target) (none : (source : Target) → Contains choices source → free_by tried lost source ≡ false) (source : Target) (tries : Contains tried source) (lost_tried : All (Contains tried) lost) where
  abbrev more : List Target
  more = lost ++ source ∷ []

  -- only its index becomes free
  freed : (other : Target) → Contains choices other → free_by tried more other ≡ true → other.index ≡ source.index
  freed other there free = elim (not-free tried lost other (none other there)) [
    | inl was ↦ absurd (free-untried tried more other free was)
    | inr one ↦ elim (cases_Bool (is_live more one.0)) [
      | inl live ↦ absurd (free-untaken tried more other one.0 free one.1 one.2 live)
      | inr dead ↦ elim (Contains-push_cases lost source one.0 (lost-there more one.0 dead)) [
        | inl before ↦ absurd (live-not_lost lost one.0 one.3 before)
        | inr same ↦ sym one.2 ∙ ap (λ (target : Target). target.index) (sym same)
      ]
    ]
  ]

  -- and none is free once the first that is free is tried
  pub none-left : (first : Target) → Contains choices first → free_by tried more first ≡ true → (other : Target) → Contains choices other → free_by (tried ++ first ∷ []) more other ≡ false
  none-left first there free other among = elim (cases_Bool (free_by (tried ++ first ∷ []) more other)) [
    | inr is_not ↦ is_not
    | inl is ↦
        let same : first.index ≡ other.index = freed first there free ∙ sym (freed other among (free-fewer tried more first other is)) in
        absurd (free-untaken (tried ++ first ∷ []) more other first is (Contains-push tried first) same (not-lost_live more first (λ lost_one. free-untried tried more first free (by_lost lost_one))))
  ]
    where
      by_lost : Contains more first → Contains tried first
      by_lost is = elim (Contains-push_cases lost source first is) [ inl before ↦ All-contains (Contains tried) lost first lost_tried before | inr same ↦ subst (Contains tried) same tries ]

-- the first that is free is one, and is free
pub found-free : (test : Target → Bool) (choices : List Target) (first : Target) → find test choices ≡ Some first → Contains choices first × (test first ≡ true)
found-free test [] first is = absurd (none-some first is)
found-free test (one ∷ choices) first is = by_test (test one) refl is (found-free test choices first)
  where
    by_test : (b : Bool) → test one ≡ b → (if b then Some one else find test choices) ≡ Some first → (find test choices ≡ Some first → Contains choices first × (test first ≡ true)) → Contains (one ∷ choices) first × (test first ≡ true)
    by_test true passes same later = let this = same_Some one first same in (subst (Contains (one ∷ choices)) this (here one choices), ap test (sym this) ∙ passes)
    by_test false fails found later = let rest = later found in (Contains-cons first one choices rest.0, rest.1)
