-- Where fragments and commits have to go, by the answers to fragments.
use Rattle.std.proofs.Common.{◌≡◌, ℕ, zero, suc, ◌+◌, ◌-◌, ◌≤◌, ◌<◌, not, ◌&&◌, ◌||◌, if◌then◌else◌, List, [], ◌∷◌, ◌++◌, get_or, length, map, min, Option, Some, None, is_some, refl, sym, ap, subst, ◌∙◌, arith}
use Rattle.std.specs.Prelude.{nat_lt, option_map}
use Rattle.std.specs.List.{All, slice_get}
use Rattle.std.proofs.lemmas.Bool.{cond_both, lt-ltb}
use Rattle.std.proofs.lemmas.List.{length-append, length-map}
use Rattle.std.proofs.lemmas.List.Elements.{All-cons, All-head, All-nil, All-tail}
use Rattle.std.proofs.lemmas.Option.{get_or_from_slice_get, none-some, same_Some, slice_get-get_or, slice_get-map}
use Rattle.sw_message.specs.Floors.{highest}
use Rattle.sw_message.specs.Targets.{ascending}
use Rattle.sw_message.specs.declared.miss.Miss.{Miss}
use Rattle.sw_message.specs.declared.target.Target.{Target}
use Rattle.sw_quorum.specs.Answers.{Judged, done, floors, missed}
use Rattle.sw_message.proofs.Ascents.{sum_ascending}
use Rattle.sw_quorum.specs.Dues.{IsLonger}
use Rattle.sw_quorum.proofs.Laws.{sum-ones}
use Rattle.sw_quorum.proofs.Lookups.{slice_get-behind, slice_get-front, slice_get_none}
use Rattle.sw_put.specs.Plans.{replacement}
use Rattle.sw_put.specs.declared.errand.Errand.{Errand}
use Rattle.sw_put.specs.declared.errand.Errand.TheVariants.{CommitAt, StoreAt}
use Rattle.sw_put.specs.Put.{Begun, handoffs, primaries, replacements}
use Rattle.sw_quorum.specs.Targets.{targets_from}

-- ---- by the answers to fragments

module _ (begun : Begun) (judged : List (Judged Target)) where
  abbrev pub stores_due_by : List Target
  stores_due_by = targets_from 0 (primaries begun) ++ replacements (missed judged) (handoffs begun)

  abbrev pub commits_due_by : List Target
  commits_due_by =
      if not (nat_lt (length judged) (length stores_due_by)) && not (is_some (highest (floors judged)) || nat_lt (length (done judged)) begun.cluster.policy.q)
      then ascending (done judged) else []

  abbrev pub due_by : List Errand
  due_by = map StoreAt stores_due_by ++ map CommitAt commits_due_by

  -- while a fragment's answer is missing, no commit has to go out
  pub no_commits : length judged < length stores_due_by → commits_due_by ≡ []
  no_commits few =
      ap (λ b. if not b && not (is_some (highest (floors judged)) || nat_lt (length (done judged)) begun.cluster.policy.q) then ascending (done judged) else []) (lt-ltb (length judged) (length stores_due_by) few)

-- ---- how many there are

pub length-targets_from : (index : ℕ) (devices : List ℕ) → length (targets_from index devices) ≡ length devices
length-targets_from index [] = refl
length-targets_from index (device ∷ devices) = ap (λ n. suc n) (length-targets_from (index + 1) devices)

pub length-replacements : (misses : List (Target × Miss)) (handoffs : List ℕ) → length (replacements misses handoffs) ≡ min (length misses) (length handoffs)
length-replacements [] handoffs = omega arith
length-replacements (miss ∷ misses) [] = omega arith
length-replacements (miss ∷ misses) (handoff ∷ handoffs) = omega (arith, length-replacements misses handoffs)

pub length-stores_due : (begun : Begun) (judged : List (Judged Target)) → length (stores_due_by begun judged) ≡ length (primaries begun) + min (length (missed judged)) (length (handoffs begun))
length-stores_due begun judged =
    omega (arith, length-append (targets_from 0 (primaries begun)) (replacements (missed judged) (handoffs begun)), length-targets_from 0 (primaries begun), length-replacements (missed judged) (handoffs begun))

pub stores_due-few : (begun : Begun) (judged : List (Judged Target)) → length (stores_due_by begun judged) ≤ length (primaries begun) + length (handoffs begun)
stores_due-few begun judged = omega (arith, length-stores_due begun judged)

length-ascending : (targets : List Target) → length (ascending targets) ≡ length targets
length-ascending targets = sym (sum-ones (ascending targets)) ∙ sum_ascending (λ _. 1) targets ∙ sum-ones targets

pub length-commits_due : (begun : Begun) (judged : List (Judged Target)) → length (commits_due_by begun judged) ≤ length (done judged)
length-commits_due begun judged =
    cond_both (not (nat_lt (length judged) (length (stores_due_by begun judged))) && not (is_some (highest (floors judged)) || nat_lt (length (done judged)) begun.cluster.policy.q)) (ascending (done judged)) []
    (λ (targets : List Target). length targets ≤ length (done judged)) (λ _. omega (arith, length-ascending (done judged))) (λ _. omega arith)

-- ---- they grow at their end

pub replacements-more : (misses more : List (Target × Miss)) (handoffs : List ℕ) → IsLonger (replacements misses handoffs) (replacements (misses ++ more) handoffs)
replacements-more [] more handoffs = (replacements more handoffs, refl)
replacements-more (miss ∷ misses) more [] = ([], refl)
replacements-more (miss ∷ misses) more (handoff ∷ handoffs) =
    let later = replacements-more misses more handoffs in (later.0, ap (λ (these : List Target). record { index = miss.0.index; device = handoff } ∷ these) later.1)

-- ---- what stands at a number

pub primary-at : (index : ℕ) (devices : List ℕ) (i at device : ℕ) → at ≡ index + i → slice_get devices i ≡ Some device → slice_get (targets_from index devices) i ≡ Some (record { index = at; device = device })
primary-at index [] i at device same is = absurd (none-some device is)
primary-at index (first ∷ devices) zero at device same is =
    let here : index ≡ at = omega (arith, same) in
    ap (λ d. Some (record { index = index; device = d })) (same_Some first device is) ∙ ap (λ n. Some (record { index = n; device = device })) here
primary-at index (first ∷ devices) (suc i) at device same is = primary-at (index + 1) devices i at device (omega (arith, same)) is

no-handoff : (miss : Option (Target × Miss)) → None ≡ replacement miss None
no-handoff None = refl
no-handoff (Some miss) = refl

pub replacement-at : (misses : List (Target × Miss)) (handoffs : List ℕ) (i : ℕ) → slice_get (replacements misses handoffs) i ≡ replacement (slice_get misses i) (slice_get handoffs i)
replacement-at [] handoffs i = refl
replacement-at (miss ∷ misses) [] i = no-handoff (slice_get (miss ∷ misses) i)
replacement-at (miss ∷ misses) (handoff ∷ handoffs) zero = refl
replacement-at (miss ∷ misses) (handoff ∷ handoffs) (suc i) = replacement-at misses handoffs i

module _ (stores commits : List Target) (i : ℕ) where
  pub store-at : (target : Target) → slice_get stores i ≡ Some target → slice_get (map StoreAt stores ++ map CommitAt commits) i ≡ Some (StoreAt target)
  store-at target is = slice_get-front (map StoreAt stores) (map CommitAt commits) i (StoreAt target) (slice_get-map StoreAt stores i ∙ ap (option_map StoreAt) is)

  pub commit-at : slice_get stores i ≡ None → slice_get (map StoreAt stores ++ map CommitAt commits) i ≡ option_map CommitAt (slice_get commits (i - length stores))
  commit-at none =
      let size : length (map StoreAt stores) ≡ length stores = length-map stores StoreAt in
      slice_get-behind (map StoreAt stores) (map CommitAt commits) i (omega (arith, size, slice_get_none stores i none))
      ∙ ap (λ n. slice_get (map CommitAt commits) (i - n)) size ∙ slice_get-map CommitAt commits (i - length stores)

-- ---- what holds of each

-- a primary's target
pub primaries-each : (devices : List ℕ) → All (λ (target : Target). (slice_get devices target.index ≡ Some target.device) × (target.index < length devices)) (targets_from 0 devices)
primaries-each devices = λ i d within.
    let below : i < length devices = omega (arith, within, length-targets_from 0 devices) in
    let at = slice_get-get_or devices i 0 below in
    let here = get_or_from_slice_get (targets_from 0 devices) i (record { index = i; device = get_or devices i 0 }) d (primary-at 0 devices i i (get_or devices i 0) (omega arith) at) in
    subst (λ (target : Target). (slice_get devices target.index ≡ Some target.device) × (target.index < length devices)) (sym here) (at, below)

module _ (P : Target → Type 0) (Q : Target × Miss → Type 0) (R : ℕ → Type 0) (moves : (miss : Target × Miss) (handoff : ℕ) → Q miss → R handoff → P (record { index = miss.0.index; device = handoff })) where
  pub replacements-each : (misses : List (Target × Miss)) (handoffs : List ℕ) → All Q misses → All R handoffs → All P (replacements misses handoffs)
  replacements-each [] handoffs all these = All-nil P
  replacements-each (miss ∷ misses) [] all these = All-nil P
  replacements-each (miss ∷ misses) (handoff ∷ handoffs) all these =
      All-cons P (record { index = miss.0.index; device = handoff }) (replacements misses handoffs) (moves miss handoff (All-head Q miss misses all) (All-head R handoff handoffs these))
      (replacements-each misses handoffs (All-tail Q miss misses all) (All-tail R handoff handoffs these))
