-- What is due, answered and open of a put, however it is counted.
use Rattle.std.proofs.Common.{◌≡◌, inl, inr, ℕ, ◌+◌, ◌≤◌, ◌<◌, ◌==◌, Bool, true, ◌&&◌, cond, List, [], ◌∷◌, length, map, Option, refl, ap, ◌∙◌, arith}
use Rattle.std.specs.List.{sum_by}
use Rattle.std.proofs.lemmas.Bool.{and_from, and_parts, cases_Bool, eq-eqb, eqb-false, eqb-true, ne_eqb}
use Rattle.std.proofs.lemmas.List.Sums.{sum_by-cons}
use Rattle.sw_message.specs.declared.message.Msg.{Msg}
use Rattle.sw_message.specs.declared.message.Msg.TheVariants as message
use Rattle.sw_message.specs.declared.miss.Miss.{Miss}
use Rattle.sw_message.specs.declared.reply.Reply.{Reply}
use Rattle.sw_message.specs.declared.target.Target.{Target}
use Rattle.sw_quorum.specs.Answers.{Judged}
use Rattle.sw_quorum.proofs.Places.{one_if}
use Rattle.sw_put.specs.Put.{judge_commit, judge_store, replacements}
use Rattle.sw_quorum.specs.Targets.{targets_from}
use Rattle.sw_put.specs.declared.errand.Errand.{Errand}
use Rattle.sw_put.specs.declared.errand.Errand.TheVariants.{CommitAt, StoreAt}

-- ---- errands and messages

-- of fragments alone, and of commits alone
abbrev pub store_weight : (Target → ℕ) → Errand → ℕ
store_weight w (StoreAt target) = w target
store_weight w (CommitAt target) = 0

abbrev pub commit_weight : (Target → ℕ) → Errand → ℕ
commit_weight w (StoreAt target) = 0
commit_weight w (CommitAt target) = w target

abbrev pub weight_of : (Errand → ℕ) → ℕ → Msg → ℕ
weight_of h device (message.PutFrag place stamp index bytes) = h (StoreAt (record { index = index; device = device }))
weight_of h device (message.Commit place stamp index) = h (CommitAt (record { index = index; device = device }))
weight_of h device other = 0

pub judged-store : (w : Target → ℕ) (device : ℕ) (msg : Msg) (answer : Option Reply) → sum_by (λ (one : Judged Target). w one.about) (judge_store device msg answer) ≡ weight_of (store_weight w) device msg
judged-store w device (message.PutFrag place stamp index bytes) answer = omega arith
judged-store w device other answer = refl

pub judged-commit : (w : Target → ℕ) (device : ℕ) (msg : Msg) (answer : Option Reply) → sum_by (λ (one : Judged Target). w one.about) (judge_commit device msg answer) ≡ weight_of (commit_weight w) device msg
judged-commit w device (message.Commit place stamp index) answer = omega arith
judged-commit w device other answer = refl

module _ (w : Target → ℕ) where
  pub stores-of_stores : (targets : List Target) → sum_by (store_weight w) (map StoreAt targets) ≡ sum_by w targets
  stores-of_stores [] = refl
  stores-of_stores (target ∷ targets) = omega (arith, sum_by-cons (store_weight w) (StoreAt target) (map StoreAt targets), sum_by-cons w target targets, stores-of_stores targets)

  pub stores-of_commits : (targets : List Target) → sum_by (store_weight w) (map CommitAt targets) ≡ 0
  stores-of_commits [] = refl
  stores-of_commits (target ∷ targets) = omega (arith, sum_by-cons (store_weight w) (CommitAt target) (map CommitAt targets), stores-of_commits targets)

  pub commits-of_stores : (targets : List Target) → sum_by (commit_weight w) (map StoreAt targets) ≡ 0
  commits-of_stores [] = refl
  commits-of_stores (target ∷ targets) = omega (arith, sum_by-cons (commit_weight w) (StoreAt target) (map StoreAt targets), commits-of_stores targets)

  pub commits-of_commits : (targets : List Target) → sum_by (commit_weight w) (map CommitAt targets) ≡ sum_by w targets
  commits-of_commits [] = refl
  commits-of_commits (target ∷ targets) = omega (arith, sum_by-cons (commit_weight w) (CommitAt target) (map CommitAt targets), sum_by-cons w target targets, commits-of_commits targets)

-- ---- by index

abbrev pub has_index : ℕ → Target → ℕ
has_index k target = cond (target.index == k) 1 0

-- none before the first
none-before : (from : ℕ) (devices : List ℕ) (k : ℕ) → k < from → sum_by (has_index k) (targets_from from devices) ≡ 0
none-before from [] k before = refl
none-before from (device ∷ devices) k before =
    omega (
      arith,
      none-before (from + 1) devices k (omega (arith, before)),
      ap one_if (ne_eqb from k (λ same. absurd (omega (arith, same, before)))),
      sum_by-cons (has_index k) (record { index = from; device = device }) (targets_from (from + 1) devices),
    )

-- each index has one primary at most
pub primary-once : (from : ℕ) (devices : List ℕ) (k : ℕ) → sum_by (has_index k) (targets_from from devices) ≤ 1
primary-once from [] k = omega arith
primary-once from (device ∷ devices) k = elim (cases_Bool (from == k)) [
  | inl is ↦
      omega (
        arith,
        none-before (from + 1) devices k (omega (arith, eqb-true from k is)),
        ap one_if is,
        sum_by-cons (has_index k) (record { index = from; device = device }) (targets_from (from + 1) devices),
      )
  | inr other ↦
      omega (
        arith,
        primary-once (from + 1) devices k,
        ap one_if other,
        sum_by-cons (has_index k) (record { index = from; device = device }) (targets_from (from + 1) devices),
      )
]

-- and one, where the place has it
pub primary-there : (from : ℕ) (devices : List ℕ) (k : ℕ) → from ≤ k → k < from + length devices → 1 ≤ sum_by (has_index k) (targets_from from devices)
primary-there from [] k after before = absurd (omega (arith, after, before))
primary-there from (device ∷ devices) k after before = elim (cases_Bool (from == k)) [
  | inl is ↦ omega (arith, ap one_if is, sum_by-cons (has_index k) (record { index = from; device = device }) (targets_from (from + 1) devices))
  | inr other ↦
      let apart : from < k = omega (arith, after, eqb-false from k other) in
      omega (
        arith,
        primary-there (from + 1) devices k (omega (arith, apart)) (omega (arith, before)),
        sum_by-cons (has_index k) (record { index = from; device = device }) (targets_from (from + 1) devices),
      )
]

-- a replacement takes the index of its miss
pub replaced : (f : ℕ → ℕ) (misses : List (Target × Miss)) (handoffs : List ℕ)
    → sum_by (λ (target : Target). f target.index) (replacements misses handoffs) ≤ sum_by (λ (miss : Target × Miss). f miss.0.index) misses
replaced f [] handoffs = omega arith
replaced f (miss ∷ misses) [] = omega arith
replaced f (miss ∷ misses) (handoff ∷ handoffs) =
    omega (
      arith,
      replaced f misses handoffs,
      sum_by-cons (λ (target : Target). f target.index) (record { index = miss.0.index; device = handoff }) (replacements misses handoffs),
      sum_by-cons (λ (miss : Target × Miss). f miss.0.index) miss misses,
    )

-- ---- by device

abbrev pub has_device : ℕ → Target → ℕ
has_device k target = cond (target.device == k) 1 0

pub primaries-devices : (f : ℕ → ℕ) (from : ℕ) (devices : List ℕ) → sum_by (λ (target : Target). f target.device) (targets_from from devices) ≡ sum_by f devices
primaries-devices f from [] = refl
primaries-devices f from (device ∷ devices) =
    omega (
      arith,
      primaries-devices f (from + 1) devices,
      sum_by-cons (λ (target : Target). f target.device) (record { index = from; device = device }) (targets_from (from + 1) devices),
      sum_by-cons f device devices,
    )

-- a handoff is taken once
pub handoffs-devices : (f : ℕ → ℕ) (misses : List (Target × Miss)) (handoffs : List ℕ) → sum_by (λ (target : Target). f target.device) (replacements misses handoffs) ≤ sum_by f handoffs
handoffs-devices f [] handoffs = omega arith
handoffs-devices f (miss ∷ misses) [] = omega arith
handoffs-devices f (miss ∷ misses) (handoff ∷ handoffs) =
    omega (
      arith,
      handoffs-devices f misses handoffs,
      sum_by-cons (λ (target : Target). f target.device) (record { index = miss.0.index; device = handoff }) (replacements misses handoffs),
      sum_by-cons f handoff handoffs,
    )

-- ---- by target

abbrev pub is_target : Target → Target → Bool
is_target one target = target.index == one.index && target.device == one.device

pub target_is_itself : (one : Target) → is_target one one ≡ true
target_is_itself one = and_from (one.index == one.index) (one.device == one.device) (eq-eqb one.index one.index refl) (eq-eqb one.device one.device refl)

pub same_target : (one target : Target) → is_target one target ≡ true → target ≡ one
same_target one target is =
    let same = and_parts (target.index == one.index) (target.device == one.device) is in
    ap (λ n. record { index = n; device = target.device }) (eqb-true target.index one.index same.0)
    ∙ ap (λ n. record { index = one.index; device = n }) (eqb-true target.device one.device same.1)
