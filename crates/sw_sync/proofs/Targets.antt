-- The primaries in front, each with its index.
use Rattle.std.proofs.Common.{◌≡◌, ℕ, ◌+◌, ◌<◌, List, [], ◌∷◌, ◌++◌, length, get_or, take, ap, ◌∙◌, arith}
use Rattle.std.proofs.lemmas.List.{length-take, take_more}
use Rattle.sw_message.specs.declared.target.Target.{Target}
use Rattle.sw_quorum.specs.Targets.{targets_from}

abbrev one_at : (index device : ℕ) → List Target
one_at index device = record { index = index; device = device } ∷ []

targets_from-append : (index : ℕ) (devices : List ℕ) (device : ℕ) → targets_from index (devices ++ device ∷ []) ≡ targets_from index devices ++ one_at (index + length devices) device
targets_from-append index [] device = ap (λ i. one_at i device) (omega arith)
targets_from-append index (first ∷ devices) device =
    ap (λ (rest : List Target). record { index = index; device = first } ∷ rest)
    (targets_from-append (index + 1) devices device ∙ ap (λ i. targets_from (index + 1) devices ++ one_at i device) (omega arith))

-- with one more
pub targets_more : (devices : List ℕ) (i d : ℕ) → i < length devices → targets_from 0 (take (i + 1) devices) ≡ targets_from 0 (take i devices) ++ record { index = i; device = get_or devices i d } ∷ []
targets_more devices i d within =
    ap (targets_from 0) (take_more devices i d within) ∙ targets_from-append 0 (take i devices) (get_or devices i d)
    ∙ ap (λ n. targets_from 0 (take i devices) ++ one_at n (get_or devices i d)) (omega (arith, length-take i devices, within))
