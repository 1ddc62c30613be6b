-- Decimals, one digit after the other.
use Rattle.std.proofs.Common.{◌≡◌, ℕ, ◌+◌, ◌/◌, ◌%◌, ◌^◌, ◌<◌, ◌≤◌, List, [], ◌∷◌, ◌++◌, sym, ap, ◌∙◌, arith}
use Rattle.std.specs.Prelude.{◌↔◌}
use Rattle.std.specs.Fmt.{decimal}
use Rattle.std.proofs.lemmas.Fmt.{decimal_step}
use Rattle.std.proofs.lemmas.List.{same_from_push}

-- a text is a decimal of two digits or more by its last digit and by those before it
pub decimal_pushed : (number : ℕ) (front : List ℕ) (last : ℕ) → 10 ≤ number → number < 2 ^ 64 → (front ++ last ∷ [] ≡ decimal number) ↔ ((front ≡ decimal (number / 10)) × (last ≡ 48 + number % 10))
decimal_pushed number front last long small =
    let step : decimal number ≡ decimal (number / 10) ++ (48 + number % 10) ∷ [] = decimal_step number long (omega arith) in (
      λ same. same_from_push front (decimal (number / 10)) last (48 + number % 10) (same ∙ step),
      λ parts. ap (λ digits. digits ++ last ∷ []) parts.0 ∙ ap (λ digit. decimal (number / 10) ++ digit ∷ []) parts.1 ∙ sym step,
    )
