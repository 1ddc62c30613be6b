-- What is left of a script while its lines are taken off.
use Rattle.std.proofs.Common.{◌≡◌, ℕ, suc, ◌+◌, ◌<◌, ◌≤◌, ◌==◌, List, ◌∷◌, length, Option, Some, None, IfSome, ◌∙◌, ap, arith}
use denote.Bor.{Bor}
use Rattle.std.specs.Option.{option_copied}
use Rattle.sw_script.specs.Cut.{IsCut, parts_left}

-- the lines of what may be left of a script
abbrev pub lines_left : Option (List ℕ) → List (List ℕ)
lines_left left = parts_left (λ byte. byte == 10) left

-- how much may be left, with one for a last line
abbrev pub left_size : Option (List ℕ) → ℕ
left_size None = 0
left_size (Some script) = suc (length script)

-- so many lines took at least a byte each, but for the last
abbrev pub IsCounted : ℕ → ℕ → Option (List ℕ) → Type 0
IsCounted number total None = number ≤ total + 1
IsCounted number total (Some script) = number + length script ≤ total

-- one line more
pub one_line_more : (number total : ℕ) (script before : List ℕ) (after : Option (List ℕ)) → number + length script ≤ total → IfSome after (λ rest. length before + length rest < length script) → IsCounted (number + 1) total after
one_line_more number total script before None counted shorter = omega arith
one_line_more number total script before (Some rest) counted shorter = omega (arith, shorter)

-- the lines that are left, the first of them taken off
pub first_line : (left : Option (Bor (List ℕ))) (script : Bor (List ℕ)) (before : List ℕ) (after : Option (List ℕ)) → left ≡ Some script → IsCut (λ byte. byte == 10) script.now before after
    → lines_left (option_copied left) ≡ before ∷ lines_left after
first_line left script before after is cut = ap (λ text. lines_left (option_copied text)) is ∙ cut.parts

-- what is said of a text that was lent
pub copied_some : (P : List ℕ → Type 0) (after : Option (Bor (List ℕ))) → IfSome after (λ rest. P rest.now) → IfSome (option_copied after) P
copied_some P None said = tt
copied_some P (Some rest) said = said
