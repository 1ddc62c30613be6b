-- How many words there are, and a number of them that no form has.
use Rattle.std.proofs.Common.{◌≡◌, ℕ, ◌<◌, Bool, true, false, cond, List, [], ◌∷◌, length, Option, Some, Err, refl, ap, ◌∙◌, arith}
use denote.Bor.{Bor}
use Rattle.std.specs.List.{onto_first, slice_split}
use Rattle.std.specs.Option.{option_copied}
use Rattle.sw_script.specs.Cut.{IsCut, parts_left}
use Rattle.sw_script.specs.Line.{job_by, other_event}
use Rattle.sw_script.specs.declared.fault.LineFault.TheVariants.{Form}

pub no_job : (words : List (List ℕ)) → 3 < length words → job_by words ≡ Err Form
no_job [] many = absurd (omega arith)
no_job (verb ∷ []) many = absurd (omega arith)
no_job (verb ∷ name ∷ []) many = absurd (omega arith)
no_job (verb ∷ name ∷ hex ∷ []) many = absurd (omega arith)
no_job (verb ∷ name ∷ hex ∷ more ∷ words) many = refl

pub no_event : (words : List (List ℕ)) → 4 < length words → other_event words ≡ Err Form
no_event [] many = absurd (omega arith)
no_event (a ∷ []) many = absurd (omega arith)
no_event (a ∷ b ∷ []) many = absurd (omega arith)
no_event (a ∷ b ∷ c ∷ []) many = absurd (omega arith)
no_event (a ∷ b ∷ c ∷ d ∷ []) many = absurd (omega arith)
no_event (a ∷ b ∷ c ∷ d ∷ more ∷ words) many = refl

-- ---- cuts, one after the other

-- a cut with more behind it
pub parts_of_cut : (is_end : ℕ → Bool) (text before : List ℕ) (after : Option (Bor (List ℕ))) (rest : Bor (List ℕ)) → IsCut is_end text before (option_copied after) → after ≡ Some rest → slice_split is_end text ≡ before ∷ slice_split is_end rest.now
parts_of_cut is_end text before after rest cut is = cut.parts ∙ ap (λ (left : Option (Bor (List ℕ))). before ∷ parts_left is_end (option_copied left)) is

onto_some : (byte : ℕ) (parts : List (List ℕ)) → 0 < length (onto_first byte parts)
onto_some byte [] = omega arith
onto_some byte (part ∷ parts) = omega arith

some_parts : (is_end : ℕ → Bool) (text : List ℕ) → 0 < length (slice_split is_end text)
some_parts is_end [] = omega arith
some_parts is_end (byte ∷ bytes) = elim (is_end byte) as (λ ends. 0 < length (cond ends ([] ∷ slice_split is_end bytes) (onto_first byte (slice_split is_end bytes)))) [
  | true ↦ omega arith
  | false ↦ onto_some byte (slice_split is_end bytes)
]

-- four cuts with more behind the last
pub more_than_four : (is_end : ℕ → Bool) (text one two three four a b c d : List ℕ) → slice_split is_end text ≡ a ∷ slice_split is_end one → slice_split is_end one ≡ b ∷ slice_split is_end two
    → slice_split is_end two ≡ c ∷ slice_split is_end three → slice_split is_end three ≡ d ∷ slice_split is_end four → 4 < length (slice_split is_end text)
more_than_four is_end text one two three four a b c d first second third fourth = omega (arith, ap length first, ap length second, ap length third, ap length fourth, some_parts is_end four)
