-- The words of a line are no longer than the line.
use Rattle.std.proofs.Common.{◌≡◌, ℕ, suc, ◌≤◌, Bool, true, false, cond, List, [], ◌∷◌, length, arith, subst}
use Rattle.std.specs.List.{All, slice_split, onto_first}
use Rattle.std.proofs.lemmas.List.Elements.{All-cons, All-head, All-nil, All-tail, All-weaker}

-- each part has at most so many bytes
abbrev pub AreShort : ℕ → List (List ℕ) → Type 0
AreShort most parts = All (λ part. length part ≤ most) parts

longer : (most more : ℕ) (parts : List (List ℕ)) → most ≤ more → AreShort most parts → AreShort more parts
longer most more parts le short = All-weaker (λ part. length part ≤ most) (λ part. length part ≤ more) (λ part few. omega arith) parts short

onto_short : (most byte : ℕ) (parts : List (List ℕ)) → AreShort most parts → AreShort (suc most) (onto_first byte parts)
onto_short most byte [] short = All-cons (λ part. length part ≤ suc most) (byte ∷ []) [] (omega arith) (All-nil (λ part. length part ≤ suc most))
onto_short most byte (part ∷ parts) short =
    let first : length part ≤ most = All-head (λ part. length part ≤ most) part parts short in
    All-cons (λ part. length part ≤ suc most) (byte ∷ part) parts (omega arith) (longer most (suc most) parts (omega arith) (All-tail (λ part. length part ≤ most) part parts short))

short_parts : (is_end : ℕ → Bool) (text : List ℕ) → AreShort (length text) (slice_split is_end text)
short_parts is_end [] = All-cons (λ part. length part ≤ 0) [] [] (omega arith) (All-nil (λ part. length part ≤ 0))
short_parts is_end (byte ∷ bytes) =
    let most : ℕ = length (byte ∷ bytes) in
    elim (is_end byte) as (λ ends. AreShort (length (byte ∷ bytes)) (cond ends ([] ∷ slice_split is_end bytes) (onto_first byte (slice_split is_end bytes)))) [
      | true ↦ All-cons (λ part. length part ≤ most) [] (slice_split is_end bytes) (omega arith) (longer (length bytes) most (slice_split is_end bytes) (omega arith) (short_parts is_end bytes))
      | false ↦ onto_short (length bytes) byte (slice_split is_end bytes) (short_parts is_end bytes)
    ]

-- the third of three words
pub third_short : (is_end : ℕ → Bool) (text a b c : List ℕ) → slice_split is_end text ≡ a ∷ b ∷ c ∷ [] → length c ≤ length text
third_short is_end text a b c split =
    let short : AreShort (length text) (a ∷ b ∷ c ∷ []) = subst (AreShort (length text)) split (short_parts is_end text) in
    let rest = All-tail (λ part. length part ≤ length text) b (c ∷ []) (All-tail (λ part. length part ≤ length text) a (b ∷ c ∷ []) short) in
    All-head (λ part. length part ≤ length text) c [] rest
