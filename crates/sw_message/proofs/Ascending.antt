-- Orders by a number, and then by what else there is.
use Rattle.std.proofs.Common.{◌≡◌, ◌⊎◌, inl, inr, ◌↔◌, ℕ, ◌<◌, AllPairs, Contains, List, ◌∙◌, arith}
use Rattle.sw_diskfile.proofs.Lists.{same_ascending}

pub same_numbers : (a b : List ℕ) → AllPairs (λ m n. m < n) a → AllPairs (λ m n. m < n) b → ((n : ℕ) → Contains a n ↔ Contains b n) → a ≡ b
same_numbers = same_ascending (λ m n. m < n) (λ n less. absurd (omega arith)) (λ l m n first second. omega arith)

-- by a number, and then by the rest
abbrev pub ByNumber : ℕ → ℕ → Type 0 → Type 0
ByNumber m n Rest = (m < n) ⊎ ((m ≡ n) × Rest)

pub number_never : {Rest : Type 0} (n : ℕ) → ByNumber n n Rest → (Rest → ⊥) → ⊥
number_never n (inl less) never = omega (arith, less)
number_never n (inr same) never = never same.1

pub number_trans : {P Q R : Type 0} (l m n : ℕ) → ByNumber l m P → ByNumber m n Q → (P → Q → R) → ByNumber l n R
number_trans l m n (inl f) (inl g) rest = inl (omega (arith, f, g))
number_trans l m n (inl f) (inr g) rest = inl (omega (arith, f, g.0))
number_trans l m n (inr f) (inl g) rest = inl (omega (arith, f.0, g))
number_trans l m n (inr f) (inr g) rest = inr (f.0 ∙ g.0, rest f.1 g.1)
