-- Lists in which no number stands twice, and sums over them.
use Rattle.std.proofs.Common.{◌≡◌, ◌≢◌, ◌⊎◌, ℕ, zero, suc, ◌<◌, List, [], ◌∷◌, length, refl, sym, ap, ap₂, subst, ◌∙◌, inl, inr, arith, bit_xor}
use Rattle.std.proofs.lemmas.Bool.{cases_eq}
use lib.Bits.{xor_assoc, xor_comm, xor_zero_r}
use Rattle.sw_gf256.specs.Field.{product}
use Rattle.sw_gf256.proofs.Linear.{xor_swap}
use Rattle.sw_gf256.proofs.FieldLaws.{product_xor, product_zero}
use Rattle.sw_cauchy.specs.Matrix.{row_sum}
use Rattle.sw_cauchy.proofs.FieldAlgebra.{xor_byte}

-- ---- lists of numbers

-- x stands in the list
abbrev pub Has : List ℕ → ℕ → Type 0
Has [] x = ⊥
Has (y ∷ ys) x = (y ≡ x) ⊎ Has ys x

-- no number stands twice
abbrev pub Differ : List ℕ → Type 0
Differ [] = Unit {0}
Differ (y ∷ ys) = (Has ys y → ⊥) × Differ ys

-- the second list is the first with one x left out
pub data LeftOut : List ℕ → ℕ → List ℕ → Type 0 where
  first : {x : ℕ} {ys : List ℕ} → LeftOut (x ∷ ys) x ys
  later : {x y : ℕ} {ys zs : List ℕ} → LeftOut ys x zs → LeftOut (y ∷ ys) x (y ∷ zs)

-- what stands in a list can be left out
pub leave_out : (ys : List ℕ) (x : ℕ) → Has ys x → (zs : List ℕ) × LeftOut ys x zs
leave_out [] x h = absurd h
leave_out (y ∷ ys) x (inl e) = (ys, rw e first)
leave_out (y ∷ ys) x (inr h) = let rest = leave_out ys x h in (y ∷ rest.0, later rest.1)

-- one number less
pub length-left_out : {ys zs : List ℕ} {x : ℕ} → LeftOut ys x zs → length ys ≡ suc (length zs)
length-left_out first = refl
length-left_out (later r) = ap suc (length-left_out r)

-- what stands in the list is what was left out, or still stands there
pub left_out_cases : {ys zs : List ℕ} {x : ℕ} → LeftOut ys x zs → (z : ℕ) → Has ys z → (x ≡ z) ⊎ Has zs z
left_out_cases first z h = h
left_out_cases (later r) z (inl e) = inr (inl e)
left_out_cases (later r) z (inr h) = elim (left_out_cases r z h) [ inl e ↦ inl e | inr k ↦ inr (inr k) ]

-- what still stands stood in the list
pub left_out_from : {ys zs : List ℕ} {x : ℕ} → LeftOut ys x zs → (z : ℕ) → Has zs z → Has ys z
left_out_from first z h = inr h
left_out_from (later r) z (inl e) = inl e
left_out_from (later r) z (inr h) = inr (left_out_from r z h)

-- and so did what was left out
left_out_itself : {ys zs : List ℕ} {x : ℕ} → LeftOut ys x zs → Has ys x
left_out_itself first = inl refl
left_out_itself (later r) = inr (left_out_itself r)

-- where no number stands twice, none does in what is left, nor does the one left out
pub differ_left_out : {ys zs : List ℕ} {x : ℕ} → LeftOut ys x zs → Differ ys → (Has zs x → ⊥) × Differ zs
differ_left_out first d = d
differ_left_out {x = x} (later r) d =
    let rest = differ_left_out r d.1 in
    (λ h. elim h [ inl e ↦ d.0 (rw e (left_out_itself r)) | inr k ↦ rest.0 k ], (λ h. d.0 (left_out_from r _ h), rest.1))

-- the numbers below n
abbrev pub below : ℕ → List ℕ
below zero = []
below (suc n) = n ∷ below n

-- there are n of them
pub length-below : (n : ℕ) → length (below n) ≡ n
length-below zero = refl
length-below (suc n) = ap suc (length-below n)

-- each number below n stands there
pub Has-below : (n x : ℕ) → x < n → Has (below n) x
Has-below zero x h = absurd (omega arith)
Has-below (suc n) x h = elim (cases_eq n x) [ inl e ↦ inl e | inr other ↦ inr (Has-below n x (omega arith)) ]

-- and no other
pub below-lt : (n x : ℕ) → Has (below n) x → x < n
below-lt zero x h = absurd h
below-lt (suc n) x (inl e) = omega arith
below-lt (suc n) x (inr h) = omega (arith, below-lt n x h)

-- none twice
pub differ_below : (n : ℕ) → Differ (below n)
differ_below zero = tt
differ_below (suc n) = (λ h. omega (arith, below-lt n n h), differ_below n)

-- ---- sums over a list

-- the sum of a function's values
abbrev pub sum_over : List ℕ → (ℕ → ℕ) → ℕ
sum_over [] f = 0
sum_over (x ∷ xs) f = bit_xor (f x) (sum_over xs f)

-- of two functions that are the same at each number
pub sum_same : (xs : List ℕ) (f g : ℕ → ℕ) → ((x : ℕ) → Has xs x → f x ≡ g x) → sum_over xs f ≡ sum_over xs g
sum_same [] f g same = refl
sum_same (x ∷ xs) f g same = ap₂ bit_xor (same x (inl refl)) (sum_same xs f g (λ y h. same y (inr h)))

-- of zeros
pub sum_zero : (xs : List ℕ) (f : ℕ → ℕ) → ((x : ℕ) → Has xs x → f x ≡ 0) → sum_over xs f ≡ 0
sum_zero [] f none = refl
sum_zero (x ∷ xs) f none = ap₂ bit_xor (none x (inl refl)) (sum_zero xs f (λ y h. none y (inr h)))

-- of sums
pub sum_xor : (xs : List ℕ) (f g : ℕ → ℕ) → sum_over xs (λ x. bit_xor (f x) (g x)) ≡ bit_xor (sum_over xs f) (sum_over xs g)
sum_xor [] f g = refl
sum_xor (x ∷ xs) f g = ap (bit_xor (bit_xor (f x) (g x))) (sum_xor xs f g) ∙ xor_swap (f x) (g x) (sum_over xs f) (sum_over xs g)

-- of multiples
pub sum_product : (xs : List ℕ) (c : ℕ) (f : ℕ → ℕ) → sum_over xs (λ x. product c (f x)) ≡ product c (sum_over xs f)
sum_product [] c f = sym (product_zero c)
sum_product (x ∷ xs) c f = ap (bit_xor (product c (f x))) (sum_product xs c f) ∙ sym (product_xor c (f x) (sum_over xs f))

-- of elements
pub sum_lt : (xs : List ℕ) (f : ℕ → ℕ) → ((x : ℕ) → Has xs x → f x < 256) → sum_over xs f < 256
sum_lt [] f low = omega arith
sum_lt (x ∷ xs) f low = xor_byte (f x) (sum_over xs f) (low x (inl refl)) (sum_lt xs f (λ y h. low y (inr h)))

-- the one left out and the rest
pub sum_left_out : {ys zs : List ℕ} {x : ℕ} → LeftOut ys x zs → (f : ℕ → ℕ) → sum_over ys f ≡ bit_xor (f x) (sum_over zs f)
sum_left_out first f = refl
sum_left_out {x = x} (later {y = y} {zs = zs} r) f =
    ap (bit_xor (f y)) (sum_left_out r f)
    ∙ sym (xor_assoc (f y) (f x) (sum_over zs f)) ∙ ap (λ n. bit_xor n (sum_over zs f)) (xor_comm (f y) (f x))
    ∙ xor_assoc (f x) (f y) (sum_over zs f)

-- a sum of which only one term is not zero
pub sum_only : (xs : List ℕ) (i : ℕ) (f : ℕ → ℕ) → Differ xs → Has xs i → ((x : ℕ) → Has xs x → x ≢ i → f x ≡ 0) → sum_over xs f ≡ f i
sum_only xs i f differ has none =
    let out = leave_out xs i has in
    sum_left_out out.1 f
    ∙ ap (bit_xor (f i))
    (sum_zero out.0 f (λ x k. none x (left_out_from out.1 x k) (λ e. (differ_left_out out.1 differ).0 (subst (Has out.0) e k))))
    ∙ xor_zero_r (f i)

-- the sum of a row's products with a column is the sum over all positions
pub row_sum-over : (k : ℕ) (row column : ℕ → ℕ) → row_sum k row column ≡ sum_over (below k) (λ x. product (row x) (column x))
unfolding row_sum
row_sum-over zero row column = refl
row_sum-over (suc k) row column =
    ap (λ n. bit_xor n (product (row k) (column k))) (row_sum-over k row column)
    ∙ xor_comm (sum_over (below k) (λ x. product (row x) (column x))) (product (row k) (column k))
