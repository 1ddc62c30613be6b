-- The sum of a row's products with a column.
use Rattle.std.proofs.Common.{◌≡◌, ℕ, ◌<◌, ◌==◌, cond, refl, sym, ap, ap₂, ◌∙◌, bit_xor}
use Rattle.std.proofs.lemmas.Bool.{eq-eqb, ne_eqb}
use Rattle.sw_gf256.specs.Field.{product}
use Rattle.sw_gf256.proofs.FieldLaws.{product_assoc, zero_product, one_product}
use Rattle.sw_cauchy.specs.Matrix.{row_sum}
use Rattle.sw_cauchy.proofs.FieldAlgebra.{xor_product}
use Rattle.sw_cauchy.proofs.ColumnSums.{below, Has-below, below-lt, differ_below, sum_same, sum_xor, sum_product, sum_lt, sum_only, row_sum-over}
use Rattle.sw_gf256.proofs.Products.{product_lt}

-- rows and columns that are the same at each position
pub row_sum-same : (k : ℕ) (x y c d : ℕ → ℕ) → ((t : ℕ) → t < k → x t ≡ y t) → ((t : ℕ) → t < k → c t ≡ d t) → row_sum k x c ≡ row_sum k y d
row_sum-same k x y c d rows columns =
    row_sum-over k x c ∙ sum_same (below k) _ _ (λ t h. ap₂ product (rows t (below-lt k t h)) (columns t (below-lt k t h))) ∙ sym (row_sum-over k y d)

-- the sum is an element
pub row_sum-lt : (k : ℕ) (x c : ℕ → ℕ) → ((t : ℕ) → t < k → x t < 256) → ((t : ℕ) → t < k → c t < 256) → row_sum k x c < 256
row_sum-lt k x c rows columns =
    rw (row_sum-over k x c) (sum_lt (below k) (λ t. product (x t) (c t)) (λ t h. product_lt (x t) (c t) (rows t (below-lt k t h)) (columns t (below-lt k t h))))

-- a multiple of a row
pub row_sum-scaled : (k : ℕ) (x z c : ℕ → ℕ) (f : ℕ) → f < 256 → ((t : ℕ) → t < k → z t ≡ product f (x t))
    → ((t : ℕ) → t < k → x t < 256) → ((t : ℕ) → t < k → c t < 256) → row_sum k z c ≡ product f (row_sum k x c)
row_sum-scaled k x z c f low multiple rows columns =
    row_sum-over k z c
    ∙ sum_same (below k) _ _ (λ t h.
    let within = below-lt k t h in
    ap (λ n. product n (c t)) (multiple t within) ∙ product_assoc f (x t) (c t) low (rows t within) (columns t within))
    ∙ sum_product (below k) f (λ t. product (x t) (c t)) ∙ ap (product f) (sym (row_sum-over k x c))

-- the sum of two rows
row_sum-xor : (k : ℕ) (x y z c : ℕ → ℕ) → ((t : ℕ) → t < k → z t ≡ bit_xor (x t) (y t)) → row_sum k z c ≡ bit_xor (row_sum k x c) (row_sum k y c)
row_sum-xor k x y z c sums =
    row_sum-over k z c
    ∙ sum_same (below k) _ _ (λ t h. ap (λ n. product n (c t)) (sums t (below-lt k t h)) ∙ xor_product (x t) (y t) (c t))
    ∙ sum_xor (below k) (λ t. product (x t) (c t)) (λ t. product (y t) (c t))
    ∙ ap₂ bit_xor (sym (row_sum-over k x c)) (sym (row_sum-over k y c))

-- a row and a multiple of another
pub row_sum-added : (k : ℕ) (x y z c : ℕ → ℕ) (f : ℕ) → f < 256 → ((t : ℕ) → t < k → z t ≡ bit_xor (x t) (product f (y t)))
    → ((t : ℕ) → t < k → y t < 256) → ((t : ℕ) → t < k → c t < 256) → row_sum k z c ≡ bit_xor (row_sum k x c) (product f (row_sum k y c))
row_sum-added k x y z c f low sums rows columns =
    row_sum-xor k x (λ t. product f (y t)) z c sums
    ∙ ap (bit_xor (row_sum k x c)) (row_sum-scaled k y (λ t. product f (y t)) c f low (λ t h. refl) rows columns)

-- a row of the unit matrix
pub row_sum-unit : (k i : ℕ) (x c : ℕ → ℕ) → i < k → ((t : ℕ) → t < k → x t ≡ cond (i == t) 1 0) → c i < 256 → row_sum k x c ≡ c i
row_sum-unit k i x c low unit byte =
    row_sum-over k x c
    ∙ sum_only (below k) i (λ t. product (x t) (c t)) (differ_below k) (Has-below k i low)
    (λ t h other. ap (λ n. product n (c t)) (unit t (below-lt k t h) ∙ ap (λ b. cond b 1 0) (ne_eqb i t (λ e. other (sym e)))) ∙ zero_product (c t))
    ∙ ap (λ n. product n (c i)) (unit i low ∙ ap (λ b. cond b 1 0) (eq-eqb i i refl)) ∙ one_product (c i) byte
