-- What an inverse matrix undoes, by the exchange of sums.
use Rattle.std.proofs.Common.{◌≡◌, ℕ, zero, suc, ◌<◌, ◌==◌, if◌then◌else◌, refl, sym, ap₂, ◌∙◌, bit_xor}
use Rattle.sw_gf256.specs.Field.{product}
use Rattle.sw_gf256.proofs.Linear.{xor_swap}
use Rattle.sw_gf256.proofs.FieldLaws.{product_assoc, product_xor, product_zero, zero_product}
use Rattle.sw_cauchy.specs.Matrix.{row_sum}
use Rattle.sw_cauchy.proofs.FieldAlgebra.{xor_product}
use Rattle.sw_cauchy.proofs.RowSums.{row_sum-same, row_sum-lt, row_sum-unit}

-- a sum over a column of zeros
row_sum-zeros : (count : ℕ) (f : ℕ → ℕ) → row_sum count f (λ j. 0) ≡ 0
unfolding row_sum
row_sum-zeros zero f = refl
row_sum-zeros (suc n) f = ap₂ bit_xor (row_sum-zeros n f) (product_zero (f n))

-- a sum over a column of sums
row_sum-columns : (count : ℕ) (f x y : ℕ → ℕ) → row_sum count f (λ j. bit_xor (x j) (y j)) ≡ bit_xor (row_sum count f x) (row_sum count f y)
unfolding row_sum
row_sum-columns zero f x y = refl
row_sum-columns (suc n) f x y =
    ap₂ bit_xor (row_sum-columns n f x y) (product_xor (f n) (x n) (y n))
    ∙ xor_swap (row_sum n f x) (row_sum n f y) (product (f n) (x n)) (product (f n) (y n))

-- a sum times an element
row_sum-product : (count : ℕ) (f x : ℕ → ℕ) (c : ℕ) → ((j : ℕ) → f j < 256) → ((j : ℕ) → x j < 256) → c < 256
    → product (row_sum count f x) c ≡ row_sum count f (λ j. product (x j) c)
unfolding row_sum
row_sum-product zero f x c fs xs cs = zero_product c
row_sum-product (suc n) f x c fs xs cs =
    xor_product (row_sum n f x) (product (f n) (x n)) c
    ∙ ap₂ bit_xor (row_sum-product n f x c fs xs cs) (product_assoc (f n) (x n) c (fs n) (xs n) cs)

-- a row times a matrix, times a column, is the row times the matrix times the column
row_sum-assoc : (m n : ℕ) (f : ℕ → ℕ) (matrix : ℕ → ℕ → ℕ) (x : ℕ → ℕ) → ((j : ℕ) → f j < 256) → ((j t : ℕ) → matrix j t < 256) → ((t : ℕ) → x t < 256)
    → row_sum m (λ t. row_sum n f (λ j. matrix j t)) x ≡ row_sum n f (λ j. row_sum m (matrix j) x)
unfolding row_sum
row_sum-assoc zero n f matrix x fs ms xs = sym (row_sum-zeros n f)
row_sum-assoc (suc m) n f matrix x fs ms xs =
    ap₂ bit_xor (row_sum-assoc m n f matrix x fs ms xs) (row_sum-product n f (λ j. matrix j m) (x m) fs (λ j. ms j m) (xs m))
    ∙ sym (row_sum-columns n f (λ j. row_sum m (matrix j) x) (λ j. product (matrix j m) (x m)))

-- the rows of one matrix times the columns of another are unit rows
pub record Undoes (k : ℕ) (inverse matrix : ℕ → ℕ → ℕ) : Type 0 where
  pub units : (i j : ℕ) → i < k → j < k → row_sum k (inverse i) (λ t. matrix t j) ≡ (if i == j then 1 else 0)
  pub inverse_bytes : (i t : ℕ) → inverse i t < 256
  pub matrix_bytes : (t j : ℕ) → matrix t j < 256

-- an inverse matrix undoes a matrix
pub undone : (k : ℕ) (inverse matrix : ℕ → ℕ → ℕ) (x : ℕ → ℕ) → Undoes k inverse matrix → ((j : ℕ) → x j < 256) → (i : ℕ) → i < k
    → row_sum k (inverse i) (λ t. row_sum k (matrix t) x) ≡ x i
undone k inverse matrix x undoes xs i h =
    sym (row_sum-assoc k k (inverse i) matrix x (undoes.inverse_bytes i) undoes.matrix_bytes xs)
    ∙ row_sum-unit k i _ x h (λ j l. undoes.units i j h l) (xs i)

-- so a row times the inverse, times what the matrix makes of a column, is the row times the column
pub undone_in_row : (k : ℕ) (row : ℕ → ℕ) (inverse matrix : ℕ → ℕ → ℕ) (x : ℕ → ℕ) → Undoes k inverse matrix → ((j : ℕ) → row j < 256) → ((j : ℕ) → x j < 256)
    → row_sum k (λ t. row_sum k row (λ j. inverse j t)) (λ t. row_sum k (matrix t) x) ≡ row_sum k row x
undone_in_row k row inverse matrix x undoes rs xs =
    row_sum-assoc k k row inverse (λ t. row_sum k (matrix t) x) rs undoes.inverse_bytes
    (λ t. row_sum-lt k (matrix t) x (λ j l. undoes.matrix_bytes t j) (λ j l. xs j))
    ∙ row_sum-same k row row _ x (λ j l. refl) (undone k inverse matrix x undoes xs)

-- a matrix whose inverse has an inverse, too, is that one's inverse
pub undoes_both : (k : ℕ) (second inverse matrix : ℕ → ℕ → ℕ) → Undoes k second inverse → Undoes k inverse matrix
    → (i j : ℕ) → i < k → j < k → row_sum k (matrix i) (λ t. inverse t j) ≡ (if i == j then 1 else 0)
undoes_both k second inverse matrix first undoes i j h l =
    let column : ℕ → ℕ = λ t. inverse t j in
    let small : (t : ℕ) → column t < 256 = λ t. first.matrix_bytes t j in
    let made : ℕ → ℕ = λ t. row_sum k (matrix t) column in
    let made_small : (t : ℕ) → made t < 256 = λ t. row_sum-lt k (matrix t) column (λ s m. undoes.matrix_bytes t s) (λ s m. small s) in
    sym (undone k second inverse made first made_small i h)
    ∙ row_sum-same k (second i) (second i) _ column (λ t m. refl) (undone k inverse matrix column undoes small)
    ∙ first.units i j h l
