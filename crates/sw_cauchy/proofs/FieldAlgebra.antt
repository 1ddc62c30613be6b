-- Laws of the field in the forms that sums of products need.
use Rattle.std.proofs.Common.{◌≡◌, ◌≢◌, ℕ, ◌<◌, sym, ap, ap₂, ◌∙◌, arith, bit_xor}
use lib.Bits.{xor_comm, xor_self, xor_zero_r, xor_zero_l, xor_lt}
use Rattle.sw_gf256.specs.Field.{product, inverse}
use Rattle.sw_gf256.proofs.Linear.{xor_swap, xor_twice}
use Rattle.sw_gf256.proofs.Products.{product-left, product_lt}
use Rattle.sw_gf256.proofs.FieldLaws.{product_assoc, product_comm, one_product, product_zero, product_inverse, inverse_lt}

-- ---- sums

-- the sum of two elements is one
pub xor_byte : (a b : ℕ) → a < 256 → b < 256 → bit_xor a b < 256
xor_byte a b h k = xor_lt 8 a b h k

-- two numbers whose sum is 0 are one
pub same_from_xor : (a b : ℕ) → bit_xor a b ≡ 0 → a ≡ b
same_from_xor a b none = sym (xor_zero_r a) ∙ ap (bit_xor a) (sym none) ∙ xor_twice a b

-- the sum of two that differ is not 0
pub pos-xor : (a b : ℕ) → a ≢ b → 0 < bit_xor a b
pos-xor a b other =
    let some : bit_xor a b ≢ 0 = (λ none. other (same_from_xor a b none)) in
    omega arith

-- the sum of two sums with a common part
pub xor_common : (a b c : ℕ) → bit_xor (bit_xor a c) (bit_xor b c) ≡ bit_xor a b
xor_common a b c = xor_swap a c b c ∙ ap (bit_xor (bit_xor a b)) (xor_self c) ∙ xor_zero_r (bit_xor a b)

-- ---- products

-- the product distributes over sums in its first factor
pub xor_product : (a b c : ℕ) → product (bit_xor a b) c ≡ bit_xor (product a c) (product b c)
xor_product a b c = (product-left c).keeps a b

-- the order of two factors is free
product_swap : (a b c : ℕ) → a < 256 → b < 256 → c < 256 → product a (product b c) ≡ product b (product a c)
product_swap a b c ha hb hc =
    sym (product_assoc a b c ha hb hc) ∙ ap (λ x. product x c) (product_comm a b ha hb) ∙ product_assoc b a c hb ha hc

-- an element times its inverse leaves the third factor
pub product-cancel : (a b : ℕ) → 0 < a → a < 256 → b < 256 → product a (product (inverse a) b) ≡ b
product-cancel a b pos ha hb =
    sym (product_assoc a (inverse a) b ha (inverse_lt a) hb) ∙ ap (λ x. product x b) (product_inverse a pos ha) ∙ one_product b hb

-- a product with an inverse is 0 only where the other factor is
pub zero_from_inverse : (a b : ℕ) → 0 < a → a < 256 → b < 256 → product (inverse a) b ≡ 0 → b ≡ 0
zero_from_inverse a b pos ha hb none =
    sym (product-cancel a b pos ha hb) ∙ ap (product a) none ∙ product_zero a

-- a product with a factor other than 0 is 0 only where the other factor is
pub zero_from_product : (a b : ℕ) → 0 < a → a < 256 → b < 256 → product a b ≡ 0 → b ≡ 0
zero_from_product a b pos ha hb none =
    sym (product-cancel a b pos ha hb)
    ∙ product_swap a (inverse a) b ha (inverse_lt a) hb
    ∙ ap (product (inverse a)) none ∙ product_zero (inverse a)

-- With one pivot, an entry of a Cauchy matrix becomes an entry of such a matrix again, up to factors of its row and column:
-- (a + b) / a * (c / b) = (a + c) / a + (b + c) / b.
pub eliminated : (a b c v : ℕ) → 0 < a → 0 < b → a < 256 → b < 256 → c < 256 → v < 256
    → product (bit_xor a b) (product (inverse a) (product c (product (inverse b) v)))
    ≡ bit_xor (product (bit_xor a c) (product (inverse a) v)) (product (bit_xor b c) (product (inverse b) v))
eliminated a b c v apos bpos ha hb hc hv =
    xor_product a b (product (inverse a) (product c over_b))
    ∙ ap₂ bit_xor first second
    ∙ sym (ap₂ bit_xor (side a apos ha) (side b bpos hb) ∙ xor_swap v (product c over_a) v (product c over_b)
    ∙ ap (λ x. bit_xor x (bit_xor (product c over_a) (product c over_b))) (xor_self v)
    ∙ xor_zero_l (bit_xor (product c over_a) (product c over_b)) ∙ xor_comm (product c over_a) (product c over_b))
  where
    over_a : ℕ
    over_a = product (inverse a) v

    over_b : ℕ
    over_b = product (inverse b) v

    b_lt : over_b < 256
    b_lt = product_lt (inverse b) v (inverse_lt b) hv

    first : product a (product (inverse a) (product c over_b)) ≡ product c over_b
    first = product-cancel a (product c over_b) apos ha (product_lt c over_b hc b_lt)

    second : product b (product (inverse a) (product c over_b)) ≡ product c over_a
    second =
        product_swap b (inverse a) (product c over_b) hb (inverse_lt a) (product_lt c over_b hc b_lt)
        ∙ ap (product (inverse a)) (product_swap b c over_b hb hc b_lt ∙ ap (product c) (product-cancel b v bpos hb hv))
        ∙ product_swap (inverse a) c v (inverse_lt a) hc hv

    side : (x : ℕ) → 0 < x → x < 256 → product (bit_xor x c) (product (inverse x) v) ≡ bit_xor v (product c (product (inverse x) v))
    side x pos hx =
        xor_product x c (product (inverse x) v) ∙ ap (λ y. bit_xor y (product c (product (inverse x) v))) (product-cancel x v pos hx hv)

-- an inverse is not 0
pub inverse-pos : (a : ℕ) → 0 < a → a < 256 → 0 < inverse a
inverse-pos a pos h =
    let some : inverse a ≢ 0 = (λ none. omega (arith, sym (product_inverse a pos h) ∙ ap (product a) none ∙ product_zero a)) in
    omega arith
