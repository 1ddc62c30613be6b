-- What the operations on vectors hold at each lane.
use Rattle.std.proofs.Common.{◌≡◌, ℕ, ◌-◌, ◌*◌, ◌/◌, ◌%◌, ◌^◌, ◌<◌, List, length, get_or, map, replicate, refl, sym, ap, ap₂, ◌∙◌, arith, bit_or}
use Rattle.std.specs.Int.{w32, rotate_left}
use Rattle.std.specs.Simd.Lanes.{zip2}
use Rattle.std.proofs.lemmas.List.{length-map, get_or-map, length-replicate}
use Rattle.std.proofs.lemmas.Simd.{length-zip2, get_or-zip2, get_or-replicate}

-- v has n lanes, and lane j holds f j
pub record HasLanes (n : ℕ) (v : List ℕ) (f : ℕ → ℕ) : Type 0 where
  pub long : length v ≡ n
  pub each : (j : ℕ) → j < n → get_or v j 0 ≡ f j

-- a vector's own lanes
pub own : (n : ℕ) (v : List ℕ) → length v ≡ n → HasLanes n v (λ j. get_or v j 0)
own n v long = record { long = long; each = λ j h. refl }

-- one word in all lanes
pub splatted : (n x : ℕ) → HasLanes n (replicate n x) (λ j. x)
splatted n x = record { long = length-replicate {A = ℕ} n x; each = λ j h. get_or-replicate n j x 0 h }

-- an operator on two vectors
pub zipped : {n : ℕ} (f : ℕ → ℕ → ℕ) (a b : List ℕ) (g h : ℕ → ℕ) → HasLanes n a g → HasLanes n b h → HasLanes n (zip2 f a b) (λ j. f (g j) (h j))
zipped f a b g h p q = record {
  long = length-zip2 f a b (p.long ∙ sym q.long) ∙ p.long;
  each = λ j l. get_or-zip2 f a b j 0 0 0 (omega (arith, p.long)) (omega (arith, q.long)) ∙ ap₂ f (p.each j l) (q.each j l);
}

-- an operator on one
pub mapped : {n : ℕ} (f : ℕ → ℕ) (a : List ℕ) (g : ℕ → ℕ) → HasLanes n a g → HasLanes n (map f a) (λ j. f (g j))
mapped f a g p = record {
  long = length-map a f ∙ p.long;
  each = λ j l. get_or-map f a j 0 0 (omega (arith, p.long)) ∙ ap f (p.each j l);
}

-- two shifts and an or are a rotation
rotation : (x s : ℕ) → 0 < s → s < 32 → bit_or (x * 2 ^ s % 2 ^ 32) (x / 2 ^ (32 - s)) ≡ rotate_left w32 x s
rotation x s low high =
    let left : s % 32 ≡ s = omega arith in
    let right : (32 - s) % 32 ≡ 32 - s = omega arith in
    rw (left, right) refl

pub rotates : (n s : ℕ) (x : List ℕ) → length x ≡ n → 0 < s → s < 32 → (j : ℕ) → j < n
    → get_or (zip2 bit_or (zip2 (λ x n. x * 2 ^ n % 2 ^ 32) x (replicate n s)) (zip2 (λ x n. x / 2 ^ n) x (replicate n (32 - s)))) j 0 ≡ rotate_left w32 (get_or x j 0) s
rotates n s x long some most j h =
    let v = own n x long in
    (zipped bit_or _ _ _ _ (zipped (λ x n. x * 2 ^ n % 2 ^ 32) _ _ _ _ v (splatted n s)) (zipped (λ x n. x / 2 ^ n) _ _ _ _ v (splatted n (32 - s)))).each j h
    ∙ rotation (get_or x j 0) s some most
