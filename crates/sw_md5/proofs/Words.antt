-- The words of a block, in the lanes and as the definition has them.
use Rattle.std.proofs.Common.{◌≡◌, ℕ, ◌+◌, ◌*◌, ◌<◌, ◌≤◌, Bool, true, nat_lt, List, [], ◌∷◌, length, get_or, map, refl, sym, ap, subst, ◌∙◌, arith, zero-add, ltb-true}
use Rattle.std.specs.Int.{w32, from_le_bytes}
use Rattle.std.specs.List.{list_all, range_with_len}
use Rattle.std.specs.Simd.Lanes.{chunk}
use Rattle.std.proofs.lemmas.List.Sums.{AllPass-from_list_all}
use Rattle.std.proofs.lemmas.List.FromFn.{length-range_with_len, get_or-range_with_len, get_or-map-range_with_len}
use Rattle.std.proofs.lemmas.Simd.{get_or-chunk}
use Rattle.md5.specs.Md5.{step_shifts, word_at, block_words}
use Rattle.md5.proofs.Rounds.{words_are}
use Rattle.sw_md5.specs.Side.{HasWords}

-- each step rotates by some bits, and not by all
pub shift_fits : (t : ℕ) → t < 64 → (0 < get_or step_shifts t 0) × (get_or step_shifts t 0 < 32)
shift_fits t h = (ltb-true _ _ (passes low refl), ltb-true _ _ (passes high refl))
  where
    low : ℕ → Bool
    low n = nat_lt 0 (get_or step_shifts n 0)

    high : ℕ → Bool
    high n = nat_lt (get_or step_shifts n 0) 32

    passes : (test : ℕ → Bool) → list_all test (range_with_len 0 64) ≡ true → test t ≡ true
    passes test e =
        subst (λ n. test n ≡ true) (get_or-range_with_len 0 64 t 0 h ∙ zero-add t)
        (AllPass-from_list_all test (range_with_len 0 64) e t 0 (rw length-range_with_len h))

-- a word of a block
pub word_at-chunk : (m : List ℕ) (at i : ℕ) → i + 4 ≤ 64 → word_at (chunk at 64 m) i ≡ word_at m (at + i)
word_at-chunk m at i h =
    ap from_le_32 (
    (λ t. (get_or-chunk at 64 m i 0 (omega arith) t)
    ∷ ((get_or-chunk at 64 m (i + 1) 0 (omega arith) ∙ ap (λ n. get_or m n 0) (e 1)) t)
    ∷ ((get_or-chunk at 64 m (i + 2) 0 (omega arith) ∙ ap (λ n. get_or m n 0) (e 2)) t)
    ∷ ((get_or-chunk at 64 m (i + 3) 0 (omega arith) ∙ ap (λ n. get_or m n 0) (e 3)) t) ∷ []))
  where
    from_le_32 : List ℕ → ℕ
    from_le_32 = from_le_bytes w32

    e : (n : ℕ) → at + (i + n) ≡ at + i + n
    e n = omega arith

block_word : (block : List ℕ) (k : ℕ) → k < 16 → get_or (block_words block 16) k 0 ≡ word_at block (4 * k)
block_word block k h =
    let words = map (λ k. word_at block (4 * k)) (range_with_len 0 16) in
    let long : length words ≡ 16 = refl in
    let each : (k : ℕ) → k < 16 → get_or words k 0 ≡ word_at block (4 * k) = (λ k l. get_or-map-range_with_len (λ k. word_at block (4 * k)) 0 16 k k 0 l (omega arith)) in
    sym (ap (λ l. get_or l k 0) (words_are block words long each)) ∙ each k h

-- the word that a step reads in a lane
pub word_in : (words : List (List ℕ)) (j k : ℕ) (block : List ℕ) → HasWords words j block → k < 16
    → get_or (get_or words k []) j 0 ≡ get_or (block_words block 16) k 0
word_in words j k block has low = has k low ∙ sym (block_word block k low)

-- the words of a row are those of a block
pub has_words : (words : List (List ℕ)) (j at : ℕ) (m : List ℕ) → ((k : ℕ) → k < 16 → get_or (get_or words k []) j 0 ≡ word_at m (at + 4 * k)) → HasWords words j (chunk at 64 m)
has_words words j at m has k low = has k low ∙ sym (word_at-chunk m at (4 * k) (omega arith))
