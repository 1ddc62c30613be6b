-- Blocks added one after another.
use Rattle.std.proofs.Common.{◌≡◌, ℕ, zero, suc, ◌+◌, ◌*◌, ◌%◌, ◌≤◌, List, ◌++◌, length, take, refl, ap, ◌∙◌, arith, add-one, add-zero}
use Rattle.std.specs.Simd.Lanes.{chunk}
use Rattle.md5.specs.Md5.{compress, IsAbsorbed}
use Rattle.md5.proofs.Absorbing.{IsAbsorbed_block}
use Rattle.sw_md5.specs.Side.{blocks_from}

pub blocks_from-none : (h m : List ℕ) (at : ℕ) → blocks_from h m at 0 ≡ h
unfolding blocks_from
blocks_from-none h m at = refl

pub blocks_from-more : (h m : List ℕ) (at n : ℕ) (before after : List ℕ) → before ≡ blocks_from h m at n → after ≡ compress before (chunk (at + 64 * n) 64 m) → after ≡ blocks_from h m at (n + 1)
unfolding blocks_from
blocks_from-more h m at n before after e f = f ∙ ap (λ b. compress b (chunk (at + 64 * n) 64 m)) e ∙ rw add-one refl

-- whole blocks of bytes that a message goes on by, once it ends at the end of a block
pub blocks_absorbed : (h b m d : List ℕ) (at n : ℕ) → IsAbsorbed h b (m ++ take at d) → (length m + at) % 64 ≡ 0 → at + 64 * n ≤ length d
    → IsAbsorbed (blocks_from h d at n) b (m ++ take (at + 64 * n) d)
unfolding blocks_from
blocks_absorbed h b m d at zero held edge fits = rw add-zero held
blocks_absorbed h b m d at (suc n) held edge fits =
    let before = blocks_absorbed h b m d at n held edge (omega arith) in
    let next : at + 64 * n + 64 ≡ at + 64 * suc n = omega arith in
    let ends : (length m + (at + 64 * n)) % 64 ≡ 0 = omega arith in
    rw next at (IsAbsorbed_block (blocks_from h d at n) b m d (chunk (at + 64 * n) 64 d) (at + 64 * n) before ends (omega arith) refl)
