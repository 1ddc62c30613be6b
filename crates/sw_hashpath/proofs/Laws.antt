-- The partition of a hash is one of those that there are.
use Rattle.std.proofs.Common.{◌≡◌, ℕ, ◌+◌, ◌-◌, ◌*◌, ◌/◌, ◌^◌, ◌<◌, ◌≤◌, List, take, arith}
use Rattle.std.specs.Int.{from_be_bytes, w32}
use Rattle.std.proofs.Math.Nat.{div-lt_iff_lt-mul, pow-le-pow_right}
use Rattle.std.proofs.lemmas.Nat.{pow-add, pow_pos}
use Rattle.sw_words.proofs.ByteLists.{IsBytes-take}
use Rattle.sw_words.specs.Bytes.{IsBytes}
use Rattle.sw_hashpath.specs.Place.{IsHash, part_of}

word_small : (bytes : List ℕ) → IsBytes bytes → from_be_bytes w32 bytes < 2 ^ 32
word_small bytes are = omega (arith, are 0, are 1, are 2, are 3)

-- the highest bits of a number of 32 bits
pub high_bits : (word power : ℕ) → word < 2 ^ 32 → word / 2 ^ (32 - power) < 2 ^ power
high_bits word power small =
    let split : 2 ^ (power + (32 - power)) ≡ 2 ^ power * 2 ^ (32 - power) = pow-add 2 power (32 - power) in
    let wide : 2 ^ 32 ≤ 2 ^ (power + (32 - power)) = pow-le-pow_right {n = 2} (omega arith) {i = 32} {j = power + (32 - power)} (omega arith) in
    (div-lt_iff_lt-mul (pow_pos (32 - power))).1 (omega (arith, small, wide, split))

-- the partition of a hash
pub part_below : (hash : List ℕ) (power : ℕ) → IsHash hash → part_of hash power < 2 ^ power
part_below hash power is_hash =
    high_bits (from_be_bytes w32 (take 4 hash)) power (word_small (take 4 hash) (IsBytes-take 4 hash is_hash.bytes))
