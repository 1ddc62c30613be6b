-- A digest is a hash.
use Rattle.std.proofs.Common.{ℕ, zero, suc, ◌<◌, List, slice_index, lit<, arith}
use Rattle.std.specs.Int.{byte_at, bytes_low_first}
use Rattle.md5.proofs.StandardFacts.{length-md5}
use Rattle.md5.specs.Md5.{digest_bytes, md5}
use Rattle.sw_words.proofs.ByteLists.{IsBytes-append, IsBytes-none}
use Rattle.sw_words.specs.Bytes.{IsBytes}
use Rattle.sw_hashpath.specs.Place.{IsHash}

byte_small : (i n : ℕ) → byte_at i n < 256
byte_small zero n = omega arith
byte_small (suc i) n = omega arith

IsBytes-low_first : (i count n : ℕ) → IsBytes (bytes_low_first i count n)
IsBytes-low_first i zero n position = lit< tt
IsBytes-low_first i (suc count) n zero = byte_small i n
IsBytes-low_first i (suc count) n (suc position) = IsBytes-low_first (suc i) count n position

IsBytes-digest : (words : List ℕ) (count : ℕ) → IsBytes (digest_bytes words count)
unfolding digest_bytes
IsBytes-digest words zero = IsBytes-none
IsBytes-digest words (suc count) = IsBytes-append (digest_bytes words count) (bytes_low_first 0 4 (slice_index words count)) (IsBytes-digest words count) (IsBytes-low_first 0 4 (slice_index words count))

-- a digest is of bytes
pub IsBytes-md5 : (message : List ℕ) → IsBytes (md5 message)
unfolding md5
IsBytes-md5 message = IsBytes-digest _ 4

-- and there are sixteen
pub IsHash-md5 : (message : List ℕ) → IsHash (md5 message)
IsHash-md5 message = record { sixteen = length-md5 message; bytes = IsBytes-md5 message }
