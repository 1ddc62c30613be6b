-- Digests under way, and the messages that they are of.
use Rattle.std.specs.Prelude.{◌≡◌, ℕ, ◌%◌, ◌^◌, ◌<◌, List, ◌++◌, length}
use Rattle.std.specs.Simd.Lanes.{zip2}
use Rattle.md5.specs.Md5.{IsAbsorbed}
use Rattle.sw_md5.specs.Side.{item}
use Rattle.sw_md5.specs.declared.digests.Digests.{Digests}

-- how many messages there are
abbrev pub count_of : Digests → ℕ
count_of digests = digests.count

-- each message is this one so far, in order
pub record HoldsMessages (digests : Digests) (messages : List (List ℕ)) : Type 0 where
  pub each : length messages ≡ digests.count
  pub total : (i : ℕ) → i < length messages → digests.total ≡ length (item messages i) % 2 ^ 64
  pub absorbed : (i : ℕ) → i < length messages → IsAbsorbed (item digests.states i) (item digests.rests i) (item messages i)

-- each message with its piece behind it
abbrev pub joined : List (List ℕ) → List (List ℕ) → List (List ℕ)
joined = zip2 (λ message piece. message ++ piece)
