-- Fragments that were gathered to decode a segment.
use Rattle.std.specs.Prelude.{◌≡◌, ◌≢◌, ◌≤◌, ◌<◌, ℕ, List, length}
use Rattle.std.specs.List.{All, AllPairs}
use Rattle.sw_words.specs.Bytes.{IsBytes}
use Rattle.sw_cauchy.specs.Stripe.{fragment}

-- a fragment and its index
pub record Share : Type 0 where
  pub index : ℕ
  pub bytes : List ℕ

-- what was gathered, of a code of k data and m parity fragments of one width
pub record GatherModel : Type 0 where
  pub k : ℕ
  pub m : ℕ
  pub width : ℕ
  pub shares : List Share

-- each share is that fragment of these pieces
abbrev pub AreFragments : ℕ → ℕ → List ℕ → List Share → Type 0
AreFragments k width pieces shares = All (λ share. share.bytes ≡ fragment k width pieces share.index) shares

-- k shares of so many bytes each, of different indices
pub record AreShares (k width : ℕ) (shares : List Share) : Type 0 where
  pub small : k ≤ 256
  pub count : length shares ≡ k
  pub below : All (λ share. share.index < 256) shares
  pub distinct : AllPairs (λ s t. s.index ≢ t.index) shares
  pub bytes : All (λ share. IsBytes share.bytes) shares
  pub wide : All (λ share. length share.bytes ≡ width) shares
