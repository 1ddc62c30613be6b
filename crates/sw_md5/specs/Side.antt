-- Messages side by side: each word of their states is a vector, with one lane for each message.
use Rattle.std.specs.Prelude.{◌≡◌, ℕ, zero, suc, ◌+◌, ◌*◌, ◌<◌, ◌≤◌, List, [], ◌∷◌, length, slice_index, slice_index_or}
use Rattle.std.specs.Simd.Lanes.{chunk}
use Rattle.md5.specs.Md5.{word_at, compress}
use Rattle.sw_md5.specs.declared.compress.State.{State}

-- the state in a lane
abbrev pub lane_of : {V : Type 0} → (V → ℕ → ℕ) → State V → ℕ → List ℕ
lane_of lane s j = lane s.a j ∷ lane s.b j ∷ lane s.c j ∷ lane s.d j ∷ []

-- the words in a lane are those of a block
abbrev pub HasWords : List (List ℕ) → ℕ → List ℕ → Type 0
HasWords words j block = (k : ℕ) → k < 16 → slice_index (slice_index_or words k []) j ≡ word_at block (4 * k)

-- each of these lists has so many numbers at least
abbrev pub AllReach : List (List ℕ) → ℕ → Type 0
AllReach lists n = (i : ℕ) → i < length lists → n ≤ length (slice_index_or lists i [])

-- the state after n blocks of some bytes, from byte `at` on
unfoldable pub blocks_from : List ℕ → List ℕ → ℕ → ℕ → List ℕ
blocks_from h bytes at zero = h
blocks_from h bytes at (suc n) = compress (blocks_from h bytes at n) (chunk (at + 64 * n) 64 bytes)

-- a list of some lists
abbrev pub item : List (List ℕ) → ℕ → List ℕ
item lists i = slice_index_or lists i []

-- each of these lists has so many numbers
abbrev pub AreLong : List (List ℕ) → ℕ → Type 0
AreLong lists n = (i : ℕ) → i < length lists → length (slice_index_or lists i []) ≡ n

-- these lists have one length
abbrev pub HaveOneLength : List (List ℕ) → Type 0
HaveOneLength lists = AreLong lists (length (slice_index_or lists 0 []))
