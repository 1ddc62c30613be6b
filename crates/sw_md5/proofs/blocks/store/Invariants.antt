use Rattle.std.proofs.Common.{◌≡◌, ℕ, ◌+◌, ◌<◌, ◌≤◌, [], ◌∷◌, length, slice_index, slice_index_or}
use Rattle.sw_md5.proofs.blocks.store.Given as goal

-- the states so far are back
abbrev pub invariant-loop-lane : goal.invariant-loop-lane
invariant-loop-lane g l = record {
  long : length l.states ≡ 32;
  within : (j : ℕ) → j < l.lane → slice_index_or l.states (l.first + j) [] ≡ slice_index l.a j ∷ slice_index l.b j ∷ slice_index l.c j ∷ slice_index l.d j ∷ [];
  before : (i : ℕ) → i < l.first → slice_index_or l.states i [] ≡ slice_index_or l.fn.states i [];
  behind : (i : ℕ) → l.first + l.lane ≤ i → slice_index_or l.states i [] ≡ slice_index_or l.fn.states i [];
}
