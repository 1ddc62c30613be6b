-- Bytes of a fixed pattern.
use Rattle.std.specs.Prelude.{ℕ, ◌%◌, List, map}
use Rattle.std.specs.List.{range_with_len}

-- so many bytes, which count up to 250 and begin again
unfoldable pub pattern_bytes : ℕ → List ℕ
pattern_bytes count = map (λ index. index % 251) (range_with_len 0 count)
