-- Lists of numbers that are bytes.
use Rattle.std.specs.Prelude.{ℕ, ◌<◌, List, slice_index}

abbrev pub IsBytes : List ℕ → Type 0
IsBytes xs = (position : ℕ) → slice_index xs position < 256
