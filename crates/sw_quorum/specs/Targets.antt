-- The primaries of a place, each with its index.
use Rattle.std.specs.Prelude.{ℕ, ◌+◌, List, [], ◌∷◌}
use Rattle.sw_message.specs.declared.target.Target.{Target}

-- each index from this one on, at its primary
abbrev pub targets_from : ℕ → List ℕ → List Target
targets_from index [] = []
targets_from index (device ∷ devices) = record { index = index; device = device } ∷ targets_from (index + 1) devices
