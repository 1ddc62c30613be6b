-- What a call of the doors does to the connections.
use Rattle.std.specs.Prelude.{◌≡◌, ◌⊎◌, ℕ, List, [], ◌∷◌, ◌++◌, Option, None, Some, Result, Ok, Err}
use Rattle.sw_words.specs.Counts.{one_more}

-- what is back once a finished connection is, at the end
abbrev pub with_done : {C : Type 0} → Option (List C) → Option C → Option (List C)
with_done None _ = None
with_done (Some back) None = Some back
with_done (Some back) (Some conn) = Some (back ++ conn ∷ [])

-- a finished connection is taken back; where the call fails it may be lost
abbrev pub TakesBack : {C E : Type 0} → Option (List C) → Option (List C) → Option C → Result (Option C) E → Type 0
TakesBack old new done (Ok next) = new ≡ with_done old done
TakesBack old new done (Err error) = (new ≡ with_done old done) ⊎ (new ≡ old)

-- what is handed out is the first of those that are left, and none is handed out only where none is left
abbrev pub HandsOut : {C E : Type 0} → Option (List C) → Option (List C) → Result (Option C) E → Type 0
HandsOut None new result = new ≡ None
HandsOut (Some left) new (Ok None) = (left ≡ []) × (new ≡ Some [])
HandsOut {C} (Some left) new (Ok (Some conn)) = (rest : List C) × (left ≡ conn ∷ rest) × (new ≡ Some rest)
HandsOut (Some left) new (Err error) = new ≡ Some left

-- how many connections were handed out, after this answer
abbrev pub handed_after : {C E : Type 0} → ℕ → Result (Option C) E → ℕ
handed_after count (Ok None) = count
handed_after count (Ok (Some conn)) = one_more count
handed_after count (Err error) = count
