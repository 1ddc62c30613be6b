-- Which devices missed a message of a get.
use Rattle.std.specs.Prelude.{ℕ, List}
use Rattle.sw_message.specs.Transcript.{Step}
use Rattle.sw_message.specs.declared.miss.Miss.{Miss}
use Rattle.sw_get.specs.Causes.{WasMissed}
use Rattle.sw_get.specs.Get as gets

-- a device missed a message of a get: it did not answer, or its answer was a miss
abbrev pub HasMissed : gets.Begun → List Step → (device : ℕ) → Type 0
HasMissed begun past device = (turns : List gets.Turn) × gets.AreTurns begun past turns × (miss : Miss) × WasMissed turns (device, miss)
