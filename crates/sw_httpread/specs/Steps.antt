-- What stands where a chunk would begin, as offsets into the bytes.
use Rattle.std.specs.Prelude.{ℕ, ◌+◌, ◌≤◌, List, length, take, drop}
use Rattle.sw_httpread.specs.Chunks.{Standing, AChunk, TheLast, OutOfForm, TooLong, Undecided}
use Rattle.sw_httpread.specs.declared.step.Stop.{Stop}
use Rattle.sw_httpread.specs.declared.step.Stop.TheVariants.{Last, Bad, TooLarge, Open}
use Rattle.sw_httpread.specs.declared.step.Step.{Step}
use Rattle.sw_httpread.specs.declared.step.Step.TheVariants.{Chunk, Over}

abbrev pub IsStop : (Standing → Type 0) → List ℕ → Stop → Type 0
IsStop Is bytes (Last count) = (count ≤ length bytes) × Is (TheLast (drop count bytes))
IsStop Is bytes Bad = Is OutOfForm
IsStop Is bytes TooLarge = Is TooLong
IsStop Is bytes Open = Is Undecided

abbrev pub IsStep : (Standing → Type 0) → List ℕ → Step → Type 0
IsStep Is bytes (Chunk start size) = (start + size + 2 ≤ length bytes) × Is (AChunk (take size (drop start bytes)) (drop (start + size + 2) bytes))
IsStep Is bytes (Over stop) = IsStop Is bytes stop
