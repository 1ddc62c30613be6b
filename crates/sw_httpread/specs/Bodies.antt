-- Bodies of requests within the bytes of a connection.
use Rattle.std.specs.Prelude.{◌≡◌, ℕ, ◌<◌, ◌≤◌, List, [], ◌∷◌, ◌++◌, length, Option, Result, Ok, Err, ⊤}
use Rattle.std.specs.List.{AllByRecursion, flat_map}
use Rattle.std.specs.Io.KnownBytes.{Consumes, IsAtEnd}
use Rattle.sw_io.specs.declared.source.ReadError.{ReadError}
use Rattle.sw_io.specs.declared.source.ReadError.TheVariants.{Failed, NoMemory as WantOfMemory}
use Rattle.sw_httpread.specs.Ends.{greatest_length}
use Rattle.sw_httpread.specs.Reading.{IsNeeded}
use Rattle.sw_httpread.specs.Chunks.{greatest_body, IsSized, Stands, TheLast, OutOfForm, TooLong, Undecided}
use Rattle.sw_httpread.specs.declared.body.Framing.{Framing}
use Rattle.sw_httpread.specs.declared.body.Framing.TheVariants as framing
use Rattle.sw_httpread.specs.declared.body.BodyNext.{BodyNext}
use Rattle.sw_httpread.specs.declared.body.BodyNext.TheVariants.{Body, Cut, BadChunk, TooLarge, ReadFault, NoMemory}

-- a chunk: its line, and its data, of which there are some
pub record Chunk : Type 0 where
  pub line : List ℕ
  pub data_bytes : List ℕ

pub record IsChunk (chunk : Chunk) : Type 0 where
  pub sized : IsSized chunk.line (length chunk.data_bytes)
  pub bound : length chunk.line ≤ greatest_length
  pub some : 0 < length chunk.data_bytes

-- the line, the data, and the chunk's end
abbrev pub chunk_bytes : Chunk → List ℕ
chunk_bytes chunk = chunk.line ++ chunk.data_bytes ++ 13 ∷ 10 ∷ []

abbrev pub body_of : List Chunk → List ℕ
body_of chunks = flat_map (λ chunk. chunk.data_bytes) chunks

-- the bytes begin with these chunks, whose data is within the limit
pub record BeginsChunks (bytes : List ℕ) (chunks : List Chunk) (rest : List ℕ) : Type 0 where
  pub split : bytes ≡ flat_map chunk_bytes chunks ++ rest
  pub each : AllByRecursion IsChunk chunks
  pub bound : length (body_of chunks) ≤ greatest_body

-- what some bytes decide, and those behind it that are unused; of a chunked body that is refused, all but whole chunks
abbrev pub Decides : Framing → List ℕ → BodyNext → List ℕ → Type 0
Decides framing.None had (Body body) unused = (body ≡ []) × (unused ≡ had)
Decides (framing.Length n) had (Body body) unused = (n ≤ greatest_body) × (length body ≡ n) × (had ≡ body ++ unused)
Decides (framing.Length n) had TooLarge unused = (greatest_body < n) × (unused ≡ had)
Decides framing.Chunked had (Body body) unused = (chunks : List Chunk) × (rest : List ℕ) × BeginsChunks had chunks rest × (body ≡ body_of chunks) × Stands (length body) rest (TheLast unused)
Decides framing.Chunked had BadChunk unused = (chunks : List Chunk) × BeginsChunks had chunks unused × Stands (length (body_of chunks)) unused OutOfForm
Decides framing.Chunked had TooLarge unused = (chunks : List Chunk) × BeginsChunks had chunks unused × Stands (length (body_of chunks)) unused TooLong
Decides how had next unused = ⊥

-- some bytes decide nothing yet, and these of them are unused: all, or all but whole chunks
abbrev pub LeavesOpen : Framing → List ℕ → List ℕ → Type 0
LeavesOpen framing.None had unused = ⊥
LeavesOpen (framing.Length n) had unused = (n ≤ greatest_body) × (length had < n) × (unused ≡ had)
LeavesOpen framing.Chunked had unused = (chunks : List Chunk) × BeginsChunks had chunks unused × Stands (length (body_of chunks)) unused Undecided

abbrev pub IsOpen : Framing → List ℕ → Type 0
IsOpen how had = (unused : List ℕ) × LeavesOpen how had unused

-- nothing is lost but whole chunks
abbrev pub KeepsUnused : Framing → List ℕ → List ℕ → Type 0
KeepsUnused framing.None had unused = unused ≡ had
KeepsUnused (framing.Length n) had unused = unused ≡ had
KeepsUnused framing.Chunked had unused = (chunks : List Chunk) × BeginsChunks had chunks unused

-- what comes of bytes that were had, of which some are left unused, at the end of the input or before it
abbrev pub IsBodyNext : Framing → List ℕ → Option (List ℕ) → BodyNext → List ℕ → Type 0
IsBodyNext how had left Cut unused = IsAtEnd left × LeavesOpen how had unused
IsBodyNext how had left ReadFault unused = LeavesOpen how had unused
IsBodyNext how had left NoMemory unused = KeepsUnused how had unused
IsBodyNext how had left next unused = Decides how had next unused

-- bytes were read from a connection behind those that were unused before, no more than was needed, and this came of them
pub record ReadsBody (how : Framing) (left left' : Option (List ℕ)) (unused unused' : List ℕ) (next : BodyNext) : Type 0 where
  pub got : List ℕ
  pub consumed : Consumes left left' got
  pub needed : IsNeeded (IsOpen how) unused got
  pub outcome : IsBodyNext how (unused ++ got) left' next unused'

-- chunks were read and used, whose data is this
pub record TookChunks (left left' : Option (List ℕ)) (unused unused' : List ℕ) (body : List ℕ) : Type 0 where
  pub got : List ℕ
  pub consumed : Consumes left left' got
  pub needed : IsNeeded (IsOpen framing.Chunked) unused got
  pub chunks : List Chunk
  pub begins : BeginsChunks (unused ++ got) chunks unused'
  pub data_of : body ≡ body_of chunks

-- the answer, where reading may have failed
abbrev pub next_of : Result BodyNext ReadError → BodyNext
next_of (Ok next) = next
next_of (Err Failed) = ReadFault
next_of (Err WantOfMemory) = NoMemory

-- reading went neither wrong nor out of memory
abbrev pub IsBodyAnswer : BodyNext → Type 0
IsBodyAnswer ReadFault = ⊥
IsBodyAnswer NoMemory = ⊥
IsBodyAnswer next = ⊤
