-- What stands where a chunk of a chunked body would begin (RFC 9112, section 7.1).
use Rattle.std.specs.Prelude.{◌≡◌, ◌⊎◌, ℕ, ◌+◌, ◌<◌, ◌≤◌, List, [], ◌∷◌, ◌++◌, length}
use Rattle.httparse.specs.Grammar.{ChunkLine, ReadsChunkLine, chunk_size, Field, LineEnd, ReadsSection}
use Rattle.sw_httpread.specs.Lines.{IsWholeLine, IsWholeSection}
use Rattle.sw_httpread.specs.Ends.{Ends, EndsNowhere, IsUnended}

-- the greatest number of bytes of a body
abbrev pub greatest_body : ℕ
greatest_body = 16777216

-- the bytes, as a whole, are a chunk line of this size
abbrev pub IsSized : List ℕ → ℕ → Type 0
IsSized line size = (l : ChunkLine) × ReadsChunkLine line l [] × (size ≡ chunk_size l)

-- the bytes, as a whole, are no chunk line
abbrev pub IsNoChunkLine : List ℕ → Type 0
IsNoChunkLine line = (l : ChunkLine) → ¬ (ReadsChunkLine line l [])

-- the bytes, as a whole, are a trailer section
abbrev pub IsTrailer : List ℕ → Type 0
IsTrailer bytes = (fields : List Field) × (last : LineEnd) × ReadsSection bytes fields last []

-- what stands there
pub data Standing : Type 0 where
  -- a chunk of some data, and the bytes behind it
  AChunk : (bytes rest : List ℕ) → Standing
  -- the last chunk and the trailer section, and the bytes behind them
  TheLast : (rest : List ℕ) → Standing
  -- a chunk line, a chunk's end or a trailer section out of form
  OutOfForm : Standing
  -- a chunk line of a chunk with which the body would have too many bytes
  TooLong : Standing
  -- it is not decided yet
  Undecided : Standing

-- the two bytes behind a chunk's data
abbrev pub IsEndAt : List ℕ → ℕ → ℕ → List ℕ → Standing → Type 0
IsEndAt bytes first second rest what =
    ((first ≡ 13) × (second ≡ 10) × (what ≡ AChunk bytes rest)) ⊎ ((¬ ((first ≡ 13) × (second ≡ 10))) × (what ≡ OutOfForm))

-- behind a chunk line of some size: the data and the chunk's end, which is judged at its second byte
abbrev pub IsDataAt : ℕ → List ℕ → Standing → Type 0
IsDataAt size bytes what =
    ((length bytes < size + 2) × (what ≡ Undecided))
    ⊎ ((chunk : List ℕ) × (first : ℕ) × (second : ℕ) × (rest : List ℕ) × (bytes ≡ chunk ++ first ∷ second ∷ rest) × (length chunk ≡ size)
    × IsEndAt chunk first second rest what)

-- behind a chunk line of size 0: the trailer section, which is judged at its first empty line
abbrev pub IsTrailerAt : List ℕ → Standing → Type 0
IsTrailerAt bytes what =
    (IsUnended IsWholeSection bytes × (what ≡ Undecided))
    ⊎ (EndsNowhere IsWholeSection bytes × (what ≡ OutOfForm))
    ⊎ ((trailer : List ℕ) × (rest : List ℕ) × Ends IsWholeSection bytes trailer rest
    × ((IsTrailer trailer × (what ≡ TheLast rest)) ⊎ ((¬ IsTrailer trailer) × (what ≡ OutOfForm))))

-- behind a chunk line of some size, in a body that has so many bytes so far
abbrev pub IsSizedAt : ℕ → ℕ → List ℕ → Standing → Type 0
IsSizedAt so_far size bytes what =
    ((size ≡ 0) × IsTrailerAt bytes what)
    ⊎ ((0 < size) × (greatest_body < so_far + size) × (what ≡ TooLong))
    ⊎ ((0 < size) × (so_far + size ≤ greatest_body) × IsDataAt size bytes what)

-- at a line, and behind it
abbrev pub IsLineAt : ℕ → List ℕ → List ℕ → Standing → Type 0
IsLineAt so_far line bytes what =
    (IsNoChunkLine line × (what ≡ OutOfForm)) ⊎ ((size : ℕ) × IsSized line size × IsSizedAt so_far size bytes what)

-- where a chunk would begin: the chunk line is judged at its line feed
abbrev pub Stands : ℕ → List ℕ → Standing → Type 0
Stands so_far bytes what =
    (IsUnended IsWholeLine bytes × (what ≡ Undecided))
    ⊎ (EndsNowhere IsWholeLine bytes × (what ≡ OutOfForm))
    ⊎ ((line : List ℕ) × (rest : List ℕ) × Ends IsWholeLine bytes line rest × IsLineAt so_far line rest what)
