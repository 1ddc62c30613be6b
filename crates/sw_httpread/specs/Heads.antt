-- Heads of requests within the bytes of a connection.
use Rattle.std.specs.Prelude.{◌≡◌, ◌⊎◌, ℕ, List, [], ◌++◌, map, Option, ⊤}
use Rattle.std.specs.List.{AllByRecursion}
use Rattle.std.specs.Io.KnownBytes.{Consumes, IsAtEnd}
use Rattle.httparse.specs.Grammar.{RequestHead as Parsed, ReadsRequest}
use Rattle.httparse.specs.Spans.{name_and_value}
use Rattle.sw_httpread.specs.Request.{RequestHeadModel}
use Rattle.sw_httpread.specs.Lines.{IsWholeHead}
use Rattle.sw_httpread.specs.Ends.{Ends, EndsNowhere, IsUnended}
use Rattle.sw_httpread.specs.Reading.{IsNeeded}
use Rattle.sw_httpread.specs.declared.head.HeadNext.{HeadNext}
use Rattle.sw_httpread.specs.declared.head.HeadNext.TheVariants.{Head, End, Cut, BadHead, HeadTooLarge, ReadFault, NoMemory}

-- the head that a parsed one tells: its fields without the white space around their values
abbrev pub parts_of : Parsed → RequestHeadModel
parts_of h = record { method = h.method; target = h.target; minor = h.minor; fields = map name_and_value h.fields }

-- the bytes, as a whole, are a head by the grammar
abbrev pub IsHeadOf : List ℕ → RequestHeadModel → Type 0
IsHeadOf bytes head = (h : Parsed) × ReadsRequest bytes h [] × (head ≡ parts_of h)

-- the bytes, as a whole, are no head by the grammar
abbrev pub IsNoHead : List ℕ → Type 0
IsNoHead bytes = (h : Parsed) → ¬ (ReadsRequest bytes h [])

abbrev pub IsBlankByte : ℕ → Type 0
IsBlankByte byte = (byte ≡ 13) ⊎ (byte ≡ 10)

abbrev pub AreBlank : List ℕ → Type 0
AreBlank bytes = AllByRecursion IsBlankByte bytes

-- what comes of bytes that were had, of which some are left unused, at the end of the input or before it
abbrev pub IsHeadNext : List ℕ → Option (List ℕ) → HeadNext → List ℕ → Type 0
IsHeadNext had left (Head head) unused = (bytes : List ℕ) × Ends IsWholeHead had bytes unused × IsHeadOf bytes head
IsHeadNext had left BadHead unused = (unused ≡ had) × (bytes : List ℕ) × (rest : List ℕ) × Ends IsWholeHead had bytes rest × IsNoHead bytes
IsHeadNext had left HeadTooLarge unused = (unused ≡ had) × EndsNowhere IsWholeHead had
IsHeadNext had left End unused = (unused ≡ had) × IsAtEnd left × IsUnended IsWholeHead had × AreBlank had
IsHeadNext had left Cut unused = (unused ≡ had) × IsAtEnd left × IsUnended IsWholeHead had × (¬ AreBlank had)
IsHeadNext had left ReadFault unused = (unused ≡ had) × IsUnended IsWholeHead had
IsHeadNext had left NoMemory unused = unused ≡ had

-- bytes were read from a connection behind those that were unused before, no more than was needed, and this came of them
pub record ReadsHead (left left' : Option (List ℕ)) (unused unused' : List ℕ) (next : HeadNext) : Type 0 where
  pub got : List ℕ
  pub consumed : Consumes left left' got
  pub needed : IsNeeded (IsUnended IsWholeHead) unused got
  pub outcome : IsHeadNext (unused ++ got) left' next unused'

-- what comes of a whole head
abbrev pub IsTaken : List ℕ → HeadNext → List ℕ → List ℕ → Type 0
IsTaken whole (Head head) old new = IsHeadOf whole head × (old ≡ whole ++ new)
IsTaken whole BadHead old new = IsNoHead whole × (new ≡ old)
IsTaken whole NoMemory old new = new ≡ old
IsTaken whole HeadTooLarge old new = ⊥
IsTaken whole End old new = ⊥
IsTaken whole Cut old new = ⊥
IsTaken whole ReadFault old new = ⊥

-- the bytes alone decide it, whatever comes after them
abbrev pub IsDefinite : HeadNext → Type 0
IsDefinite (Head head) = ⊤
IsDefinite BadHead = ⊤
IsDefinite HeadTooLarge = ⊤
IsDefinite End = ⊥
IsDefinite Cut = ⊥
IsDefinite ReadFault = ⊥
IsDefinite NoMemory = ⊥

-- reading went neither wrong nor out of memory
abbrev pub IsAnswer : HeadNext → Type 0
IsAnswer (Head head) = ⊤
IsAnswer BadHead = ⊤
IsAnswer HeadTooLarge = ⊤
IsAnswer End = ⊤
IsAnswer Cut = ⊤
IsAnswer ReadFault = ⊥
IsAnswer NoMemory = ⊥
