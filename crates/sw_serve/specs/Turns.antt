-- What one turn of a connection is: what comes next is read and answered, or the connection ends.
use Rattle.std.specs.Prelude.{◌≡◌, ◌⊎◌, ◌≤◌, ℕ, Bool, List, [], ◌++◌, Option, None, ⊤}
use Rattle.std.specs.Io.KnownBytes.{Appends, Consumes}
use Rattle.sw_words.specs.Counts.{Rose, one_more}
use Rattle.sw_httpread.specs.Heads.{IsHeadNext}
use Rattle.sw_httpread.specs.Request.{RequestHeadModel}
use Rattle.sw_httpread.specs.declared.body.BodyNext.TheVariants as body
use Rattle.sw_httpread.specs.declared.body.Framing.{Framing}
use Rattle.sw_httpread.specs.declared.head.HeadNext.TheVariants as head
use Rattle.sw_httpwrite.specs.Answer.{AnswerModel}
use Rattle.sw_httpwrite.specs.Response.{response_bytes}
use Rattle.sw_request.specs.Body.{RequestModel}
use Rattle.sw_response.specs.Response.{wanting_answer}
use Rattle.sw_serve.specs.Asks.{BeginsWith, IsAsked, Whole}
use Rattle.sw_serve.specs.Serving.{Answering, Exchange, IsCutOff, IsFront, IsOpen, IsProperFront, IsWanting, Replies, exchange_bytes, leave_bytes}
use Rattle.sw_serve.specs.declared.end.ConnEnd.TheVariants as end
use Rattle.sw_serve.specs.declared.turn.Turn.{Turn}
use Rattle.sw_serve.specs.declared.turn.Turn.TheVariants.{Answered, Over}

-- an answer was written, or a front of it, or of the one that says that memory was wanted
abbrev pub IsSent : AnswerModel → (to_head : Bool) → Turn → (faults faults' : ℕ) → List ℕ → Type 0
IsSent answer to_head (Answered closes) faults faults' written = (closes ≡ answer.close) × (written ≡ response_bytes answer)
IsSent answer to_head (Over end.WriteFault) faults faults' written = IsProperFront written (response_bytes answer)
IsSent answer to_head (Over end.NoMemory) faults faults' written = IsFront faults faults' written (response_bytes (wanting_answer to_head))
IsSent answer to_head (Over other) faults faults' written = ⊥

-- ---- faults

-- the connection's count rose
abbrev pub IsFault : Turn → Type 0
IsFault (Over end.ReadFault) = ⊤
IsFault (Over end.WriteFault) = ⊤
IsFault other = ⊥

-- it is what it was
abbrev pub IsQuiet : Turn → Type 0
IsQuiet (Answered closes) = ⊤
IsQuiet (Over end.Closed) = ⊤
IsQuiet (Over end.Cut) = ⊤
IsQuiet other = ⊥

pub record CountsTurn (turn : Turn) (before after : ℕ) : Type 0 where
  pub never_falls : before ≤ after
  pub cause : IsFault turn → Rose before after
  pub counted : IsFault turn → after ≡ one_more before
  pub quiet : IsQuiet turn → after ≡ before
  -- once at most, also where memory was wanted
  pub once : (after ≡ before) ⊎ (after ≡ one_more before)

-- ---- turns

module _ {L : Type 0} (answers : Answering L) where
  -- what is left of the bytes, and what was written
  abbrev pub IsTurn : (number : ℕ) → (had : List ℕ) → (left : Option (List ℕ)) → (before after : L) → (rest : List ℕ) → Turn → (faults faults' : ℕ) → (written : List ℕ) → Type 0
  IsTurn number had left before after rest (Answered closes) faults faults' written =
      (one : Exchange) × IsAsked had one.asked one.waits rest × Replies answers number one.asked before one.answer after × (closes ≡ one.answer.close) × (written ≡ exchange_bytes one)
  IsTurn number had left before after rest (Over end.Closed) faults faults' written = (after ≡ before) × (written ≡ []) × (unused : List ℕ) × IsHeadNext had left head.End unused
  IsTurn number had left before after rest (Over end.Cut) faults faults' written = (after ≡ before) × IsOpen had left head.Cut body.Cut written
  IsTurn number had left before after rest (Over end.ReadFault) faults faults' written = (after ≡ before) × IsOpen had left head.ReadFault body.ReadFault written
  IsTurn number had left before after rest (Over end.WriteFault) faults faults' written = IsCutOff answers had number before after written
  IsTurn number had left before after rest (Over end.NoMemory) faults faults' written = IsWanting answers had before after faults faults' written

  -- A turn of a connection with some unused bytes, from its beginning on.
  pub record TakesTurn (number : ℕ) (left left' written written' : Option (List ℕ)) (faults faults' : ℕ) (unused unused' : List ℕ) (before after : L) (turn : Turn) : Type 0 where
    pub got : List ℕ
    pub consumed : Consumes left left' got
    pub told : List ℕ
    pub writes : Appends written written' told
    pub is : IsTurn number (unused ++ got) left' before after unused' turn faults faults' told

  -- Once a head was read.
  pub record TakesHead (number : ℕ) (request : RequestHeadModel) (left left' written written' : Option (List ℕ)) (faults faults' : ℕ) (unused unused' : List ℕ) (before after : L) (turn : Turn) : Type 0 where
    pub got : List ℕ
    pub consumed : Consumes left left' got
    pub told : List ℕ
    pub writes : Appends written written' told
    pub is : (bytes : List ℕ) → IsHeadNext bytes None (head.Head request) (unused ++ got) → IsTurn number bytes left' before after unused' turn faults faults' told

  -- Once it was found to have no defect, and leave was given where it was due.
  pub record TakesBody (number : ℕ) (request : RequestHeadModel) (how : Framing) (left left' written written' : Option (List ℕ)) (faults faults' : ℕ) (unused unused' : List ℕ) (before after : L) (turn : Turn) : Type 0 where
    pub got : List ℕ
    pub consumed : Consumes left left' got
    pub told : List ℕ
    pub writes : Appends written written' told
    pub is : (bytes : List ℕ) (waits : Bool) → BeginsWith bytes request how waits (unused ++ got) → IsTurn number bytes left' before after unused' turn faults faults' (leave_bytes waits ++ told)

  -- Once the body was read.
  pub record TakesRequest (number : ℕ) (request : RequestModel) (left written written' : Option (List ℕ)) (faults faults' : ℕ) (before after : L) (turn : Turn) : Type 0 where
    pub told : List ℕ
    pub writes : Appends written written' told
    pub is : (bytes : List ℕ) (waits : Bool) (unused : List ℕ) → IsAsked bytes (Whole request) waits unused → IsTurn number bytes left before after unused turn faults faults' (leave_bytes waits ++ told)
