-- What is answered on a connection, and how that ends.
use Rattle.std.specs.Prelude.{◌≡◌, ◌⊎◌, ◌==◌, ◌||◌, ◌<◌, ◌≤◌, ◌+◌, ℕ, Bool, true, false, if◌then◌else◌, List, [], ◌∷◌, ◌++◌, length, take, Option, None, Result, Ok, ⊤}
use Rattle.std.specs.Io.KnownBytes.{Appends, Consumes}
use Rattle.sw_types.specs.declared.memory.NoMemory.{NoMemory as Refusal}
use Rattle.sw_words.specs.Counts.{one_more}
use Rattle.sw_httpread.specs.Bodies.{IsBodyNext}
use Rattle.sw_httpread.specs.Heads.{IsHeadNext}
use Rattle.sw_httpread.specs.Request.{RequestHeadModel}
use Rattle.sw_httpread.specs.declared.body.BodyNext.{BodyNext}
use Rattle.sw_httpread.specs.declared.body.BodyNext.TheVariants as body
use Rattle.sw_httpread.specs.declared.body.Framing.{Framing}
use Rattle.sw_httpread.specs.declared.head.HeadNext.{HeadNext}
use Rattle.sw_httpread.specs.declared.head.HeadNext.TheVariants as head
use Rattle.sw_httpwrite.specs.Answer.{AnswerModel}
use Rattle.sw_httpwrite.specs.Response.{continue_bytes, response_bytes}
use Rattle.sw_request.specs.Body.{RequestModel}
use Rattle.sw_request.specs.Response.{is_head}
use Rattle.sw_response.specs.Response.{wanting_answer}
use Rattle.sw_serve.specs.Asks.{Asked, BeginsWith, IsAsked, Refused, Whole}
use Rattle.sw_serve.specs.declared.end.ConnEnd.{ConnEnd}
use Rattle.sw_serve.specs.declared.end.ConnEnd.TheVariants as end

-- the greatest number of answers on a connection
abbrev pub greatest_answers : ℕ
greatest_answers = 1000

-- the last of these says that the connection is closed
abbrev pub closing_at : (number : ℕ) → AnswerModel → AnswerModel
closing_at number answer = record answer { close = answer.close || number == greatest_answers }

-- ---- what was asked and answered

pub record Exchange : Type 0 where
  pub asked : Asked
  -- whether the client waited for leave to send its body
  pub waits : Bool
  pub answer : AnswerModel

-- how a request may be answered over a link, and what that leaves
abbrev pub Answering : Type 0 → Type 1
Answering L = RequestModel → (before : L) → Result AnswerModel Refusal → (after : L) → Type 0

-- leave to send a body, where the client waits for it
abbrev pub leave_bytes : (waits : Bool) → List ℕ
leave_bytes waits = if waits then continue_bytes else []

abbrev pub exchange_bytes : Exchange → List ℕ
exchange_bytes one = leave_bytes one.waits ++ response_bytes one.answer

-- what was written of some exchanges, the newest of them first
abbrev pub written_of : List Exchange → List ℕ
written_of [] = []
written_of (one ∷ earlier) = written_of earlier ++ exchange_bytes one

-- the connection goes on behind them
abbrev pub GoOn : List Exchange → Type 0
GoOn [] = ⊤
GoOn (one ∷ earlier) = one.answer.close ≡ false

module _ {L : Type 0} (answers : Answering L) where
  -- the answer to what was asked, the number-th of a connection, and what the link did for it
  abbrev pub Replies : (number : ℕ) → Asked → (before : L) → AnswerModel → (after : L) → Type 0
  Replies number (Whole request) before answer after = (given : AnswerModel) × answers request before (Ok given) after × (answer ≡ closing_at number given)
  Replies number (Refused given) before answer after = (answer ≡ given) × (after ≡ before)

  -- The bytes begin with what was asked in some exchanges, the newest of them first; each was answered over the link, one behind the other.
  abbrev pub AreServed : List ℕ → List Exchange → (before after : L) → (rest : List ℕ) → Type 0
  AreServed bytes [] before after rest = (after ≡ before) × (rest ≡ bytes)
  AreServed bytes (one ∷ earlier) before after rest =
      (between : L) × (unused : List ℕ) × AreServed bytes earlier before between unused × GoOn earlier
      × IsAsked unused one.asked one.waits rest × Replies (length earlier + 1) one.asked between one.answer after

-- ---- how it ends

-- Some bytes are of no whole request, and so many were written for it: nothing, or leave to send its body.
abbrev pub IsOpen : List ℕ → (left : Option (List ℕ)) → HeadNext → BodyNext → (written : List ℕ) → Type 0
IsOpen bytes left no_head no_body written =
    ((unused : List ℕ) × IsHeadNext bytes left no_head unused × (written ≡ []))
    ⊎ ((request : RequestHeadModel) × (how : Framing) × (waits : Bool) × (middle : List ℕ) × BeginsWith bytes request how waits middle
    × (unused : List ℕ) × IsBodyNext how middle left no_body unused × (written ≡ leave_bytes waits))

abbrev pub IsProperFront : List ℕ → List ℕ → Type 0
IsProperFront front whole = (n : ℕ) × (n < length whole) × (front ≡ take n whole)

-- So much of an answer was written: all of it, or nothing where it could not be made, and no fault was counted; or less than all, where writing failed, which was counted.
abbrev pub IsFront : (faults faults' : ℕ) → List ℕ → List ℕ → Type 0
IsFront faults faults' front whole =
    ((faults' ≡ faults) × ((front ≡ whole) ⊎ (front ≡ []))) ⊎ ((faults' ≡ one_more faults) × IsProperFront front whole)

module _ {L : Type 0} (answers : Answering L) where
  -- leave was to be written, or the answer to what was asked behind it, and not all of it was
  abbrev pub IsCutOff : List ℕ → (number : ℕ) → (before after : L) → (written : List ℕ) → Type 0
  IsCutOff bytes number before after written =
      ((request : RequestHeadModel) × (how : Framing) × (middle : List ℕ) × BeginsWith bytes request how true middle × (after ≡ before) × IsProperFront written continue_bytes)
      ⊎ ((one : Exchange) × (unused : List ℕ) × IsAsked bytes one.asked one.waits unused × Replies answers number one.asked before one.answer after
      × (front : List ℕ) × IsProperFront front (response_bytes one.answer) × (written ≡ leave_bytes one.waits ++ front))

  -- what the link did for the request for which memory was wanted: nothing, or what an operation did as far as it went, or to its end
  abbrev pub Wants : List ℕ → (waits : Bool) → (before after : L) → Type 0
  Wants bytes waits before after =
      (after ≡ before) ⊎ ((request : RequestModel) × (unused : List ℕ) × IsAsked bytes (Whole request) waits unused × (result : Result AnswerModel Refusal) × answers request before result after)

  -- whether the request for which memory was wanted is a HEAD, where its head was read
  abbrev pub IsToHead : List ℕ → (waits : Bool) → (before after : L) → (to_head : Bool) → Type 0
  IsToHead bytes waits before after to_head =
      ((request : RequestHeadModel) × (unused : List ℕ) × IsHeadNext bytes None (head.Head request) unused × (to_head ≡ is_head request))
      ⊎ ((to_head ≡ false) × (waits ≡ false) × (after ≡ before))

  -- Memory was wanted: leave may have been given, where it was due, and an answer that says so may have been written. The count of faults rose exactly where writing that answer failed.
  pub record IsWanting (bytes : List ℕ) (before after : L) (faults faults' : ℕ) (written : List ℕ) : Type 0 where
    pub waits : Bool
    pub due : waits ≡ true → (request : RequestHeadModel) × (how : Framing) × (middle : List ℕ) × BeginsWith bytes request how true middle
    pub wants : Wants bytes waits before after
    pub to_head : Bool
    pub is_to_head : IsToHead bytes waits before after to_head
    pub front : List ℕ
    pub is_front : IsFront faults faults' front (response_bytes (wanting_answer to_head))
    pub written_is : written ≡ leave_bytes waits ++ front

  -- Behind some exchanges a connection ended like this, at these bytes; what was written behind the answers.
  abbrev pub IsEnd : ConnEnd → List ℕ → (left : Option (List ℕ)) → List Exchange → (before after : L) → (faults faults' : ℕ) → (written : List ℕ) → Type 0
  IsEnd end.Closed bytes left [] before after faults faults' written = (after ≡ before) × (written ≡ []) × (unused : List ℕ) × IsHeadNext bytes left head.End unused
  IsEnd end.Closed bytes left (last ∷ earlier) before after faults faults' written =
      (after ≡ before) × (written ≡ []) × ((last.answer.close ≡ true) ⊎ ((last.answer.close ≡ false) × (unused : List ℕ) × IsHeadNext bytes left head.End unused))
  IsEnd end.Cut bytes left exchanges before after faults faults' written = GoOn exchanges × (after ≡ before) × IsOpen bytes left head.Cut body.Cut written
  IsEnd end.ReadFault bytes left exchanges before after faults faults' written = GoOn exchanges × (after ≡ before) × IsOpen bytes left head.ReadFault body.ReadFault written
  IsEnd end.WriteFault bytes left exchanges before after faults faults' written = GoOn exchanges × IsCutOff bytes (length exchanges + 1) before after written
  IsEnd end.NoMemory bytes left exchanges before after faults faults' written = GoOn exchanges × IsWanting bytes before after faults faults' written

  -- a connection was served to this end
  pub record Serves (left left' written written' : Option (List ℕ)) (faults faults' : ℕ) (before : L) (result : ConnEnd) (after : L) : Type 0 where
    pub got : List ℕ
    pub consumed : Consumes left left' got
    -- the newest of them first
    pub exchanges : List Exchange
    pub few : length exchanges ≤ greatest_answers
    pub rest : List ℕ
    pub between : L
    pub served : AreServed answers got exchanges before between rest
    pub behind : List ℕ
    pub ends : IsEnd result rest left' exchanges between after faults faults' behind
    pub writes : Appends written written' (written_of exchanges ++ behind)
