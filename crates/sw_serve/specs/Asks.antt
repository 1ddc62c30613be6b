-- What a client asks for on a connection, within the bytes that came from it.
use Rattle.std.specs.Prelude.{◌≡◌, ◌⊎◌, ℕ, Bool, true, false, List, Some, None}
use Rattle.sw_httpread.specs.Bodies.{Decides}
use Rattle.sw_httpread.specs.Heads.{IsHeadNext}
use Rattle.sw_httpread.specs.Request.{RequestHeadModel}
use Rattle.sw_httpread.specs.declared.body.BodyNext.TheVariants as body
use Rattle.sw_httpread.specs.declared.body.Framing.{Framing}
use Rattle.sw_httpread.specs.declared.head.HeadNext.TheVariants as head
use Rattle.sw_httpwrite.specs.Answer.{AnswerModel}
use Rattle.sw_request.specs.Body.{RequestModel}
use Rattle.sw_request.specs.Framing.{framing_of, is_waiting}
use Rattle.sw_request.specs.Refusal.{head_refusal, refusal_of}
use Rattle.sw_request.specs.Response.{is_head, refusal_answer}
use Rattle.sw_request.specs.declared.refusal.BadInput.{BadInput}
use Rattle.sw_request.specs.declared.refusal.BadInput.TheVariants as bad
use Rattle.sw_request.specs.declared.refusal.Refusal.{Refusal}

-- a whole request without a defect, or what comes in its place and is refused, with the answer to that
pub data Asked : Type 0 where
  Whole : (request : RequestModel) → Asked
  Refused : (answer : AnswerModel) → Asked

-- the bytes begin with a head without a defect, whose body is read like this; whether its client waits for leave to send it
pub record BeginsWith (bytes : List ℕ) (request : RequestHeadModel) (how : Framing) (waits : Bool) (rest : List ℕ) : Type 0 where
  pub reads : IsHeadNext bytes None (head.Head request) rest
  pub no_defect : head_refusal request ≡ None
  pub framing_is : framing_of request ≡ Some how
  pub waits_is : waits ≡ is_waiting request how

-- what comes is no head
abbrev pub IsNoHead : List ℕ → BadInput → List ℕ → Type 0
IsNoHead bytes bad.BadHead unused = IsHeadNext bytes None head.BadHead unused
IsNoHead bytes bad.HeadTooLarge unused = IsHeadNext bytes None head.HeadTooLarge unused
IsNoHead bytes other unused = ⊥

-- what comes is no body
abbrev pub IsNoBody : Framing → List ℕ → BadInput → List ℕ → Type 0
IsNoBody how bytes bad.BadChunk unused = Decides how bytes body.BadChunk unused
IsNoBody how bytes bad.TooLarge unused = Decides how bytes body.TooLarge unused
IsNoBody how bytes other unused = ⊥

-- no head comes, and that is answered
abbrev pub RefusesInput : List ℕ → AnswerModel → List ℕ → Type 0
RefusesInput bytes answer unused = (why : BadInput) × IsNoHead bytes why unused × (answer ≡ refusal_answer false true (refusal_of why))

-- a head with a defect comes, and the first is answered
pub record RefusesHeadOf (bytes : List ℕ) (request : RequestHeadModel) (answer : AnswerModel) (unused : List ℕ) : Type 0 where
  pub reads : IsHeadNext bytes None (head.Head request) unused
  pub why : Refusal
  pub defect : head_refusal request ≡ Some why
  pub answer_is : answer ≡ refusal_answer (is_head request) true why

abbrev pub RefusesHead : List ℕ → AnswerModel → List ℕ → Type 0
RefusesHead bytes answer unused = (request : RequestHeadModel) × RefusesHeadOf bytes request answer unused

-- a head without a defect comes and no body behind it, and that is answered
abbrev pub RefusesBody : List ℕ → (waits : Bool) → AnswerModel → List ℕ → Type 0
RefusesBody bytes waits answer unused =
    (request : RequestHeadModel) × (how : Framing) × (middle : List ℕ) × BeginsWith bytes request how waits middle
    × (why : BadInput) × IsNoBody how middle why unused × (answer ≡ refusal_answer (is_head request) true (refusal_of why))

-- What the bytes begin with, whether the client waits for leave to send its body, and which bytes are behind it.
abbrev pub IsAsked : List ℕ → Asked → (waits : Bool) → List ℕ → Type 0
IsAsked bytes (Whole request) waits unused =
    (how : Framing) × (middle : List ℕ) × BeginsWith bytes request.head how waits middle × Decides how middle (body.Body request.body) unused
IsAsked bytes (Refused answer) waits unused =
    ((waits ≡ false) × (RefusesInput bytes answer unused ⊎ RefusesHead bytes answer unused)) ⊎ RefusesBody bytes waits answer unused
