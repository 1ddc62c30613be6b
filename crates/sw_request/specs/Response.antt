-- The answers to what is refused.
use Rattle.std.specs.Prelude.{◌≡◌, ℕ, Bool, true, false, if◌then◌else◌, List, [], ◌∷◌, ◌++◌, codes, length, Option, Some, None}
use Rattle.std.specs.Fmt.{decimal}
use Rattle.std.specs.Str.{bytes_eq}
use Rattle.sw_httpread.specs.Request.{RequestHeadModel}
use Rattle.sw_httpread.specs.declared.body.Framing.{Framing}
use Rattle.sw_httpwrite.specs.Answer.{AnswerModel, Field}
use Rattle.sw_request.specs.Framing.{framing_of, is_waiting}
use Rattle.sw_request.specs.Refusal.{head_refusal}
use Rattle.sw_request.specs.declared.judging.Verdict.{Verdict}
use Rattle.sw_request.specs.declared.judging.Verdict.TheVariants.{Read, Refuse}
use Rattle.sw_request.specs.declared.refusal.Refusal.{Refusal}
use Rattle.sw_request.specs.declared.refusal.Refusal.TheVariants as refusal

-- the status and the word of a refusal (RFC 9110, section 15)
abbrev pub refusal_status : Refusal → ℕ
refusal_status refusal.BadHead = 400
refusal_status refusal.HeadTooLarge = 431
refusal_status refusal.BadHost = 400
refusal_status refusal.BadFraming = 400
refusal_status refusal.Method = 405
refusal_status refusal.BadEscape = 412
refusal_status refusal.NoObjectPath = 404
refusal_status refusal.NotUtf8 = 412
refusal_status refusal.Nul = 412
refusal_status refusal.NameTooLong = 400
refusal_status refusal.LengthRequired = 411
refusal_status refusal.TooLarge = 413
refusal_status refusal.BadMeta = 400
refusal_status refusal.BadChunk = 400
refusal_status refusal.ETagDiffers = 422

abbrev pub refusal_word : Refusal → List ℕ
refusal_word refusal.BadHead = codes "BadHead"
refusal_word refusal.HeadTooLarge = codes "HeadTooLarge"
refusal_word refusal.BadHost = codes "BadHost"
refusal_word refusal.BadFraming = codes "BadFraming"
refusal_word refusal.Method = codes "Method"
refusal_word refusal.BadEscape = codes "BadEscape"
refusal_word refusal.NoObjectPath = codes "NoObjectPath"
refusal_word refusal.NotUtf8 = codes "NotUtf8"
refusal_word refusal.Nul = codes "Nul"
refusal_word refusal.NameTooLong = codes "NameTooLong"
refusal_word refusal.LengthRequired = codes "LengthRequired"
refusal_word refusal.TooLarge = codes "TooLarge"
refusal_word refusal.BadMeta = codes "BadMeta"
refusal_word refusal.BadChunk = codes "BadChunk"
refusal_word refusal.ETagDiffers = codes "ETagDiffers"

-- all but one leave unread what the client may still send, and so close the connection
abbrev pub is_closing : Refusal → Bool
is_closing refusal.ETagDiffers = false
is_closing other = true

-- a body of a word and a line feed
abbrev pub word_body : List ℕ → List ℕ
word_body word = word ++ 10 ∷ []

abbrev pub length_field : List ℕ → Field
length_field body = (codes "Content-Length", decimal (length body))

abbrev pub type_field : List ℕ → Field
type_field content_type = (codes "Content-Type", content_type)

-- the methods that there are (RFC 9110, section 10.2.1)
abbrev pub allow_fields : Refusal → List Field
allow_fields refusal.Method = (codes "Allow", codes "DELETE, GET, HEAD, PUT") ∷ []
allow_fields other = []

-- an answer to HEAD has the fields of one to GET, and no body (RFC 9110, section 9.3.2)
abbrev pub sent_body : Bool → List ℕ → List ℕ
sent_body to_head body = if to_head then [] else body

-- an answer of a status and a word, with further fields
abbrev pub word_answer : (to_head : Bool) → (status : ℕ) → (word : List ℕ) → (further : List Field) → (close : Bool) → AnswerModel
word_answer to_head status word further close = record {
  status = status;
  fields = length_field (word_body word) ∷ type_field (codes "text/plain") ∷ further;
  body = sent_body to_head (word_body word);
  close = close;
}

-- the answer to what is refused; the connection may be closed for another reason
abbrev pub refusal_answer : (to_head close : Bool) → Refusal → AnswerModel
refusal_answer to_head close why =
    word_answer to_head (refusal_status why) (refusal_word why) (allow_fields why) (if is_closing why then true else close)

abbrev pub is_head : RequestHeadModel → Bool
is_head head = bytes_eq head.method (codes "HEAD")

-- what is said of a head: the answer to its first defect, or how its body is read, and whether the client waits for leave
abbrev pub IsVerdict : RequestHeadModel → Verdict → Type 0
IsVerdict head (Refuse answer) = (why : Refusal) × (head_refusal head ≡ Some why) × (answer ≡ refusal_answer (is_head head) true why)
IsVerdict head (Read how waits) = (head_refusal head ≡ None) × (framing_of head ≡ Some how) × (waits ≡ is_waiting head how)
