-- Answers to refusals, and their fields, which are lines.
use Rattle.std.proofs.Common.{if◌then◌else◌, Result, IfOk, ap, subst, ◌∙◌, ◌≡◌, ◌<◌, ◌≤◌, ◌^◌, ℕ, Bool, true, false, ◌||◌, ◌==◌, List, [], ◌∷◌, All, codes, refl, arith, ne_eqb}
use Rattle.std.specs.Char.{digit_value}
use Rattle.std.specs.Fmt.{decimal}
use Rattle.std.specs.List.{list_any}
use Rattle.std.specs.Str.Parse.{AllDigits}
use Rattle.std.proofs.lemmas.Bool.{or_from}
use Rattle.std.proofs.lemmas.Fmt.{decimal_is_IsNumeral}
use Rattle.std.proofs.lemmas.List.Elements.{All-cons, All-nil, All-same}
use Rattle.std.proofs.lemmas.Str.Parse.{digit_from_value}
use Rattle.sw_httpwrite.specs.Answer.{AnswerModel, AreInLines, Field, IsInLine}
use Rattle.sw_request.specs.Response.{allow_fields, is_closing, refusal_answer, refusal_status, refusal_word, word_answer}
use Rattle.sw_request.specs.declared.refusal.Refusal.{Refusal}
use Rattle.sw_request.specs.declared.refusal.Refusal.TheVariants as refusal

abbrev ends_line : ℕ → Bool
ends_line byte = byte == 13 || byte == 10

digit_stays : (byte : ℕ) → digit_value byte < 10 → ends_line byte ≡ false
digit_stays byte small =
    let range = digit_from_value byte small in
    or_from (byte == 13) (byte == 10) (ne_eqb byte 13 (λ is. absurd (omega (arith, range, is)))) (ne_eqb byte 10 (λ is. absurd (omega (arith, range, is))))

digits_stay : (digits : List ℕ) → AllDigits 10 digits → list_any ends_line digits ≡ false
digits_stay [] all = refl
digits_stay (digit ∷ digits) all = or_from (ends_line digit) (list_any ends_line digits) (digit_stays digit all.0) (digits_stay digits all.1)

-- a number is printed within a line
pub decimal_line : (number : ℕ) → number < 2 ^ 64 → IsInLine (decimal number)
decimal_line number small = digits_stay (decimal number) (decimal_is_IsNumeral number small).0.1

abbrev IsLineField : Field → Type 0
IsLineField field = IsInLine field.0 × IsInLine field.1

-- the fields of a text of so many bytes, and others
word_lines : (size : ℕ) (further : List Field) → size < 2 ^ 64 → AreInLines further → AreInLines ((codes "Content-Length", decimal size) ∷ (codes "Content-Type", codes "text/plain") ∷ further)
word_lines size further small lines =
    All-cons IsLineField (codes "Content-Length", decimal size) ((codes "Content-Type", codes "text/plain") ∷ further) (refl, decimal_line size small)
    (All-cons IsLineField (codes "Content-Type", codes "text/plain") further (refl, refl) lines)

pub word_lines_of : (fields further : List Field) (size : ℕ) → fields ≡ (codes "Content-Length", decimal size) ∷ (codes "Content-Type", codes "text/plain") ∷ further → size < 2 ^ 64 → AreInLines further → AreInLines fields
word_lines_of fields further size are small lines = All-same IsLineField fields _ are (word_lines size further small lines)

allow_lines : (why : Refusal) → AreInLines (allow_fields why)
allow_lines refusal.BadHead = All-nil IsLineField
allow_lines refusal.HeadTooLarge = All-nil IsLineField
allow_lines refusal.BadHost = All-nil IsLineField
allow_lines refusal.BadFraming = All-nil IsLineField
allow_lines refusal.Method = All-cons IsLineField (codes "Allow", codes "DELETE, GET, HEAD, PUT") [] (refl, refl) (All-nil IsLineField)
allow_lines refusal.BadEscape = All-nil IsLineField
allow_lines refusal.NoObjectPath = All-nil IsLineField
allow_lines refusal.NotUtf8 = All-nil IsLineField
allow_lines refusal.Nul = All-nil IsLineField
allow_lines refusal.NameTooLong = All-nil IsLineField
allow_lines refusal.LengthRequired = All-nil IsLineField
allow_lines refusal.TooLarge = All-nil IsLineField
allow_lines refusal.BadMeta = All-nil IsLineField
allow_lines refusal.BadChunk = All-nil IsLineField
allow_lines refusal.ETagDiffers = All-nil IsLineField

-- the fields that the answer to a refusal has beside those
pub allow_lines_of : (fields : List Field) (why : Refusal) → fields ≡ allow_fields why → AreInLines fields
allow_lines_of fields why are = All-same IsLineField fields _ are (allow_lines why)

-- the answer of the parts that a refusal tells
pub answer_of : {E : Type 0} (result : Result AnswerModel E) (to_head close closes : Bool) (why : Refusal) (status : ℕ) (word : List ℕ) (fields : List Field) → status ≡ refusal_status why → word ≡ refusal_word why
    → fields ≡ allow_fields why → closes ≡ (if is_closing why then true else close) → IfOk result (λ answer. answer ≡ word_answer to_head status word fields closes)
    → IfOk result (λ answer. answer ≡ refusal_answer to_head close why)
answer_of result to_head close closes why status word fields s w f c is =
    let same : word_answer to_head status word fields closes ≡ refusal_answer to_head close why =
    ap (λ (n : ℕ). word_answer to_head n word fields closes) s ∙ ap (λ (t : List ℕ). word_answer to_head (refusal_status why) t fields closes) w
    ∙ ap (λ (l : List Field). word_answer to_head (refusal_status why) (refusal_word why) l closes) f
    ∙ ap (λ (b : Bool). word_answer to_head (refusal_status why) (refusal_word why) (allow_fields why) b) c in
    subst (λ (told : AnswerModel). IfOk result (λ answer. answer ≡ told)) same is
