-- The lines of heads.
use Rattle.std.proofs.Common.{◌≡◌, ℕ, zero, suc, ◌+◌, ◌<◌, Bool, true, false, not, ◌&&◌, ◌||◌, ◌==◌, List, [], ◌∷◌, ◌++◌, length, map, All, codes, refl, ◌∙◌, length-append, arith}
use Rattle.std.specs.List.{list_any}
use Rattle.std.proofs.lemmas.Bool.{not-true}
use Rattle.std.proofs.lemmas.Bool.Decides.{Decides-below_and}
use Rattle.std.proofs.lemmas.List.Elements.{All-nil, All-cons, All-append, All-map, All-weaker}
use Rattle.std.proofs.lemmas.List.Folds.{list_any-append}
use Rattle.http.specs.StatusCode.{IsStatusCode}
use Rattle.sw_httpwrite.specs.Answer.{AnswerModel, AreInLines, Field, HasPhrase, IsFullLine, IsInLine}
use Rattle.sw_httpwrite.specs.Response.{close_lines, field_line, head_lines, phrase_of, status_line}

abbrev ends_line : ℕ → Bool
ends_line byte = byte == 13 || byte == 10

abbrev is_in_line : ℕ → Bool
is_in_line status = not (list_any ends_line (status_line status))

-- each status below this one
abbrev are_in_line : ℕ → Bool
are_in_line zero = true
are_in_line (suc n) = is_in_line n && are_in_line n

IsInLine-status : (n : ℕ) → n < 1000 → IsInLine (status_line n)
unfolding phrase_of
IsInLine-status n bound =
    not-true _ ((Decides-below_and is_in_line (λ k. is_in_line k ≡ true) are_in_line (λ k. (λ x. x, λ x. x)) refl (λ _. refl) 1000).0 refl n bound)

IsFullLine-status : (n : ℕ) → n < 1000 → IsFullLine (status_line n)
IsFullLine-status n bound = (omega arith, IsInLine-status n bound)

none_of : (a b : Bool) → a ≡ false → b ≡ false → (a || b) ≡ false
none_of true b h k = h
none_of false b h k = k

IsFullLine-joined : (name value : List ℕ) → IsInLine name → IsInLine value → IsFullLine (name ++ (58 ∷ 32 ∷ value))
IsFullLine-joined name value h k =
    let long : length (name ++ (58 ∷ 32 ∷ value)) ≡ length name + length (58 ∷ 32 ∷ value) = length-append name (58 ∷ 32 ∷ value) in
    (omega (arith, long), list_any-append ends_line name (58 ∷ 32 ∷ value) ∙ none_of (list_any ends_line name) (list_any ends_line value) h k)

IsFullLine-field : (field : Field) → IsInLine field.0 × IsInLine field.1 → IsFullLine (field_line field)
IsFullLine-field field parts = IsFullLine-joined field.0 field.1 parts.0 parts.1

AreFullLines-close : (close : Bool) → All IsFullLine (close_lines close)
AreFullLines-close true = All-cons IsFullLine (codes "Connection: close") [] (omega arith, refl) (All-nil IsFullLine)
AreFullLines-close false = All-nil IsFullLine

pub AreFullLines-head : (answer : AnswerModel) → HasPhrase answer.status → AreInLines answer.fields → All IsFullLine (head_lines answer)
AreFullLines-head answer status fields =
    let each = All-map IsFullLine field_line answer.fields (All-weaker _ (λ field. IsFullLine (field_line field)) IsFullLine-field answer.fields fields) in
    All-cons IsFullLine _ _ (IsFullLine-status answer.status status.0.1) (All-append IsFullLine _ _ each (AreFullLines-close answer.close))
