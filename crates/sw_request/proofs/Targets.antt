-- Places in texts, and texts.
use Rattle.std.proofs.Common.{◌≡◌, ◌≤◌, ℕ, Bool, true, false, cond, not, ltb, ltb-false, List, length, position, Some, None, Result, Ok, Err, is_err, MatchResult, Bor, refl, sym, ap, arith}
use Rattle.std.specs.List.{position_or_len}
use Rattle.std.specs.Option.{unwrap_or}
use Rattle.std.specs.Str.{IsUtf8, is_utf8}
use Rattle.std.proofs.lemmas.Bool.{false_from_ne_true}
use Rattle.std.proofs.lemmas.List.Sums.{prefix_len-le-length}
use Rattle.std.proofs.lemmas.Str.{IsUtf8-from_is_utf8, is_utf8-from_IsUtf8}

placed : (n long : ℕ) (test : Bool) → ltb n long ≡ test → n ≤ long → unwrap_or (cond test (Some n) None) long ≡ n
placed n long true is bound = refl
placed n long false is bound = omega (arith, bound, ltb-false n long is)

-- where the first byte of a kind stands
pub first_place : (test : ℕ → Bool) (text : List ℕ) → unwrap_or (position test text) (length text) ≡ position_or_len test text
first_place test text = placed (position_or_len test text) (length text) (ltb (position_or_len test text) (length text)) refl (prefix_len-le-length (λ byte. not (test byte)) text)

-- what is no text
pub no_text_is : {E : Type 0} (bytes : List ℕ) (result : Result (Bor (List ℕ)) E) (Why : E → Type 0) → MatchResult result (λ text. (text.now ≡ bytes) × IsUtf8 bytes) (λ error. ¬ (IsUtf8 bytes) × Why error)
    → is_err result ≡ not (is_utf8 bytes)
no_text_is bytes (Ok text) Why cases = sym (ap not (is_utf8-from_IsUtf8 bytes cases.1))
no_text_is bytes (Err error) Why cases = sym (ap not (false_from_ne_true (is_utf8 bytes) (λ is. cases.0 (IsUtf8-from_is_utf8 bytes is))))
