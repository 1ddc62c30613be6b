-- The name of a step breaks no rule.
use Rattle.std.proofs.Common.{◌≡◌, ◌≢◌, ◌<◌, ◌≤◌, ◌%◌, ℕ, true, false, List, [], ◌∷◌, ◌++◌, length, length-append, Some, None, refl, ◌∙◌, arith}
use Rattle.std.proofs.lemmas.Str.Parse.{digit_from_value}
use Rattle.std.specs.Prelude.{codes, ◌==◌, ◌^◌}
use Rattle.std.specs.Char.{digit_value}
use Rattle.std.specs.Fmt.{decimal}
use Rattle.std.specs.List.{list_any}
use Rattle.std.specs.Str.{IsAscii, is_utf8}
use Rattle.std.specs.Str.Parse.{AllDigits}
use Rattle.std.proofs.lemmas.Bool.{le-ltb, ne_eqb}
use Rattle.std.proofs.lemmas.Fmt.{IsAscii-decimal, decimal_is_IsNumeral, length-decimal-le}
use Rattle.std.proofs.lemmas.List.Folds.{list_any-append}
use Rattle.std.proofs.lemmas.Str.{IsAscii-append, IsUtf8-from_ascii, is_utf8-from_IsUtf8}
use Rattle.std.proofs.lemmas.Str.Ascii.{IsAscii-cons, IsAscii-nil}
use Rattle.sw_types.specs.Name.{name_fault, part_fault}
use Rattle.sw_types.specs.declared.name.Part.TheVariants.{Object}
use Rattle.sw_types.specs.declared.name.NameFault.{NameFault}
use Rattle.sw_types.specs.declared.name.NameFault.TheVariants.{NoMemory}
use Rattle.sw_lab.specs.Workload.{name_of}

is_text : (text : List ℕ) → IsAscii text → is_utf8 text ≡ true
is_text text ascii = is_utf8-from_IsUtf8 text (IsUtf8-from_ascii text ascii)

-- `load`, `box` and `obj`
account_ascii : IsAscii (codes "load")
account_ascii = IsAscii-cons 108 (111 ∷ 97 ∷ 100 ∷ []) (omega arith) (IsAscii-cons 111 (97 ∷ 100 ∷ []) (omega arith) (IsAscii-cons 97 (100 ∷ []) (omega arith) (IsAscii-cons 100 [] (omega arith) IsAscii-nil)))

container_ascii : IsAscii (codes "box")
container_ascii = IsAscii-cons 98 (111 ∷ 120 ∷ []) (omega arith) (IsAscii-cons 111 (120 ∷ []) (omega arith) (IsAscii-cons 120 [] (omega arith) IsAscii-nil))

front_ascii : IsAscii (codes "obj")
front_ascii = IsAscii-cons 111 (98 ∷ 106 ∷ []) (omega arith) (IsAscii-cons 98 (106 ∷ []) (omega arith) (IsAscii-cons 106 [] (omega arith) IsAscii-nil))

not_nul : (byte : ℕ) → digit_value byte < 10 → (byte == 0) ≡ false
not_nul byte digit = ne_eqb byte 0 (λ is. absurd (omega (arith, digit_from_value byte digit, is)))

no_nul : (digits : List ℕ) → AllDigits 10 digits → list_any (λ byte. byte == 0) digits ≡ false
no_nul [] are = refl
no_nul (byte ∷ digits) are = rw (not_nul byte are.0) (no_nul digits are.1)

object_sound : (text : List ℕ) → 0 < length text → length text ≤ 1024 → IsAscii text → list_any (λ byte. byte == 0) text ≡ false → part_fault Object text ≡ None
object_sound text some few ascii nul =
    rw (ne_eqb (length text) 0 (λ is. absurd (omega (arith, some, is))), le-ltb 1024 (length text) few, is_text text ascii, nul) refl

module _ (number : ℕ) where
  few : number % 50 < 2 ^ 64
  few = omega arith

  object : part_fault Object (name_of number).object ≡ None
  object =
      let digits = decimal (number % 50) in
      let short : length digits ≤ 2 = length-decimal-le 2 (number % 50) (omega arith) (omega arith) few in
      object_sound (codes "obj" ++ digits) (omega (arith, length-append (codes "obj") digits)) (omega (arith, length-append (codes "obj") digits, short))
      (IsAscii-append (codes "obj") digits front_ascii (IsAscii-decimal (number % 50) few))
      (list_any-append (λ byte. byte == 0) (codes "obj") digits ∙ no_nul digits (decimal_is_IsNumeral (number % 50) few).0.1)

  sound : name_fault (name_of number) ≡ None
  sound = rw (is_text (codes "load") account_ascii, is_text (codes "box") container_ascii) object

  -- so it is refused for want of memory alone
  pub only_memory : (fault : NameFault) → (fault ≢ NoMemory → name_fault (name_of number) ≡ Some fault) → fault ≡ NoMemory
  only_memory NoMemory told = refl
  only_memory other told = absurd (cc (told (λ is. absurd (cc is)), sound))
