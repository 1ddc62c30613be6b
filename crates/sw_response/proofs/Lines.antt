-- Fields that tell of an object are lines.
use Rattle.std.proofs.Common.{◌≡◌, ◌≢◌, ◌<◌, ◌+◌, ◌/◌, ◌%◌, ◌^◌, ◌==◌, ◌||◌, ◌&&◌, if◌then◌else◌, ℕ, zero, suc, Bool, true, false, not, List, [], ◌∷◌, ◌++◌, codes, length, map, slice_index, nat_lt, nat_le, Some, None, refl, sym, subst, arith, ne_eqb, append_assoc}
use Rattle.std.specs.List.{list_all, list_any}
use Rattle.std.proofs.lemmas.Bool.{and_parts, or_from}
use Rattle.std.proofs.lemmas.List.Elements.{All-cons, All-nil, All-same}
use Rattle.hex.specs.Hex.{encode_with, lower_digits}
use Rattle.sw_words.proofs.Rules.{neither}
use Rattle.sw_types.specs.Decimal.{last_digits}
use Rattle.sw_types.specs.Head.{HeadModel, Pair, greatest_pair_name, greatest_text, head_fault, is_content_type, is_name_byte, is_pair_name, is_pair_value, is_plain, pairs_fault}
use Rattle.sw_types.specs.Object.{ObjectModel}
use Rattle.sw_types.specs.Stamp.{stamp_text}
use Rattle.sw_types.specs.declared.head.HeadFault.TheVariants.{ContentType}
use Rattle.sw_types.proofs.HeadForms.{pair_fits}
use Rattle.sw_httpwrite.specs.Answer.{AreInLines, Field, IsInLine}
use Rattle.sw_request.specs.Response.{length_field, type_field}
use Rattle.sw_request.proofs.Lines.{decimal_line}
use Rattle.sw_response.specs.Response.{commits_field, pair_field, stamp_field, tag_field}

abbrev ends_line : ℕ → Bool
ends_line byte = byte == 13 || byte == 10

stays : (byte : ℕ) → byte ≢ 13 → byte ≢ 10 → ends_line byte ≡ false
stays byte return feed = or_from (byte == 13) (byte == 10) (ne_eqb byte 13 return) (ne_eqb byte 10 feed)

either_false : (a b : Bool) → (a || b) ≡ false → (a ≡ false) × (b ≡ false)
either_false true b is = absurd (cc)
either_false false b is = (refl, is)

line_joined : (a b : List ℕ) → IsInLine a → IsInLine b → IsInLine (a ++ b)
line_joined [] b front back = back
line_joined (byte ∷ a) b front back =
    let parts = either_false (ends_line byte) (list_any ends_line a) front in
    or_from (ends_line byte) (list_any ends_line (a ++ b)) parts.0 (line_joined a b parts.1 back)

-- ---- stamps and digests

last_digits_line : (count n : ℕ) → IsInLine (last_digits count n)
unfolding last_digits
last_digits_line zero n = refl
last_digits_line (suc count) n =
    let digit = stays (48 + n % 10) (λ is. absurd (omega (arith, is))) (λ is. absurd (omega (arith, is))) in
    line_joined (last_digits count (n / 10)) ((48 + n % 10) ∷ []) (last_digits_line count (n / 10)) (or_from (ends_line (48 + n % 10)) false digit refl)

stamp_line : (stamp : ℕ) → IsInLine (stamp_text stamp)
stamp_line stamp =
    line_joined (last_digits 10 (stamp / 100000)) (46 ∷ last_digits 5 (stamp % 100000)) (last_digits_line 10 (stamp / 100000))
    (or_from (ends_line 46) (list_any ends_line (last_digits 5 (stamp % 100000))) refl (last_digits_line 5 (stamp % 100000)))

at_line : (table : List ℕ) (place : ℕ) → IsInLine table → ends_line (slice_index table place) ≡ false
at_line [] place is = refl
at_line (byte ∷ table) zero is = (either_false (ends_line byte) (list_any ends_line table) is).0
at_line (byte ∷ table) (suc place) is = at_line table place (either_false (ends_line byte) (list_any ends_line table) is).1

hex_line : (bytes : List ℕ) → IsInLine (encode_with lower_digits bytes)
unfolding encode_with
hex_line [] = refl
hex_line (byte ∷ bytes) =
    or_from (ends_line (slice_index lower_digits (byte / 16))) (list_any ends_line (slice_index lower_digits (byte % 16) ∷ encode_with lower_digits bytes)) (at_line lower_digits (byte / 16) refl)
    (or_from (ends_line (slice_index lower_digits (byte % 16))) (list_any ends_line (encode_with lower_digits bytes)) (at_line lower_digits (byte % 16) refl) (hex_line bytes))

-- ---- heads

neither_holds : (ends other : Bool) → not (ends || other) ≡ true → ends ≡ false
neither_holds true other is = absurd (cc)
neither_holds false other is = refl

plain_line : (text : List ℕ) → is_plain text ≡ true → IsInLine text
plain_line [] is = refl
plain_line (byte ∷ text) is =
    let parts = and_parts (not (ends_line byte || byte == 0)) (is_plain text) is in
    or_from (ends_line byte) (list_any ends_line text) (neither_holds (ends_line byte) (byte == 0) parts.0) (plain_line text parts.1)

name_byte_stays : (byte : ℕ) → is_name_byte byte ≡ true → ends_line byte ≡ false
name_byte_stays byte is =
    stays byte
    (λ same. let odd : is_name_byte 13 ≡ true = subst (λ (b : ℕ). is_name_byte b ≡ true) same is in absurd (cc))
    (λ same. let odd : is_name_byte 10 ≡ true = subst (λ (b : ℕ). is_name_byte b ≡ true) same is in absurd (cc))

name_line : (name : List ℕ) → list_all is_name_byte name ≡ true → IsInLine name
name_line [] is = refl
name_line (byte ∷ name) is =
    let parts = and_parts (is_name_byte byte) (list_all is_name_byte name) is in
    or_from (ends_line byte) (list_any ends_line name) (name_byte_stays byte parts.0) (name_line name parts.1)

abbrev IsLineField : Field → Type 0
IsLineField field = IsInLine field.0 × IsInLine field.1

pair_line : (pair : Pair) → (is_pair_name pair.0 && is_pair_value pair.1) ≡ true → IsLineField (pair_field pair)
pair_line pair is =
    let parts = and_parts (is_pair_name pair.0) (is_pair_value pair.1) is in
    let name = and_parts (nat_lt 0 (length pair.0) && nat_le (length pair.0) greatest_pair_name) (list_all is_name_byte pair.0) parts.0 in
    let value = and_parts (nat_le (length pair.1) greatest_text) (is_plain pair.1) parts.1 in
    (line_joined (codes "X-Object-Meta-") pair.0 refl (name_line pair.0 name.1), plain_line pair.1 value.1)

pair_lines : (earlier later : List Pair) → pairs_fault (earlier ++ later) ≡ None → AreInLines (map pair_field later)
pair_lines earlier [] none = All-nil IsLineField
pair_lines earlier (pair ∷ later) none =
    All-cons IsLineField (pair_field pair) (map pair_field later) (pair_line pair (pair_fits earlier pair later none).form)
    (pair_lines (earlier ++ pair ∷ []) later (subst (λ (pairs : List Pair). pairs_fault pairs ≡ None) (sym (append_assoc earlier (pair ∷ []) later)) none))

in_form : (form : Bool) → (if form then None else Some ContentType) ≡ None → form ≡ true
in_form true is = refl
in_form false is = absurd (cc)

type_line : (head : HeadModel) → head_fault head ≡ None → IsInLine head.content_type
type_line head none =
    let form = in_form (is_content_type head.content_type) (neither (if is_content_type head.content_type then None else Some ContentType) (pairs_fault head.pairs) none).0 in
    plain_line head.content_type (and_parts (nat_lt 0 (length head.content_type) && nat_le (length head.content_type) greatest_text) (is_plain head.content_type) form).1

-- ---- the fields of answers

tag_and_stamp : (digest : List ℕ) (stamp : ℕ) (further : List Field) → AreInLines further → AreInLines (tag_field digest ∷ stamp_field stamp ∷ further)
tag_and_stamp digest stamp further lines =
    All-cons IsLineField (tag_field digest) (stamp_field stamp ∷ further) (refl, hex_line digest) (All-cons IsLineField (stamp_field stamp) further (refl, stamp_line stamp) lines)

-- of an object that was found
pub found_lines : (fields : List Field) (stamp : ℕ) (object : ObjectModel) → head_fault object.head ≡ None → length object.body < 2 ^ 64
    → fields ≡ length_field object.body ∷ type_field object.head.content_type ∷ tag_field object.body_md5 ∷ stamp_field stamp ∷ map pair_field object.head.pairs → AreInLines fields
found_lines fields stamp object none small are =
    let pairs = map pair_field object.head.pairs in
    let broken = (neither (if is_content_type object.head.content_type then None else Some ContentType) (pairs_fault object.head.pairs) none).1 in
    All-same IsLineField fields (length_field object.body ∷ type_field object.head.content_type ∷ tag_field object.body_md5 ∷ stamp_field stamp ∷ pairs) are
    (All-cons IsLineField (length_field object.body) (type_field object.head.content_type ∷ tag_field object.body_md5 ∷ stamp_field stamp ∷ pairs) (refl, decimal_line (length object.body) small)
    (All-cons IsLineField (type_field object.head.content_type) (tag_field object.body_md5 ∷ stamp_field stamp ∷ pairs) (refl, type_line object.head none)
    (tag_and_stamp object.body_md5 stamp pairs (pair_lines [] object.head.pairs broken))))

-- of a put
pub created_lines : (fields : List Field) (digest : List ℕ) (stamp commits : ℕ) → commits < 2 ^ 64
    → fields ≡ length_field [] ∷ tag_field digest ∷ stamp_field stamp ∷ commits_field commits ∷ [] → AreInLines fields
created_lines fields digest stamp commits small are =
    let last = All-cons IsLineField (commits_field commits) [] (refl, decimal_line commits small) (All-nil IsLineField) in
    All-same IsLineField fields (length_field [] ∷ tag_field digest ∷ stamp_field stamp ∷ commits_field commits ∷ []) are
    (All-cons IsLineField (length_field []) (tag_field digest ∷ stamp_field stamp ∷ commits_field commits ∷ []) (refl, decimal_line 0 (omega arith))
    (tag_and_stamp digest stamp (commits_field commits ∷ []) last))
