-- What stands behind the stamp in the name of a file.
use Rattle.std.proofs.Common.{◌≡◌, ◌≢◌, ℕ, ◌<◌, ◌≤◌, Bool, true, false, if◌then◌else◌, codes, List, [], ◌∷◌, ◌++◌, drop, length, take, Option, Some, refl, sym, subst, ap, ◌∙◌, append_assoc, append-nil, length-append, arith}
use Rattle.std.specs.Fmt.{decimal}
use Rattle.std.specs.List.{IsSplitAt}
use Rattle.std.specs.Str.Parse.{AllDigits}
use Rattle.std.proofs.lemmas.Fmt.{decimal_is_IsNumeral}
use Rattle.std.proofs.lemmas.List.{append_cancel_left, append_cancel_right, drop_at, take_at, take-append-drop}
use Rattle.sw_types.specs.Policy.{greatest_total}
use Rattle.sw_types.specs.Stamp.{greatest_stamp, stamp_text}
use Rattle.sw_types.proofs.DigitsRead.{length-stamp_text}
use Rattle.sw_hashpath.specs.FileName.{IsFileName, ending, file_name_text}
use Rattle.sw_hashpath.specs.declared.file_name.FileName.{FileName}
use Rattle.sw_hashpath.specs.declared.file_name.FileName.TheVariants.{Data, Tombstone}

-- what marks a durable archive
abbrev pub mark : Bool → List ℕ
mark durable = if durable then codes "#d" else []

-- digits don't end with the mark
unmarked_digits : (front : List ℕ) → AllDigits 10 (front ++ codes "#d") → ⊥
unmarked_digits [] all = absurd (omega (arith, all.0))
unmarked_digits (digit ∷ front) all = unmarked_digits front all.1

unmarked_decimal : (index : ℕ) (front : List ℕ) → index < greatest_total → decimal index ≢ front ++ codes "#d"
unmarked_decimal index front small same =
    unmarked_digits front (subst (AllDigits 10) same (decimal_is_IsNumeral index (omega arith)).0.1)

-- a text, with the mark or without it where it has none
pub record IsMarked (text digits : List ℕ) (durable : Bool) : Type 0 where
  pub is : text ≡ digits ++ mark durable
  pub plain : durable ≡ false → (front : List ℕ) → text ≢ front ++ codes "#d"

-- the text of an index, before what its name ends with
with_ending : (digits : List ℕ) (durable : Bool) → (digits ++ mark durable) ++ codes ".data" ≡ digits ++ ending durable
with_ending digits true = append_assoc digits (codes "#d") (codes ".data")
with_ending digits false = ap (λ text. text ++ codes ".data") (append-nil digits)

-- a text in parts is that of an index
pub whole_text : (text rest middle digits : List ℕ) (index : ℕ) (durable : Bool) → text ≡ codes "#" ++ rest → rest ≡ middle ++ codes ".data" → IsMarked middle digits durable → digits ≡ decimal index → text ≡ 35 ∷ decimal index ++ ending durable
whole_text text rest middle digits index durable after before marked same =
    after ∙ ap (λ t. 35 ∷ t) (before ∙ ap (λ t. t ++ codes ".data") (marked.is ∙ ap (λ t. t ++ mark durable) same) ∙ with_ending (decimal index) durable)

-- and what stands in the text of an index before its last part
pub middle_text : (text rest : List ℕ) (index : ℕ) (durable : Bool) → text ≡ codes "#" ++ rest → text ≡ 35 ∷ decimal index ++ ending durable → rest ≡ (decimal index ++ mark durable) ++ codes ".data"
middle_text text rest index durable after printed =
    append_cancel_left (codes "#") rest (decimal index ++ ending durable) (sym after ∙ printed) ∙ sym (with_ending (decimal index) durable)

-- its digits, and whether it has the mark, are told by it
pub marked_parts : (text digits : List ℕ) (index : ℕ) (found durable : Bool) → index < greatest_total → IsMarked text digits found → text ≡ decimal index ++ mark durable → (digits ≡ decimal index) × (found ≡ durable)
marked_parts text digits index true true small marked printed = (append_cancel_right digits (decimal index) (codes "#d") (sym marked.is ∙ printed), refl)
marked_parts text digits index true false small marked printed =
    absurd (unmarked_decimal index digits small (sym (append-nil (decimal index)) ∙ sym printed ∙ marked.is))
marked_parts text digits index false true small marked printed = absurd (marked.plain refl (decimal index) printed)
marked_parts text digits index false false small marked printed = (sym (append-nil digits) ∙ sym marked.is ∙ printed ∙ append-nil (decimal index), refl)

-- what stands behind the stamp in the text of a name
abbrev pub behind_stamp : FileName → List ℕ
behind_stamp (Data stamp index durable) = 35 ∷ decimal index ++ ending durable
behind_stamp (Tombstone stamp) = codes ".ts"

abbrev pub stamp_of : FileName → ℕ
stamp_of (Data stamp index durable) = stamp
stamp_of (Tombstone stamp) = stamp

text_by_stamp : (name : FileName) → file_name_text name ≡ stamp_text (stamp_of name) ++ behind_stamp name
text_by_stamp (Data stamp index durable) = append_assoc (stamp_text stamp) (35 ∷ decimal index) (ending durable)
text_by_stamp (Tombstone stamp) = refl

-- the text of a name has a stamp in front
pub long_text : (text : List ℕ) (name : FileName) → text ≡ file_name_text name → 16 ≤ length text
long_text text name printed =
    let long = length-append (stamp_text (stamp_of name)) (behind_stamp name) in
    omega (arith, ap length (printed ∙ text_by_stamp name), long, length-stamp_text (stamp_of name))

-- and is cut behind it
pub cut_text : (text front rest : List ℕ) (name : FileName) → IsSplitAt text 16 front rest → text ≡ file_name_text name → (front ≡ stamp_text (stamp_of name)) × (rest ≡ behind_stamp name)
cut_text text front rest name cut printed =
    let whole = printed ∙ text_by_stamp name in
    let sixteen = length-stamp_text (stamp_of name) in (
      cut.1 ∙ ap (take 16) whole ∙ take_at (stamp_text (stamp_of name)) (behind_stamp name) 16 sixteen,
      cut.2 ∙ ap (drop 16) whole ∙ drop_at (stamp_text (stamp_of name)) (behind_stamp name) 16 sixteen,
    )

-- a text is that of a name by its stamp and by what stands behind
pub joined_text : (text front rest : List ℕ) (stamp : ℕ) (name : FileName) → IsSplitAt text 16 front rest → front ≡ stamp_text stamp → stamp_text stamp ++ rest ≡ file_name_text name → text ≡ file_name_text name
joined_text text front rest stamp name cut same behind =
    sym (take-append-drop 16 text) ∙ ap (λ t. t ++ drop 16 text) (sym cut.1 ∙ same) ∙ ap (λ t. stamp_text stamp ++ t) (sym cut.2) ∙ behind

-- its stamp is one that there is
pub stamp_bound : (name : FileName) → IsFileName name → stamp_of name ≤ greatest_stamp
stamp_bound (Data stamp index durable) is_name = is_name.0
stamp_bound (Tombstone stamp) is_name = is_name

-- a name is read by its stamp and by what stands behind
pub name_read : (name : FileName) (stamp : ℕ) (rest : List ℕ) (result : Option FileName) → IsFileName name → stamp ≡ stamp_of name → rest ≡ behind_stamp name → ((index : ℕ) (durable : Bool) → index < greatest_total → rest ≡ 35 ∷ decimal index ++ ending durable → result ≡ Some (Data stamp index durable)) → (rest ≡ codes ".ts" → result ≡ Some (Tombstone stamp)) → result ≡ Some name
name_read (Data stamp index durable) read rest result is_name same behind archive tombstone = archive index durable is_name.1 behind ∙ ap (λ s. Some (Data s index durable)) same
name_read (Tombstone stamp) read rest result is_name same behind archive tombstone = tombstone behind ∙ ap (λ s. Some (Tombstone s)) same
