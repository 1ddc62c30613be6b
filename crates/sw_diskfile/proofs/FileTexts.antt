-- How long the names of files are.
use Rattle.std.proofs.Common.{◌≡◌, ℕ, ◌<◌, ◌≤◌, Bool, true, false, codes, List, ◌∷◌, ◌++◌, length, length-append, arith}
use Rattle.std.specs.Fmt.{decimal}
use Rattle.std.proofs.lemmas.Fmt.{length-decimal-le}
use Rattle.sw_types.specs.Policy.{greatest_total}
use Rattle.sw_types.specs.Stamp.{stamp_text}
use Rattle.sw_hashpath.specs.FileName.{IsFileName, ending, file_name_text}
use Rattle.sw_hashpath.specs.declared.file_name.FileName.{FileName}
use Rattle.sw_hashpath.specs.declared.file_name.FileName.TheVariants.{Data, Tombstone}
use Rattle.sw_types.proofs.DigitsRead.{length-stamp_text}

short_ending : (durable : Bool) → length (ending durable) ≤ 7
short_ending true = omega arith
short_ending false = omega arith

-- a stamp, and few bytes behind it
short_parts : (front digits last : List ℕ) → length front ≡ 16 → length digits ≤ 2 → length last ≤ 7 → length (front ++ 35 ∷ digits ++ last) ≤ 96
short_parts front digits last sixteen two seven =
    let whole = length-append (front ++ 35 ∷ digits) last in
    let first = length-append front (35 ∷ digits) in
    omega (arith, sixteen, two, seven, whole, first)

-- none is longer than a disk takes
pub short_entry : (stamp index : ℕ) (durable : Bool) → index < greatest_total → length (file_name_text (Data stamp index durable)) ≤ 96
short_entry stamp index durable small =
    short_parts (stamp_text stamp) (decimal index) (ending durable) (length-stamp_text stamp)
    (length-decimal-le 2 index (omega arith) (omega (arith, small)) (omega (arith, small))) (short_ending durable)

pub short_text : (name : FileName) → IsFileName name → length (file_name_text name) ≤ 96
short_text (Data stamp index durable) is = short_entry stamp index durable is.1
short_text (Tombstone stamp) is = short_stamp (stamp_text stamp) (length-stamp_text stamp)
  where
    short_stamp : (front : List ℕ) → length front ≡ 16 → length (front ++ codes ".ts") ≤ 96
    short_stamp front sixteen = let whole = length-append front (codes ".ts") in omega (arith, sixteen, whole)
