-- The name of a tombstone is that of no archive.
use Rattle.std.proofs.Common.{◌≡◌, ℕ, Bool, codes, List, ◌∷◌, ◌++◌, drop, slice_index, sym, ap, ◌∙◌, append_assoc, arith}
use Rattle.std.specs.Fmt.{decimal}
use Rattle.std.proofs.lemmas.List.{drop_at}
use Rattle.sw_types.specs.Stamp.{stamp_text}
use Rattle.sw_types.proofs.DigitsRead.{length-stamp_text}
use Rattle.sw_hashpath.specs.FileName.{ending, file_name_text}
use Rattle.sw_hashpath.specs.declared.file_name.FileName.TheVariants.{Data, Tombstone}

-- also where the stamp is greater than any that there is
pub no_archive : (stamp index : ℕ) (durable : Bool) (other : ℕ) → file_name_text (Data stamp index durable) ≡ file_name_text (Tombstone other) → ⊥
no_archive stamp index durable other same =
    let behind : 35 ∷ decimal index ++ ending durable ≡ codes ".ts" =
    sym (drop_at (stamp_text stamp) (35 ∷ decimal index ++ ending durable) 16 (length-stamp_text stamp)) ∙ ap (drop 16) (sym (append_assoc (stamp_text stamp) (35 ∷ decimal index) (ending durable)) ∙ same)
    ∙ drop_at (stamp_text other) (codes ".ts") 16 (length-stamp_text other) in
    let first = ap (λ (text : List ℕ). slice_index text 0) behind in
    absurd (omega arith)
