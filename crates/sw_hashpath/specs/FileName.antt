-- Names of the files of a folder. An archive's is its stamp and index, and says whether it is durable; a tombstone's is its stamp.
use Rattle.std.specs.Prelude.{ℕ, ◌<◌, ◌≤◌, Bool, if◌then◌else◌, codes, List, ◌∷◌, ◌++◌}
use Rattle.std.specs.Fmt.{decimal}
use Rattle.sw_types.specs.Policy.{greatest_total}
use Rattle.sw_types.specs.Stamp.{greatest_stamp, stamp_text}
use Rattle.sw_hashpath.specs.declared.file_name.FileName.{FileName}
use Rattle.sw_hashpath.specs.declared.file_name.FileName.TheVariants.{Data, Tombstone}

abbrev pub ending : Bool → List ℕ
ending durable = if durable then codes "#d.data" else codes ".data"

abbrev pub file_name_text : FileName → List ℕ
file_name_text (Data stamp index durable) = stamp_text stamp ++ 35 ∷ decimal index ++ ending durable
file_name_text (Tombstone stamp) = stamp_text stamp ++ codes ".ts"

-- the stamp is one that there is, and the index is one of a fragment
abbrev pub IsFileName : FileName → Type 0
IsFileName (Data stamp index durable) = (stamp ≤ greatest_stamp) × (index < greatest_total)
IsFileName (Tombstone stamp) = stamp ≤ greatest_stamp
