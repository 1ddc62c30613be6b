use Rattle.std.proofs.Common.{◌≡◌, ◌++◌, ℕ, List}
use Rattle.md5.specs.Md5.{Holds}
use Rattle.sw_suffix.specs.Entries.{floors_of}
use Rattle.sw_suffix.specs.Suffix.{suffix_text}
use Rattle.sw_suffix.specs.Table.{in_suffix}
use Rattle.sw_suffix.proofs.floors.scratch_hash.Given as goal

-- the lines so far and those of the floors that are left
abbrev pub invariant-loop-key : goal.invariant-loop-key
invariant-loop-key l = (text : List ℕ) × Holds l.hasher text × (text ++ suffix_text (floors_of l.key-iterator) ≡ suffix_text (in_suffix l.part l.suffix (floors_of l.floors.entries)))
