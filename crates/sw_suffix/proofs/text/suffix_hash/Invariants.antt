use Rattle.std.proofs.Common.{take}
use Rattle.md5.specs.Md5.{Holds}
use Rattle.sw_suffix.specs.Suffix.{suffix_text}
use Rattle.sw_suffix.proofs.text.suffix_hash.Given as goal

-- the lines of the floors so far
abbrev pub invariant-loop-place : goal.invariant-loop-place
invariant-loop-place l = Holds l.hasher (suffix_text (take l.place-index l.floors))
