use Rattle.std.proofs.Common.{ℕ, List, ◌<◌, get_or, map}
use Rattle.sw_memdisk.proofs.Ranks.{StandsAt}
use Rattle.sw_memdisk.proofs.Readings.{name_of}
use Rattle.sw_memdisk.proofs.folder.MemFolder.name_at.Given as goal

-- no file so far stands at the place
abbrev pub invariant-loop-held : goal.invariant-loop-held
invariant-loop-held l = (k : ℕ) → k < l.held-index → (d : List ℕ) → StandsAt (map name_of l.held-items) l.place (get_or (map name_of l.held-items) k d) → ⊥
