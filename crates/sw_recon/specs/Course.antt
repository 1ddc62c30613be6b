-- How far a revert is with the entries of its device.
use Rattle.std.specs.Prelude.{ℕ, List}
use Rattle.sw_hashdir.specs.declared.entry.Entry.{Entry}
use Rattle.sw_recon.specs.declared.kept.KeptEntry.{KeptEntry}
use Rattle.sw_recon.specs.declared.treatment.Treatment.{Treatment}

-- a revert treats so many entries; the others wait for a later one
abbrev pub most_entries : ℕ
most_entries = 65536

-- the entry that is treated and those behind it, what is done next about it, how many were removed, and those that are kept
pub record Course : Type 0 where
  pub entry : Entry
  pub later : List Entry
  pub treatment : Treatment
  pub removed : ℕ
  pub kept : List KeptEntry
