use Rattle.std.proofs.Common.{◌≤◌, drop, vec_len}
use Rattle.sw_memdisk.specs.Held.{files_in}
use Rattle.sw_memdisk.specs.Lent.{LendsFiles}
use Rattle.sw_memdisk.proofs.folder.MemFolder.lend.Given as goal

-- the files from the place on are lent
abbrev pub invariant-files : goal.invariant-files
invariant-files l = record {
  within : l.place ≤ vec_len l.self-inside.files;
  lends : LendsFiles (drop l.place (files_in l.self-inside.contents.items l.self-inside.files.items)) l.lent;
}

abbrev pub decreases-files : goal.decreases-files
decreases-files l = l.place
