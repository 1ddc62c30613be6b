use Rattle.std.proofs.Common.{◌≤◌, ◌+◌, None, drop, length, take}
use Rattle.sw_disk.specs.Answers.{names_of, texts_of}
use Rattle.sw_disk.specs.Folder.{files_of}
use Rattle.sw_disk.specs.Runs.{IfTold, Runs}
use Rattle.sw_diskfile.specs.Normal.{AreObsolete}
use Rattle.sw_diskfile.proofs.Removing.{removals}
use Rattle.sw_diskfile.proofs.purging.remove_all.Given as goal

abbrev pub invariant-loop-name : goal.invariant-loop-name
invariant-loop-name g l = record {
  runs : Runs g.D.Disk.seen g.D.Disk.left_since (removals l.folder (take l.name-index l.obsolete)) None l.initial.disk l.disk;
  obsolete : IfTold (g.D.Disk.seen l.disk).told (λ state. AreObsolete l.is_primary (names_of (files_of (state.folder l.folder))) (texts_of (drop l.name-index l.obsolete)));
  room : length l.obsolete ≤ (g.D.Disk.seen l.disk).room l.folder + l.name-index;
}
