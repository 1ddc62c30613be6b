use Rattle.std.proofs.Common.{◌≡◌, map, take}
use Rattle.sw_disk.specs.Answers.{texts_of}
use Rattle.sw_memdisk.proofs.Readings.{name_of}
use Rattle.sw_memdisk.proofs.folder.MemFolder.names.Given as goal

abbrev pub invariant-loop-held : goal.invariant-loop-held
invariant-loop-held l = texts_of l.names.items ≡ map name_of (take l.held-index l.held-items)
