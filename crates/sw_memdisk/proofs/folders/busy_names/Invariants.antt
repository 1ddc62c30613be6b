use Rattle.std.proofs.Common.{◌≡◌, ◌++◌}
use Rattle.sw_disk.specs.Answers.{texts_of}
use Rattle.sw_memdisk.specs.Disk.{kept_entries, kept_in}
use Rattle.sw_memdisk.specs.Memory.{busy_in}
use Rattle.sw_memdisk.proofs.folders.busy_names.Given as goal

-- the names so far and those among the folders that are left
abbrev pub invariant-loop-name : goal.invariant-loop-name
invariant-loop-name l = texts_of l.names.items ++ busy_in (kept_entries l.name-iterator) ≡ busy_in (kept_in l.folders)
