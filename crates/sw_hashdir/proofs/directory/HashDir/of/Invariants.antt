use Rattle.std.proofs.Common.{map, take, string_bytes}
use Rattle.sw_hashdir.specs.Directory.{IsDirectory}
use Rattle.sw_hashdir.proofs.directory.HashDir.of.Given as goal

abbrev pub invariant-loop-text : goal.invariant-loop-text
invariant-loop-text l = IsDirectory (take l.text-index (map string_bytes l.texts)) l.names.items
