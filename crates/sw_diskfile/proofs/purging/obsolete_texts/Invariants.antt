use Rattle.std.proofs.Common.{◌≡◌, map, take}
use Rattle.sw_disk.specs.Answers.{texts_of}
use Rattle.sw_hashpath.specs.FileName.{file_name_text}
use Rattle.sw_diskfile.proofs.purging.obsolete_texts.Given as goal

abbrev pub invariant-loop-name : goal.invariant-loop-name
invariant-loop-name l = texts_of l.texts.items ≡ map file_name_text (take l.name-index l.name-items)
