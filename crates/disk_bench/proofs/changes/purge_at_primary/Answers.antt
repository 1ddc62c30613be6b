use Rattle.std.proofs.Common.{List, Global, String, codes, true, sym, subst}
use Rattle.sw_disk.specs.Answers.{names_of, texts_of}
use Rattle.sw_disk.specs.Folder.{File, files_of}
use Rattle.sw_hashdir.specs.Directory.{IsDirectory}
use Rattle.sw_memdisk.specs.Memory.{LeftBy, seen_of, state_of}
use Rattle.sw_diskfile.specs.Normal.{AreObsolete}
use Rattle.sw_diskfile.proofs.Tidied.{looked_keeps}
use Rattle.disk_bench.proofs.changes.purge_at_primary.Goals as goal

pub purge-requires-clause-obsolete : goal.purge-requires-clause-obsolete
purge-requires-clause-obsolete c =
    let folder = codes "objects/0/f72/900150983cd24fb0d6963f7d28e17f72" in
    let kept = looked_keeps seen_of LeftBy folder c.args.disk.now c.look.new.disk c.ready.new.self (λ (files : List File). IsDirectory (names_of files) c.in_ok-dir.dir) c.in_ok-dir.ensures.runs c.in_ok-ready.ensures.untouched c.in_ok-dir.ensures.directory in
    subst (λ (names : List (String Global)). AreObsolete true (names_of (files_of ((state_of c.ready.new.self).folder folder))) (texts_of names)) (sym c.deref.ensures.value)
    (record { names = c.in_ok-dir.dir; directory = kept; all = c.in_ok-obsolete.ensures.all; ascend = c.in_ok-obsolete.ensures.ascend })
