use Rattle.std.proofs.Common.{List, Global, String, codes, true, sym, subst}
use Rattle.sw_disk.specs.Answers.{names_of, texts_of}
use Rattle.sw_disk.specs.Folder.{File, files_of}
use Rattle.sw_hashdir.specs.Directory.{IsDirectory}
use Rattle.sw_memdisk.specs.Memory.{LeftBy, seen_of, state_of}
use Rattle.sw_diskfile.specs.Normal.{AreObsolete}
use Rattle.sw_diskfile.proofs.Tidied.{looked_keeps}
use Rattle.disk_bench.proofs.changes.commit_and_purge.Goals as goal

pub purge-requires-clause-obsolete : goal.purge-requires-clause-obsolete
purge-requires-clause-obsolete c =
    let folder = codes "objects/0/f72/900150983cd24fb0d6963f7d28e17f72" in
    let dir = c.in_ok-look.field-0 in
    let kept = looked_keeps seen_of LeftBy folder c.args.disk.now c.look.new.disk c.ready.new.self (λ (files : List File). IsDirectory (names_of files) dir) c.in_ok-look.ensures.runs c.in_ok-ready.ensures.untouched c.in_ok-look.ensures.directory in
    let after = c.in_ok-commit.ensures.directory dir c.in_ok-later.later kept c.in_ok-later.ensures in
    subst (λ (names : List (String Global)). AreObsolete true (names_of (files_of ((state_of c.commit.new.disk).folder folder))) (texts_of names)) (sym c.deref.ensures.value)
    (record { names = c.in_ok-later.later; directory = after; all = c.in_ok-obsolete.ensures.all; ascend = c.in_ok-obsolete.ensures.ascend })
