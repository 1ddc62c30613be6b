use Rattle.std.proofs.Common.{true, false, subst, string_bytes}
use Rattle.sw_hashpath.specs.FileName.{IsFileName}
use Rattle.sw_hashpath.specs.declared.file_name.FileName.TheVariants.{Data, Tombstone}
use Rattle.sw_objsrv.specs.Changing.{IsNew}
use Rattle.sw_objsrv.proofs.AfterLook.{has_file, lacks_file}
use Rattle.sw_objsrv.proofs.Found.{plain_there}
use Rattle.sw_objsrv.proofs.changing.make_file.Goals as goal

pub commit-requires-clause-there : goal.commit-requires-clause-there
commit-requires-clause-there g c =
    let looked = c.args.looked.now in
    let plain = plain_there looked.dir c.in-Data.stamp c.in-Data.index c.in-Data.durable (subst (IsNew looked.dir) c.in-Data.is c.requires.new) in
    rw c.deref.ensures (has_file (g.D.Disk.seen c.args.disk.now).told (string_bytes looked.folder) looked.dir c.requires.directory (Data c.in-Data.stamp c.in-Data.index false) plain.0)

pub commit-requires-clause-new : goal.commit-requires-clause-new
commit-requires-clause-new g c =
    let looked = c.args.looked.now in
    let plain = plain_there looked.dir c.in-Data.stamp c.in-Data.index c.in-Data.durable (subst (IsNew looked.dir) c.in-Data.is c.requires.new) in
    let named = subst IsFileName c.in-Data.is c.requires.named in
    rw c.deref.ensures (lacks_file (g.D.Disk.seen c.args.disk.now).told (string_bytes looked.folder) looked.dir c.requires.directory (Data c.in-Data.stamp c.in-Data.index true) named plain.1)

pub bury-requires-clause-new : goal.bury-requires-clause-new
bury-requires-clause-new g c =
    let looked = c.args.looked.now in
    let lacks = subst (IsNew looked.dir) c.in-Tombstone.is c.requires.new in
    let named = subst IsFileName c.in-Tombstone.is c.requires.named in
    rw c.deref-in-Tombstone.ensures (lacks_file (g.D.Disk.seen c.args.disk.now).told (string_bytes looked.folder) looked.dir c.requires.directory (Tombstone c.in-Tombstone.stamp) named lacks)
