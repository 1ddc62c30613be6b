use Rattle.std.proofs.Common.{refl}
use Rattle.std.proofs.lemmas.Result.{err_from_is_err_and}
use Rattle.sw_disk.specs.Calls.{RenameFile}
use Rattle.sw_disk.specs.Folder.{Rename}
use Rattle.sw_memdisk.proofs.Done.{change_after, failed_as}
use Rattle.sw_memdisk.proofs.device.MemDiskDisk.rename.Goals as goal

pub returns-in_err-count-clause-runs : goal.returns-in_err-count-clause-runs
returns-in_err-count-clause-runs c =
    let p = err_from_is_err_and c.from_residual.result c.from_residual.ensures.1 in
    rw (p.1, p.2) (failed_as c.args.self.now c.count.new.self c.in_err-count.ensures.sound (RenameFile c.args.folder.now c.args.from.now c.args.to.now) _ c.in_err-count.ensures.fits c.in_err-count.ensures.fails c.in_err-count.ensures.failed c.in_err-count.ensures.cause)

pub returns-clause-runs : goal.returns-clause-runs
returns-clause-runs c =
    change_after c.args.self.now c.count.new.self c.change.new.self c.args.self.now.temporary c.in_ok-count.ensures.sound c.args.folder.now (Rename c.args.from.now c.args.to.now) (RenameFile c.args.folder.now c.args.from.now c.args.to.now) c.in_ok-count.ensures.goes_on refl
    c.in_ok-count.ensures.counted c.change.ensures.rest c.change.ensures.becomes
