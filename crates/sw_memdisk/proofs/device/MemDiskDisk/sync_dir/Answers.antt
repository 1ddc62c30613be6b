use Rattle.std.proofs.lemmas.Result.{err_from_is_err_and}
use Rattle.sw_disk.specs.Calls.{SyncDir}
use Rattle.sw_memdisk.proofs.Done.{failed_as, sync_after}
use Rattle.sw_memdisk.proofs.device.MemDiskDisk.sync_dir.Goals as goal

pub returns-in_err-count-clause-runs : goal.returns-in_err-count-clause-runs
returns-in_err-count-clause-runs c =
    let p = err_from_is_err_and c.from_residual.result c.from_residual.ensures.1 in
    rw (p.1, p.2) (failed_as c.args.self.now c.count.new.self c.in_err-count.ensures.sound (SyncDir c.args.folder.now) _ c.in_err-count.ensures.fits c.in_err-count.ensures.fails c.in_err-count.ensures.failed c.in_err-count.ensures.cause)

pub returns-clause-runs : goal.returns-clause-runs
returns-clause-runs c =
    sync_after c.args.self.now c.count.new.self c.settle.new.self c.in_ok-count.ensures.sound c.args.folder.now c.in_ok-count.ensures.goes_on c.in_ok-count.ensures.counted c.settle.ensures.rest c.settle.ensures.becomes
