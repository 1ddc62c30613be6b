use Rattle.std.proofs.Common.{◌∙◌, refl, ap}
use Rattle.std.proofs.lemmas.Result.{err_from_is_err_and}
use Rattle.sw_disk.specs.Calls.{SyncTmp}
use Rattle.sw_disk.specs.State.{synced}
use Rattle.sw_memdisk.specs.Memory.{MemDiskModel}
use Rattle.sw_memdisk.proofs.Done.{failed_as, plain_call}
use Rattle.sw_memdisk.proofs.device.MemDiskDisk.sync_tmp.Goals as goal

pub returns-in_err-count-clause-runs : goal.returns-in_err-count-clause-runs
returns-in_err-count-clause-runs c =
    let p = err_from_is_err_and c.from_residual.result c.from_residual.ensures.1 in
    rw (p.1, p.2) (failed_as c.args.self.now c.count.new.self c.in_err-count.ensures.sound SyncTmp _ c.in_err-count.ensures.fits c.in_err-count.ensures.fails c.in_err-count.ensures.failed c.in_err-count.ensures.cause)

pub returns-clause-runs : goal.returns-clause-runs
returns-clause-runs c =
    plain_call c.args.self.now c.in_ok-count.ensures.sound SyncTmp c.sync_temporary.new.self (synced c.args.self.now.temporary) c.in_ok-count.ensures.goes_on refl
    (c.sync_temporary.ensures ∙ ap (λ (m : MemDiskModel). record m { temporary = synced m.temporary }) c.in_ok-count.ensures.counted)
