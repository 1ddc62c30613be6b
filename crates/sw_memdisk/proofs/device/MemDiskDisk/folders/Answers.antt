use Rattle.std.proofs.Common.{refl}
use Rattle.std.proofs.lemmas.Result.{err_from_is_err_and}
use Rattle.sw_disk.specs.Calls.{ListFolders}
use Rattle.sw_memdisk.proofs.Done.{failed_as, read_call, wants_memory}
use Rattle.sw_memdisk.proofs.device.MemDiskDisk.folders.Goals as goal

pub returns-in_err-count-clause-runs : goal.returns-in_err-count-clause-runs
returns-in_err-count-clause-runs c =
    let p = err_from_is_err_and c.from_residual.result c.from_residual.ensures.1 in
    rw (p.1, p.2) (failed_as c.args.self.now c.count.new.self c.in_err-count.ensures.sound ListFolders _ c.in_err-count.ensures.fits c.in_err-count.ensures.fails c.in_err-count.ensures.failed c.in_err-count.ensures.cause)

pub returns-in_err-busy-clause-runs : goal.returns-in_err-busy-clause-runs
returns-in_err-busy-clause-runs c =
    let p = err_from_is_err_and c.from_residual-in_err-busy.result c.from_residual-in_err-busy.ensures.1 in
    rw (p.1) (wants_memory c.args.self.now c.count.new.self c.in_ok-count.ensures.sound ListFolders p.0 c.in_ok-count.ensures.counted p.2)

pub returns-clause-runs : goal.returns-clause-runs
returns-clause-runs c = read_call c.args.self.now c.count.new.self c.in_ok-count.ensures.sound ListFolders c.in_ok-count.ensures.goes_on refl c.in_ok-count.ensures.counted
