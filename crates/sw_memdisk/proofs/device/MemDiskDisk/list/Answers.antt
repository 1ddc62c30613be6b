use Rattle.std.proofs.Common.{refl, ap}
use Rattle.std.proofs.lemmas.Result.{err_from_is_err_and}
use Rattle.sw_disk.specs.Calls.{ListNames}
use Rattle.sw_memdisk.specs.Memory.{MemDiskModel}
use Rattle.sw_memdisk.proofs.FoundFiles.{names_read}
use Rattle.sw_memdisk.proofs.Done.{failed_as, read_call, wants_memory}
use Rattle.sw_memdisk.proofs.device.MemDiskDisk.list.Goals as goal

pub returns-in_err-count-clause-runs : goal.returns-in_err-count-clause-runs
returns-in_err-count-clause-runs c =
    let p = err_from_is_err_and c.from_residual.result c.from_residual.ensures.1 in
    rw (p.1, p.2) (failed_as c.args.self.now c.count.new.self c.in_err-count.ensures.sound (ListNames c.args.folder.now) _ c.in_err-count.ensures.fits c.in_err-count.ensures.fails c.in_err-count.ensures.failed c.in_err-count.ensures.cause)

pub returns-in_err-names-clause-runs : goal.returns-in_err-names-clause-runs
returns-in_err-names-clause-runs c =
    let p = err_from_is_err_and c.from_residual-in_err-names.result c.from_residual-in_err-names.ensures.1 in
    rw (p.1) (wants_memory c.args.self.now c.count.new.self c.in_ok-count.ensures.sound (ListNames c.args.folder.now) p.0 c.in_ok-count.ensures.counted p.2)

pub returns-clause-names : goal.returns-clause-names
returns-clause-names c = names_read c.args.self.now c.count.new.self c.args.folder.now _ (ap (λ (m : MemDiskModel). m.folders) c.in_ok-count.ensures.counted) c.in_ok-names.ensures

pub returns-clause-runs : goal.returns-clause-runs
returns-clause-runs c = read_call c.args.self.now c.count.new.self c.in_ok-count.ensures.sound (ListNames c.args.folder.now) c.in_ok-count.ensures.goes_on refl c.in_ok-count.ensures.counted
