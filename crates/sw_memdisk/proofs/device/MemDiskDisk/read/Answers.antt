use Rattle.std.proofs.Common.{refl, ap, List, ℕ, Bor}
use Rattle.std.proofs.lemmas.Result.{err_from_is_err_and}
use Rattle.sw_disk.specs.Calls.{ReadFile}
use Rattle.sw_memdisk.specs.Memory.{MemDiskModel}
use Rattle.sw_memdisk.proofs.FoundFiles.{bytes_read, is_there}
use Rattle.sw_memdisk.proofs.Done.{failed_as, read_call, wants_memory}
use Rattle.sw_memdisk.proofs.device.MemDiskDisk.read.Goals as goal

pub returns-in_err-count-clause-runs : goal.returns-in_err-count-clause-runs
returns-in_err-count-clause-runs c =
    let p = err_from_is_err_and c.from_residual.result c.from_residual.ensures.1 in
    rw (p.1, p.2) (failed_as c.args.self.now c.count.new.self c.in_err-count.ensures.sound (ReadFile c.args.folder.now c.args.name.now) _ c.in_err-count.ensures.fits c.in_err-count.ensures.fails c.in_err-count.ensures.failed c.in_err-count.ensures.cause)

pub returns-in_err-from_slice-clause-runs : goal.returns-in_err-from_slice-clause-runs
returns-in_err-from_slice-clause-runs c =
    let p = err_from_is_err_and c.from_residual-in_err-from_slice.result c.from_residual-in_err-from_slice.ensures.1 in
    rw (p.1) (wants_memory c.args.self.now c.count.new.self c.in_ok-count.ensures.sound (ReadFile c.args.folder.now c.args.name.now) p.0 c.in_ok-count.ensures.counted p.2)

pub unwrap-bytes-requires : goal.unwrap-bytes-requires
unwrap-bytes-requires c =
    is_there c.args.self.now c.count.new.self c.args.folder.now c.args.name.now (ap (λ (m : MemDiskModel). m.folders) c.in_ok-count.ensures.counted) (λ (bytes : Bor (List ℕ)). bytes.now) c.file.result c.file.ensures c.requires.there

pub returns-clause-bytes : goal.returns-clause-bytes
returns-clause-bytes c =
    bytes_read c.args.self.now c.count.new.self c.args.folder.now c.args.name.now (ap (λ (m : MemDiskModel). m.folders) c.in_ok-count.ensures.counted) (λ (bytes : Bor (List ℕ)). bytes.now) c.file.result c.unwrap-bytes.result _
    c.file.ensures c.unwrap-bytes.ensures c.in_ok-from_slice.ensures

pub returns-clause-runs : goal.returns-clause-runs
returns-clause-runs c = read_call c.args.self.now c.count.new.self c.in_ok-count.ensures.sound (ReadFile c.args.folder.now c.args.name.now) c.in_ok-count.ensures.goes_on refl c.in_ok-count.ensures.counted
