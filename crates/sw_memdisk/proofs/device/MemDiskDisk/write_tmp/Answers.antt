use Rattle.std.proofs.Common.{◌≡◌, ◌∙◌, List, ℕ, false, Option, Some, refl, ap}
use Rattle.std.proofs.lemmas.Result.{err_from_is_err_and}
use Rattle.sw_disk.specs.Calls.{WriteTmp}
use Rattle.sw_disk.specs.Folder.{Content}
use Rattle.sw_memdisk.specs.Memory.{MemDiskModel}
use Rattle.sw_memdisk.proofs.Done.{failed_as, plain_call, refused_call, wants_memory}
use Rattle.sw_memdisk.proofs.device.MemDiskDisk.write_tmp.Goals as goal

pub returns-in_err-count-clause-runs : goal.returns-in_err-count-clause-runs
returns-in_err-count-clause-runs c =
    let p = err_from_is_err_and c.from_residual.result c.from_residual.ensures.1 in
    rw (p.1, p.2) (failed_as c.args.self.now c.count.new.self c.in_err-count.ensures.sound (WriteTmp c.args.bytes.now) _ c.in_err-count.ensures.fits c.in_err-count.ensures.fails c.in_err-count.ensures.failed c.in_err-count.ensures.cause)

pub returns-then-need-free-clause-runs : goal.returns-then-need-free-clause-runs
returns-then-need-free-clause-runs c = refused_call c.args.self.now c.in_ok-count.ensures.sound (WriteTmp c.args.bytes.now) c.count.new.self _ (λ same. cc) c.in_ok-count.ensures.counted

pub returns-in_err-bytes-clause-runs : goal.returns-in_err-bytes-clause-runs
returns-in_err-bytes-clause-runs c =
    let p = err_from_is_err_and c.from_residual-in_err-bytes.result c.from_residual-in_err-bytes.ensures.1 in
    rw (p.1) (wants_memory c.args.self.now c.count.new.self c.in_ok-count.ensures.sound (WriteTmp c.args.bytes.now) p.0 c.in_ok-count.ensures.counted p.2)

pub returns-clause-runs : goal.returns-clause-runs
returns-clause-runs c =
    let written : Option Content = Some (record { bytes = c.args.bytes.now; synced = false }) in
    let content : Some (record { bytes = c.in_ok-bytes.bytes.items; synced = false }) ≡ written = ap (λ (b : List ℕ). Some (record { bytes = b; synced = false })) c.in_ok-bytes.ensures in
    plain_call c.args.self.now c.in_ok-count.ensures.sound (WriteTmp c.args.bytes.now) c.set_temporary.new.self written c.in_ok-count.ensures.goes_on refl
    (c.set_temporary.ensures ∙ ap (λ (t : Option Content). record c.count.new.self { temporary = t }) content ∙ ap (λ (m : MemDiskModel). record m { temporary = written }) c.in_ok-count.ensures.counted)
