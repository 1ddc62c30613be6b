use Rattle.std.proofs.Common.{◌≡◌, ◌∙◌, Option, Some, None, sym, ap}
use Rattle.std.specs.Option.{option_map}
use Rattle.std.proofs.lemmas.Result.{err_from_is_err_and}
use Rattle.sw_disk.specs.Calls.{PublishTmp}
use Rattle.sw_disk.specs.Folder.{Content, Publish}
use Rattle.sw_disk.specs.State.{published, replaced}
use Rattle.sw_memdisk.specs.Held.{content_of}
use Rattle.sw_memdisk.specs.Log.{folder_of}
use Rattle.sw_memdisk.specs.Memory.{MemDiskModel, log_at, state_of}
use Rattle.sw_memdisk.proofs.Done.{change_after, failed_as, next_disk}
use Rattle.sw_memdisk.proofs.device.MemDiskDisk.publish.Goals as goal
use Rattle.sw_memdisk.proofs.device.MemDiskDisk.publish.Goals.{After-change}

pub returns-in_err-count-clause-runs : goal.returns-in_err-count-clause-runs
returns-in_err-count-clause-runs c =
    let p = err_from_is_err_and c.from_residual.result c.from_residual.ensures.1 in
    rw (p.1, p.2) (failed_as c.args.self.now c.count.new.self c.in_err-count.ensures.sound (PublishTmp c.args.folder.now c.args.name.now) _ c.in_err-count.ensures.fits c.in_err-count.ensures.fails c.in_err-count.ensures.failed c.in_err-count.ensures.cause)

-- the disk without its temporary file
taken : (c : After-change) → c.take_temporary.new.self ≡ next_disk c.args.self.now None c.args.self.now.folders
taken c = c.take_temporary.ensures.rest ∙ ap (λ (m : MemDiskModel). record m { temporary = None }) c.in_ok-count.ensures.counted

-- the temporary file that it had
content : (c : After-change) → c.args.self.now.temporary ≡ Some (content_of c.unwrap-content.result)
content c = sym (ap (λ (m : MemDiskModel). m.temporary) c.in_ok-count.ensures.counted) ∙ sym c.take_temporary.ensures.content ∙ ap (option_map content_of) c.unwrap-content.ensures

pub returns-clause-runs : goal.returns-clause-runs
returns-clause-runs c =
    let now = (goal.at.returns-clause-runs c).After-change in
    let disk = c.args.self.now in
    let folder = c.args.folder.now in
    let name = c.args.name.now in
    change_after disk c.take_temporary.new.self c.change.new.self None c.in_ok-count.ensures.sound folder (Publish (record { name = name; content = content_of c.unwrap-content.result })) (PublishTmp folder name)
    c.in_ok-count.ensures.goes_on
    (ap (λ (t : Option Content). record (replaced (state_of disk) folder (published t name (folder_of (log_at disk.folders folder)))) { temporary = None }) (sym (content now)))
    (taken now) c.change.ensures.rest c.change.ensures.becomes
