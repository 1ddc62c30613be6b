use Rattle.std.proofs.Common.{ap, ◌∙◌}
use Rattle.sw_disk.specs.Calls.{PublishTmp}
use Rattle.sw_hostdisk.specs.Silent.{after_refusal}
use Rattle.sw_hostdisk.proofs.Untold.{done, refused}
use Rattle.sw_hostdisk.proofs.device.HostDiskDisk.publish.Goals as goal

pub returns-in-Ok-clause-runs : goal.returns-in-Ok-clause-runs
returns-in-Ok-clause-runs g c = done (λ disk. disk.faults) (PublishTmp c.args.folder.now c.args.name.now) c.args.self.now c.publish_temporary.new.self c.publish_temporary.ensures.faults

pub returns-in-Err-clause-runs : goal.returns-in-Err-clause-runs
returns-in-Err-clause-runs g c = refused (λ disk. disk.faults) (PublishTmp c.args.folder.now c.args.name.now) c.args.self.now c.fail.new.self c.fail.result (c.fail.ensures.counted ∙ ap (after_refusal c.fail.result) c.publish_temporary.ensures.faults)
