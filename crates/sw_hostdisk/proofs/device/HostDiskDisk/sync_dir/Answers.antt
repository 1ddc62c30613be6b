use Rattle.std.proofs.Common.{ap, ◌∙◌}
use Rattle.sw_disk.specs.Calls.{SyncDir}
use Rattle.sw_hostdisk.specs.Silent.{after_refusal}
use Rattle.sw_hostdisk.proofs.Untold.{done, refused}
use Rattle.sw_hostdisk.proofs.device.HostDiskDisk.sync_dir.Goals as goal

pub returns-in-Ok-clause-runs : goal.returns-in-Ok-clause-runs
returns-in-Ok-clause-runs g c = done (λ disk. disk.faults) (SyncDir c.args.folder.now) c.args.self.now c.sync_names.new.self c.sync_names.ensures.faults

pub returns-in-Err-clause-runs : goal.returns-in-Err-clause-runs
returns-in-Err-clause-runs g c = refused (λ disk. disk.faults) (SyncDir c.args.folder.now) c.args.self.now c.fail.new.self c.fail.result (c.fail.ensures.counted ∙ ap (after_refusal c.fail.result) c.sync_names.ensures.faults)
