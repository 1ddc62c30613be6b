use Rattle.std.proofs.Common.{ap, ◌∙◌}
use Rattle.sw_disk.specs.Calls.{ListFolders}
use Rattle.sw_hostdisk.specs.Silent.{after_refusal}
use Rattle.sw_hostdisk.proofs.Untold.{done, refused}
use Rattle.sw_hostdisk.proofs.device.HostDiskDisk.folders.Goals as goal

pub returns-in-Ok-clause-runs : goal.returns-in-Ok-clause-runs
returns-in-Ok-clause-runs g c = done (λ disk. disk.faults) ListFolders c.args.self.now c.folder_names.new.self c.folder_names.ensures.faults

pub returns-in-Err-clause-runs : goal.returns-in-Err-clause-runs
returns-in-Err-clause-runs g c = refused (λ disk. disk.faults) ListFolders c.args.self.now c.refuse.new.self c.refuse.result (c.refuse.ensures.counted ∙ ap (after_refusal c.refuse.result) c.folder_names.ensures.faults)
