use Rattle.std.proofs.Common.{refl}
use Rattle.sw_disk.specs.Calls.{ListNames}
use Rattle.sw_hostdisk.proofs.Untold.{done, refused}
use Rattle.sw_hostdisk.proofs.device.HostDiskDisk.list.Goals as goal

pub returns-in-Ok-clause-runs : goal.returns-in-Ok-clause-runs
returns-in-Ok-clause-runs g c = done (λ disk. disk.faults) (ListNames c.args.folder.now) c.args.self.now c.args.self.now refl

pub returns-in-Err-clause-runs : goal.returns-in-Err-clause-runs
returns-in-Err-clause-runs g c = refused (λ disk. disk.faults) (ListNames c.args.folder.now) c.args.self.now c.refuse.new.self c.refuse.result c.refuse.ensures.counted
