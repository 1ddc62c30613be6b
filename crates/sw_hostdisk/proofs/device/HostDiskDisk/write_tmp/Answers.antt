use Rattle.std.proofs.Common.{ap, refl, ◌∙◌}
use Rattle.sw_disk.specs.Calls.{WriteTmp}
use Rattle.sw_hostdisk.specs.Silent.{after_refusal}
use Rattle.sw_hostdisk.proofs.Untold.{done, refused}
use Rattle.sw_hostdisk.proofs.device.HostDiskDisk.write_tmp.Goals as goal

pub returns-then-need-free-clause-runs : goal.returns-then-need-free-clause-runs
returns-then-need-free-clause-runs g c = refused (λ disk. disk.faults) (WriteTmp c.args.bytes.now) c.args.self.now c.args.self.now _ refl

pub returns-in-Ok-clause-runs : goal.returns-in-Ok-clause-runs
returns-in-Ok-clause-runs g c = done (λ disk. disk.faults) (WriteTmp c.args.bytes.now) c.args.self.now c.write_temporary.new.self c.write_temporary.ensures.faults

pub returns-in-Err-clause-runs : goal.returns-in-Err-clause-runs
returns-in-Err-clause-runs g c = refused (λ disk. disk.faults) (WriteTmp c.args.bytes.now) c.args.self.now c.refuse.new.self c.refuse.result (c.refuse.ensures.counted ∙ ap (after_refusal c.refuse.result) c.write_temporary.ensures.faults)
