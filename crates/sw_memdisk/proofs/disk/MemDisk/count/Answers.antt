use Rattle.std.proofs.Common.{arith}
use Rattle.sw_memdisk.specs.Disk.{kept_in}
use Rattle.sw_memdisk.specs.Memory.{log_at}
use Rattle.sw_memdisk.proofs.Moments.{sound_later}
use Rattle.sw_memdisk.proofs.disk.MemDisk.count.Goals as goal

pub invariant_of-self : goal.invariant_of-self
invariant_of-self c = record {
  sound = λ name. sound_later (log_at (kept_in c.self.inside.folders) name) c.self.inside.calls (c.self.invariant.sound name) c.saturating_add-self-inside.result (omega arith);
  used = c.self.invariant.used;
}

pub invariant_of-self-2 : goal.invariant_of-self-2
invariant_of-self-2 c = record {
  sound = λ name. sound_later (log_at (kept_in c.self.inside.folders) name) c.self.inside.calls (c.self.invariant.sound name) _ (omega arith);
  used = c.self.invariant.used;
}
