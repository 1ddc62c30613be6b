use Rattle.std.proofs.Common.{arith}
use Rattle.sw_memdisk.specs.Disk.{kept_in}
use Rattle.sw_memdisk.specs.Memory.{log_at}
use Rattle.sw_memdisk.proofs.Disks.{used_synced}
use Rattle.sw_memdisk.proofs.Moments.{sound-sync}
use Rattle.sw_memdisk.proofs.Steps.{sound_becomes}
use Rattle.sw_memdisk.proofs.disk.MemDisk.settle.Goals as goal

pub invariant_of-self : goal.invariant_of-self
invariant_of-self c =
    let old = kept_in c.self.inside.folders in
    let calls = c.self.inside.calls in
    let name = c.args.folder.now in
    let sound = c.self.invariant.sound in
    record {
      sound = sound_becomes old (kept_in c.settle_in.new.folders) name _ calls c.settle_in.ensures (sound-sync (log_at old name) calls (sound name) calls (omega arith)) sound;
      used = used_synced old (kept_in c.settle_in.new.folders) name calls c.self.inside.used c.settle_in.ensures c.self.invariant.used;
    }
