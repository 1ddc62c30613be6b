use Rattle.std.proofs.Common.{List, sym, subst}
use Rattle.sw_memdisk.specs.Disk.{kept_in}
use Rattle.sw_memdisk.specs.Log.{IsSound}
use Rattle.sw_memdisk.specs.Memory.{Kept, log_at}
use Rattle.sw_memdisk.proofs.Crashed.{image_crashed}
use Rattle.sw_memdisk.proofs.Disks.{sound_crashed}
use Rattle.sw_memdisk.proofs.disk.MemDisk.crash.Goals as goal

pub invariant_of-self : goal.invariant_of-self
invariant_of-self c = record {
  sound = λ name. subst (λ (folders : List Kept). IsSound (log_at folders name) c.self.inside.calls) (sym c.crash_all.ensures) (sound_crashed c.args.pick (kept_in c.self.inside.folders) name c.self.inside.calls);
  used = c.total-self-inside.ensures;
}

pub returns-clause-image : goal.returns-clause-image
returns-clause-image c = λ name.
    rw (c.crash_all.ensures, ← c.self.view_is) (image_crashed c.args.pick (kept_in c.self.inside.folders) name)
