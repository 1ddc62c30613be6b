use Rattle.std.proofs.Common.{◌≡◌, ◌∙◌, min}
use Rattle.sw_words.specs.Counts.{last_count}
use Rattle.sw_memdisk.specs.Change.{change_of}
use Rattle.sw_memdisk.specs.Disk.{kept_in}
use Rattle.sw_memdisk.specs.Memory.{log_at, used_by}
use Rattle.sw_memdisk.proofs.Disks.{counted}
use Rattle.sw_memdisk.proofs.Moments.{sound-change}
use Rattle.sw_memdisk.proofs.Steps.{sound_becomes}
use Rattle.sw_memdisk.proofs.disk.MemDisk.change.Goals as goal
use Rattle.sw_memdisk.proofs.disk.MemDisk.change.Goals.{then-self, else-self}

pub invariant_of-self : goal.invariant_of-self
invariant_of-self c =
    let old = kept_in c.self.inside.folders in
    let new = kept_in c.change_in.new.folders in
    let name = c.args.folder.now in
    let sound = c.self.invariant.sound in
    let used : c.if-self.self ≡ min (used_by new) last_count = elim c.if-self.branch [
      | then-self w ↦ w.self-is ∙ w.total-self-inside.ensures
      | else-self w ↦ counted old new name _ _ _ _ _ c.change_in.ensures c.self.invariant.used w.if-self.false c.size_in-before.ensures c.size_in-after.ensures (w.self-is ∙ w.saturating_add-self-inside.ensures)
    ] in
    record {
      sound = sound_becomes old new name _ c.self.inside.calls c.change_in.ensures (sound-change (log_at old name) c.self.inside.calls (sound name) (change_of c.args.change)) sound;
      used = used;
    }
