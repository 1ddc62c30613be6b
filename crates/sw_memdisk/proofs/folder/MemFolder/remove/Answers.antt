use Rattle.std.proofs.Common.{◌<◌, subst, sym, arith}
use Rattle.sw_memdisk.specs.Memory.{FolderModel}
use Rattle.sw_memdisk.proofs.Keeping.{noted, place_for-file}
use Rattle.sw_memdisk.proofs.folder.MemFolder.remove.Goals as goal

pub note-requires-clause-files : goal.note-requires-clause-files
note-requires-clause-files c = place_for-file c.self.inside c.self.invariant (subst (λ (f : FolderModel). 0 < f.room) (sym c.self.view_is) c.requires.room)

pub invariant_of-self : goal.invariant_of-self
invariant_of-self c =
    let room = subst (λ (f : FolderModel). 0 < f.room) (sym c.self.view_is) c.requires.room in
    noted c.self.inside c.self.inside.contents c.note.new.files c.note.new.changes _ c.self.invariant room (omega arith) (omega (arith, c.self.invariant.room.contents)) tt c.note.ensures.files c.note.ensures.changes c.note.ensures.files_capacity c.note.ensures.changes_capacity
