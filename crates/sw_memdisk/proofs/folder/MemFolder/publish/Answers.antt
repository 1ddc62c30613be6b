use Rattle.std.proofs.Common.{◌<◌, ◌≡◌, ◌++◌, ◌∷◌, [], List, map, ap, subst, sym, ◌∙◌, arith}
use Rattle.sw_disk.specs.Folder as change
use Rattle.sw_memdisk.specs.Folder.{log_of}
use Rattle.sw_memdisk.specs.Memory.{FolderModel}
use Rattle.sw_memdisk.specs.Held.{AllInside, AreInside, change_of, content_of, files_in}
use Rattle.sw_memdisk.specs.Log.{with_change}
use Rattle.sw_memdisk.specs.declared.held.MemContent.{MemContent}
use Rattle.sw_memdisk.specs.declared.held.Move.{Move}
use Rattle.sw_memdisk.proofs.Contents.{files_in-push, published_is}
use Rattle.sw_memdisk.proofs.Keeping.{noted, place_for-file}
use Rattle.sw_memdisk.proofs.folder.MemFolder.publish.Goals as goal

pub note-requires-clause-files : goal.note-requires-clause-files
note-requires-clause-files c = place_for-file c.self.inside c.self.invariant (subst (λ (f : FolderModel). 0 < f.room) (sym c.self.view_is) c.requires.room)

pub invariant_of-self : goal.invariant_of-self
invariant_of-self c =
    let room = subst (λ (f : FolderModel). 0 < f.room) (sym c.self.view_is) c.requires.room in
    noted c.self.inside c.push_reserved.new.self c.note.new.files c.note.new.changes _ c.self.invariant room (omega (arith, c.push_reserved.ensures.len)) (omega (arith, room, c.self.invariant.room.contents, c.push_reserved.ensures.len, c.push_reserved.ensures.capacity)) (omega (arith, c.push_reserved.ensures.len, c.len.ensures)) c.note.ensures.files c.note.ensures.changes c.note.ensures.files_capacity c.note.ensures.changes_capacity

pub returns-clause-log : goal.returns-clause-log
returns-clause-log c =
    let f = c.self.inside in
    let contents = c.push_reserved.ensures.items in
    let change = change.Publish (record { name = c.args.name.now; content = content_of c.args.content }) in
    let base : files_in c.push_reserved.new.self.items f.base.items ≡ files_in f.contents.items f.base.items =
    ap (λ (cs : List MemContent). files_in cs f.base.items) contents ∙ files_in-push f.contents.items c.args.content f.base.items (subst (λ n. AreInside n f.base.items) f.contents.ok.0 c.self.invariant.base_inside) in
    let changes : map (change_of c.push_reserved.new.self.items) c.note.new.changes.items ≡ map (change_of f.contents.items) f.changes.items ++ change ∷ [] =
    ap (λ (cs : List MemContent). map (change_of cs) c.note.new.changes.items) contents
    ∙ ap (λ (moves : List Move). map (change_of (f.contents.items ++ c.args.content ∷ [])) moves) c.note.ensures.changes
    ∙ published_is f.contents.items c.args.content f.changes.items _ c.args.name.now (subst (λ n. AllInside n f.changes.items) f.contents.ok.0 c.self.invariant.changes_inside) (c.len.ensures ∙ f.contents.ok.0) c.label.ensures in
    let log : log_of (record f { contents = c.push_reserved.new.self; changes = c.note.new.changes }) ≡ with_change (log_of f) change = λ i. record { base = base i; changes = changes i; stable_at = f.stable_at.items } in
    log ∙ ap (λ (model : FolderModel). with_change model.log change) c.self.view_is
