use Rattle.std.proofs.Common.{◌≤◌, ◌∙◌, ℕ, ap, sym, subst}
use Rattle.std.specs.Map.{lookup}
use Rattle.std.specs.Option.{option_copied_mut}
use Rattle.std.proofs.lemmas.Result.{on_ok_weaker}
use Rattle.sw_memdisk.specs.Disk.{kept_in}
use Rattle.sw_memdisk.specs.Memory.{FolderModel, IsRoomier}
use Rattle.sw_memdisk.proofs.Lookups.{is_named}
use Rattle.sw_memdisk.proofs.Reserved.{Folders, found_room, found_roomier, put_room, put_roomier}
use Rattle.sw_memdisk.proofs.folders.reserve_in.Goals as goal

pub returns-in-Some-clause-roomier : goal.returns-in-Some-clause-roomier
returns-in-Some-clause-roomier c =
    let there = sym c.get_mut.ensures.value ∙ ap option_copied_mut c.in-Some.is in
    found_roomier c.args.folder.now c.args.folders.now.entries _ c.in-Some.found.now c.reserve.new.self there (c.get_mut.follows.holds c.reserve.new.self).0 c.reserve.ensures.log c.reserve.ensures.kept

pub returns-in-Some-clause-room : goal.returns-in-Some-clause-room
returns-in-Some-clause-room c =
    let there = sym c.get_mut.ensures.value ∙ ap option_copied_mut c.in-Some.is in
    let room = found_room c.args.folder.now c.args.folders.now.entries _ c.in-Some.found.now c.reserve.new.self there (c.get_mut.follows.holds c.reserve.new.self).0 in
    on_ok_weaker c.reserve.result (λ enough. subst (λ (n : ℕ). c.args.changes ≤ n) (sym room) enough) c.reserve.ensures.room

pub returns-clause-roomier : goal.returns-clause-roomier
returns-clause-roomier c =
    let same = c.get_mut.follows.holds-at-none in
    let none = ap (λ (folders : Folders). lookup (is_named c.args.folder.now) folders.entries) same ∙ sym c.get_mut.ensures.value ∙ ap option_copied_mut c.in_default.is in
    subst (λ (folders : Folders). IsRoomier (kept_in folders) (kept_in c.insert.new.self)) same (
    put_roomier c.args.folder.now c.in_ok-name.name c.get_mut.follows.lender-at-none c.insert.new.self c.reserve-2.new.self c.in_ok-name.ensures.ok none c.in_ok-insert.ensures.updates
    c.in_ok-insert.ensures.was_ordered c.in_ok-insert.ensures.entries (c.reserve-2.ensures.log ∙ ap (λ (f : FolderModel). f.log) c.new-new.ensures)
    )

pub returns-clause-room : goal.returns-clause-room
returns-clause-room c =
    let none = ap (λ (folders : Folders). lookup (is_named c.args.folder.now) folders.entries) c.get_mut.follows.holds-at-none ∙ sym c.get_mut.ensures.value ∙ ap option_copied_mut c.in_default.is in
    let room = put_room c.args.folder.now c.in_ok-name.name c.get_mut.follows.lender-at-none c.insert.new.self c.reserve-2.new.self c.in_ok-name.ensures.ok none c.in_ok-insert.ensures.updates in
    subst (λ (n : ℕ). c.args.changes ≤ n) (sym room) c.in_ok-reserve.ensures.room
