use Rattle.std.proofs.Common.{◌≡◌, ◌∙◌, Some, sym, ap, arith}
use Rattle.std.specs.Map.{lookup}
use Rattle.std.specs.Option.{option_copied_mut}
use Rattle.sw_memdisk.specs.Change.{change_of}
use Rattle.sw_memdisk.specs.Log.{with_change}
use Rattle.sw_memdisk.specs.Memory.{FolderModel}
use Rattle.sw_memdisk.proofs.Lookups.{at_found, at_none, becomes_found, is_named}
use Rattle.sw_memdisk.proofs.folders.change_in.Goals as goal
use Rattle.sw_memdisk.proofs.folders.change_in.Goals.{In-Some}

found : (c : In-Some) → lookup (is_named c.args.folder.now) c.args.folders.now.entries ≡ Some c.in-Some.found.now
found c = sym c.get_mut.ensures.value ∙ ap option_copied_mut c.in-Some.is

pub change-requires-clause-room : goal.change-requires-clause-room
change-requires-clause-room c =
    let at = at_found c.args.folder.now c.args.folders.now.entries c.in-Some.found.now (found (goal.at.change-requires-clause-room c).In-Some) in
    omega (arith, c.requires.room, ap (λ (f : FolderModel). f.room) at)

pub returns-in-Some : goal.returns-in-Some
returns-in-Some c =
    let there = found (goal.at.returns-in-Some c).In-Some in
    let at = at_found c.args.folder.now c.args.folders.now.entries c.in-Some.found.now there in
    becomes_found c.args.folder.now c.args.folders.now.entries _ c.in-Some.found.now c.change.new.self _ _ there (c.get_mut.follows.holds c.change.new.self).0
    (c.change.ensures.log ∙ ap (λ (f : FolderModel). with_change f.log (change_of c.args.change)) (sym at))
    (omega (arith, c.change.ensures.room, ap (λ (f : FolderModel). f.room) at))

pub returns-in_default : goal.returns-in_default
returns-in_default c =
    let none = sym c.get_mut.ensures.value ∙ ap option_copied_mut c.in_default.is in
    let at = at_none c.args.folder.now c.args.folders.now.entries none in
    absurd (omega (arith, c.requires.room, ap (λ (f : FolderModel). f.room) at))
