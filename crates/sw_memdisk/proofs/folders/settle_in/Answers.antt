use Rattle.std.proofs.Common.{◌∙◌, sym, ap}
use Rattle.std.specs.Option.{option_copied_mut}
use Rattle.sw_memdisk.specs.Log.{with_sync}
use Rattle.sw_memdisk.specs.Memory.{FolderModel}
use Rattle.sw_memdisk.proofs.Lookups.{at_found, at_none, becomes_found, becomes_none, folder_model}
use Rattle.sw_memdisk.proofs.folders.settle_in.Goals as goal

pub returns-in-Some : goal.returns-in-Some
returns-in-Some c =
    let there = sym c.get_mut.ensures.value ∙ ap option_copied_mut c.in-Some.is in
    let at = at_found c.args.folder.now c.args.folders.now.entries c.in-Some.found.now there in
    becomes_found c.args.folder.now c.args.folders.now.entries _ c.in-Some.found.now c.sync.new.self _ _ there (c.get_mut.follows.holds c.sync.new.self).0
    (c.sync.ensures.log ∙ ap (λ (f : FolderModel). with_sync f.log c.args.call) (sym at)) (c.sync.ensures.room ∙ ap (λ (f : FolderModel). f.room) (sym at))

pub returns-in_default : goal.returns-in_default
returns-in_default c =
    let none = sym c.get_mut.ensures.value ∙ ap option_copied_mut c.in_default.is in
    let at = at_none c.args.folder.now c.args.folders.now.entries none in
    becomes_none c.args.folder.now _ c.args.folders.now.entries _ none (ap (λ (m : _). m.entries) c.get_mut.follows.holds-at-none)
    (ap (λ (f : FolderModel). folder_model (with_sync f.log c.args.call) f.room) at)
