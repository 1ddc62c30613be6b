use Rattle.std.proofs.Common.{◌∙◌, min, sym, ap}
use Rattle.std.specs.Option.{option_copied}
use Rattle.sw_words.specs.Counts.{last_count}
use Rattle.sw_memdisk.specs.Memory.{FolderModel, bytes_in}
use Rattle.sw_memdisk.proofs.Lookups.{at_found, at_none}
use Rattle.sw_memdisk.proofs.folders.size_in.Goals as goal

pub returns-in-Some : goal.returns-in-Some
returns-in-Some c =
    let at = at_found c.args.folder.now c.args.folders.now.entries c.in-Some.found.now (sym c.get.ensures.value ∙ ap option_copied c.in-Some.is) in
    c.size.ensures ∙ ap (λ (f : FolderModel). min (bytes_in f) last_count) (sym at)

pub returns-in-None : goal.returns-in-None
returns-in-None c =
    let at = at_none c.args.folder.now c.args.folders.now.entries (sym c.get.ensures.value ∙ ap option_copied c.in-None.is) in
    ap (λ (f : FolderModel). min (bytes_in f) last_count) (sym at)
