use Rattle.std.proofs.Common.{List, [], IfOk, String, Global, sym, ap, subst, ◌∙◌}
use Rattle.std.specs.Option.{option_copied}
use Rattle.sw_disk.specs.Answers.{IsListing, names_of, texts_of}
use Rattle.sw_memdisk.specs.Log.{Log, files_now}
use Rattle.sw_memdisk.proofs.Disks.{log_found, log_none, no_names}
use Rattle.sw_memdisk.proofs.disk.MemDisk.names.Goals as goal

pub returns-in-Some : goal.returns-in-Some
returns-in-Some c =
    let found = log_found c.self.inside c.args.self.now c.self.view_is c.args.folder.now c.in-Some.found.now (sym c.get.ensures.value ∙ ap option_copied c.in-Some.is) in
    subst (λ (log : Log). IfOk c.names.result (λ names. IsListing (names_of (files_now log)) (texts_of names.items))) (sym found) c.names.ensures

pub returns-in-None : goal.returns-in-None
returns-in-None c =
    let none = log_none c.self.inside c.args.self.now c.self.view_is c.args.folder.now (sym c.get.ensures.value ∙ ap option_copied c.in-None.is) in
    subst (λ (log : Log). IsListing (names_of (files_now log)) (texts_of c.new.result.items)) (sym none)
    (subst (λ (texts : List (String Global)). IsListing [] (texts_of texts)) (sym c.new.ensures.items) no_names)
