use Rattle.std.proofs.Common.{IfOk, sym, ap, subst, ◌∙◌}
use Rattle.std.specs.Option.{option_copied}
use Rattle.sw_memdisk.specs.Lent.{LendsFiles}
use Rattle.sw_memdisk.specs.Log.{Log, files_now}
use Rattle.sw_memdisk.proofs.Disks.{log_found, log_none}
use Rattle.sw_memdisk.proofs.Lending.{none_lent}
use Rattle.sw_memdisk.proofs.disk.MemDisk.lend.Goals as goal

pub returns-in-Some : goal.returns-in-Some
returns-in-Some c =
    let found = log_found c.self.inside c.args.self.now c.self.view_is c.args.folder.now c.in-Some.found.now (sym c.get.ensures.value ∙ ap option_copied c.in-Some.is) in
    subst (λ (log : Log). IfOk c.lend.result (LendsFiles (files_now log))) (sym found) c.lend.ensures

pub returns-in-None : goal.returns-in-None
returns-in-None c =
    let none = log_none c.self.inside c.args.self.now c.self.view_is c.args.folder.now (sym c.get.ensures.value ∙ ap option_copied c.in-None.is) in
    subst (λ (log : Log). LendsFiles (files_now log) c.new.result) (sym none) (none_lent c.new.result c.new.ensures.empty)
