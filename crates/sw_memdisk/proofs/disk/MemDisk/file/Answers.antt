use Rattle.std.proofs.Common.{List, ℕ, Bor, option_map, sym, ap, ◌∙◌}
use Rattle.std.specs.Option.{option_copied}
use Rattle.sw_disk.specs.Folder.{Content, content_at}
use Rattle.sw_memdisk.specs.Log.{Log, files_now}
use Rattle.sw_memdisk.proofs.Disks.{log_found, log_none}
use Rattle.sw_memdisk.proofs.disk.MemDisk.file.Goals as goal

pub returns-in_err-get : goal.returns-in_err-get
returns-in_err-get c =
    let none = log_none c.self.inside c.args.self.now c.self.view_is c.args.folder.now (sym c.get.ensures.value ∙ ap option_copied c.in_err-get.was) in
    ap (option_map (λ (bytes : Bor (List ℕ)). bytes.now)) c.from_residual.ensures
    ∙ sym (ap (λ (log : Log). option_map (λ (content : Content). content.bytes) (content_at c.args.name.now (files_now log))) none)

pub returns : goal.returns
returns c =
    let found = log_found c.self.inside c.args.self.now c.self.view_is c.args.folder.now c.in_ok-get.field-0.now (sym c.get.ensures.value ∙ ap option_copied c.in_ok-get.was) in
    c.find.ensures ∙ sym (ap (λ (log : Log). option_map (λ (content : Content). content.bytes) (content_at c.args.name.now (files_now log))) found)
