use Rattle.std.proofs.Common.{List, ℕ, Bor, option_map, sym, ap, subst, ◌∙◌}
use Rattle.std.specs.Option.{option_copied}
use Rattle.sw_disk.specs.Answers.{IsListing, names_of}
use Rattle.sw_memdisk.specs.Log.{Log, files_now}
use Rattle.sw_memdisk.proofs.Disks.{log_found, log_none, no_name}
use Rattle.sw_memdisk.proofs.disk.MemDisk.name_at.Goals as goal

pub returns-in_err-get : goal.returns-in_err-get
returns-in_err-get c = λ names is.
    let none = log_none c.self.inside c.args.self.now c.self.view_is c.args.folder.now (sym c.get.ensures.value ∙ ap option_copied c.in_err-get.was) in
    ap (option_map (λ (name : Bor (List ℕ)). name.now)) c.from_residual.ensures
    ∙ sym (no_name names c.args.place (subst (λ (log : Log). IsListing (names_of (files_now log)) names) none is))

pub returns : goal.returns
returns c = λ names is.
    let found = log_found c.self.inside c.args.self.now c.self.view_is c.args.folder.now c.in_ok-get.field-0.now (sym c.get.ensures.value ∙ ap option_copied c.in_ok-get.was) in
    c.name_at.ensures names (subst (λ (log : Log). IsListing (names_of (files_now log)) names) found is)
