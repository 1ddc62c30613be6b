use Rattle.std.proofs.Common.{◌≡◌, ℕ, List, rules, subst, sym}
use Rattle.sw_archive.specs.Fault.{IsFault}
use Rattle.sw_archive.proofs.archive_bytes.ArchiveBytes.check.Goals as goal

pub returns-clause-refused : goal.returns-clause-refused
returns-clause-refused c = λ fault is.
    let same : c.as_slice.result.now ≡ c.args.self.now = search rules in
    c.check_noted.ensures.refused fault (subst (λ (bytes : List ℕ). IsFault bytes fault) (sym same) is)
