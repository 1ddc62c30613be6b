use Rattle.std.proofs.Common.{rules, ◌≡◌, Ok, ap, subst, sym}
use Rattle.sw_archive.specs.Archive.{ArchiveModel, IsArchive}
use Rattle.sw_archive.proofs.Archives.{one_archive}
use Rattle.sw_archive.proofs.Faults.{no_fault}
use Rattle.sw_archive.proofs.reading.read_archive.Goals as goal

pub returns-in_err-spelled-clause-refused : goal.returns-in_err-spelled-clause-refused
returns-in_err-spelled-clause-refused c = λ fault is.
    let same : c.in_err-spelled.field-0.0 ≡ fault = cc (c.in_err-spelled.ensures.refused fault is) in
    search (rules, same)

pub returns-in_err-archive-clause-refused : goal.returns-in_err-archive-clause-refused
returns-in_err-archive-clause-refused c = λ fault is. absurd (no_fault c.args.bytes.now c.in_ok-spelled.spelled fault c.in_ok-spelled.ensures.found is)

pub returns-clause-reads : goal.returns-clause-reads
returns-clause-reads c = λ archive is other.
    let found : IsArchive c.args.bytes.now c.in_ok-archive.archive = subst (IsArchive c.args.bytes.now) (sym c.in_ok-archive.ensures) c.in_ok-spelled.ensures.found in
    ap (λ (a : ArchiveModel). Ok a) (one_archive c.args.bytes.now c.in_ok-archive.archive archive found is)

pub returns-clause-refused : goal.returns-clause-refused
returns-clause-refused c = λ fault is. absurd (no_fault c.args.bytes.now c.in_ok-spelled.spelled fault c.in_ok-spelled.ensures.found is)
