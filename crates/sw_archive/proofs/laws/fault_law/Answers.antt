use Rattle.sw_archive.proofs.Faults.{archive_or_fault, no_fault, one_fault}
use Rattle.sw_archive.proofs.laws.fault_law.Goals as goal

pub returns-clause-either : goal.returns-clause-either
returns-clause-either c = archive_or_fault

pub returns-clause-not_both : goal.returns-clause-not_both
returns-clause-not_both c = no_fault

pub returns-clause-one : goal.returns-clause-one
returns-clause-one c = one_fault
