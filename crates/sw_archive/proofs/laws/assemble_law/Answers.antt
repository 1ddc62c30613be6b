use Rattle.sw_archive.proofs.Objects.{not_other, one_further, one_object}
use Rattle.sw_archive.proofs.laws.assemble_law.Goals as goal

pub returns-clause-object : goal.returns-clause-object
returns-clause-object c = one_object

pub returns-clause-not_both : goal.returns-clause-not_both
returns-clause-not_both c = not_other

pub returns-clause-further : goal.returns-clause-further
returns-clause-further c = one_further
