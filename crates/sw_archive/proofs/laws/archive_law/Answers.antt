use Rattle.sw_archive.proofs.Archives.{no_prefix}
use Rattle.sw_archive.proofs.laws.archive_law.Goals as goal

pub returns : goal.returns
returns c = record { no_prefix = no_prefix }
