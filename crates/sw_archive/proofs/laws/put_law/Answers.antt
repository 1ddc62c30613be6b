use Rattle.sw_archive.proofs.Archives.{put_is_archive}
use Rattle.sw_archive.proofs.laws.put_law.Goals as goal

pub returns : goal.returns
returns c = record { archive = put_is_archive }
