use Rattle.sw_law_complete.proofs.DeleteEnds.{delete_deleted}
use Rattle.sw_law_complete.proofs.PutEnds.{put_created}
use Rattle.sw_law_complete.proofs.laws.complete_writes_law.Goals as goal

pub returns-clause-created : goal.returns-clause-created
returns-clause-created c = λ cluster old new name object operation begun alone ready room is. put_created cluster old new name object operation alone ready room begun is

pub returns-clause-deleted : goal.returns-clause-deleted
returns-clause-deleted c = λ cluster old new name operation begun alone ready is. delete_deleted cluster old new name operation alone ready begun is
