use Rattle.sw_law_alone.proofs.Ends.{alone_kept, alone_not_overtaken}
use Rattle.sw_law_complete.proofs.DeleteEnds.{delete_deleted}
use Rattle.sw_law_complete.proofs.GetComplete.{get_complete}
use Rattle.sw_law_complete.proofs.PutEnds.{put_created}
use Rattle.sw_law_headline.proofs.Invariants.{invariant}
use Rattle.sw_law_headline.proofs.NeverOlder.{never_older}
use Rattle.sw_law_headline.proofs.Shows.{shows}
use Rattle.sw_law_headline.proofs.StaysDeleted.{stays_deleted}
use Rattle.sw_law_headline.proofs.laws.headline_law.Goals as goal

pub returns-clause-invariant : goal.returns-clause-invariant
returns-clause-invariant c = invariant

pub returns-clause-never_older : goal.returns-clause-never_older
returns-clause-never_older c = never_older

pub returns-clause-shows : goal.returns-clause-shows
returns-clause-shows c = shows

pub returns-clause-stays_deleted : goal.returns-clause-stays_deleted
returns-clause-stays_deleted c = stays_deleted

pub returns-clause-alone : goal.returns-clause-alone
returns-clause-alone c = λ cluster world number operation begun turns alone there get are alike. (
  alone_kept cluster world number operation begun turns alone there get are alike,
  λ events ends. alone_not_overtaken cluster world number operation begun events alone there get alike ends,
)

pub returns-clause-puts_in_full : goal.returns-clause-puts_in_full
returns-clause-puts_in_full c = λ cluster old new name object operation begun alone ready room is. put_created cluster old new name object operation alone ready room begun is

pub returns-clause-deletes_in_full : goal.returns-clause-deletes_in_full
returns-clause-deletes_in_full c = λ cluster old new name operation begun alone ready is. delete_deleted cluster old new name operation alone ready begun is

pub returns-clause-gets_in_full : goal.returns-clause-gets_in_full
returns-clause-gets_in_full c = get_complete
