use Rattle.sw_sync.specs.declared.sync_end.SyncEnd.TheVariants.{Done, Newer, TooFew, Unanswered}
use Rattle.sw_sync.proofs.Causes.{all-answered, has-cause}
use Rattle.sw_sync.proofs.Handed.{is-first, may-send}
use Rattle.sw_sync.proofs.laws.sync_law.Goals as goal

pub returns-clause-answered : goal.returns-clause-answered
returns-clause-answered c = λ begun past end valid run is. all-answered begun past end valid run is

pub returns-clause-done : goal.returns-clause-done
returns-clause-done c = λ begun past commits rebuilt tombstones failed valid run is. has-cause begun past (Done commits rebuilt tombstones failed) valid run is

pub returns-clause-unanswered : goal.returns-clause-unanswered
returns-clause-unanswered c = λ begun past device valid run is. has-cause begun past (Unanswered device) valid run is

pub returns-clause-newer : goal.returns-clause-newer
returns-clause-newer c = λ begun past floor valid run is. has-cause begun past (Newer floor) valid run is

pub returns-clause-too_few : goal.returns-clause-too_few
returns-clause-too_few c = λ begun past stamp have misses valid run is. has-cause begun past (TooFew stamp have misses) valid run is

pub returns-clause-sends : goal.returns-clause-sends
returns-clause-sends c = λ begun past sent valid run next. may-send begun past sent valid run next

pub returns-clause-first : goal.returns-clause-first
returns-clause-first c = λ begun past sent valid run next. is-first begun past sent valid run next
