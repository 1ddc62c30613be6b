use Rattle.sw_law_reading.proofs.Acknowledged.{created_over}
use Rattle.sw_law_reading.proofs.Shows.{found_over, never_older, shows as all_shows}
use Rattle.sw_law_reading.proofs.laws.reading_law.Goals as goal

pub returns-clause-never_older : goal.returns-clause-never_older
returns-clause-never_older c = never_older

pub returns-clause-shows : goal.returns-clause-shows
returns-clause-shows c = all_shows

pub returns-clause-found : goal.returns-clause-found
returns-clause-found c = found_over

pub returns-clause-created : goal.returns-clause-created
returns-clause-created c = created_over
