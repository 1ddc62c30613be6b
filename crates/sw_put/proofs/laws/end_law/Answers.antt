use Rattle.sw_put.specs.declared.end.PutEnd.TheVariants.{Created, Superseded, TooFewCommits, TooFewSynced}
use Rattle.sw_put.proofs.Ends.{created, settled, superseded, too_few_made, too_few_synced}
use Rattle.sw_put.proofs.Transcripts.{ended}
use Rattle.sw_put.proofs.laws.end_law.Goals as goal

pub returns-clause-created : goal.returns-clause-created
returns-clause-created c = λ begun past stamp count valid run is.
    created begun past valid run (ended begun past (Created stamp count) is) stamp count (settled begun past (Created stamp count) is)

pub returns-clause-superseded : goal.returns-clause-superseded
returns-clause-superseded c = λ begun past floor valid run is.
    superseded begun past valid run (ended begun past (Superseded floor) is) floor (settled begun past (Superseded floor) is)

pub returns-clause-too_few_synced : goal.returns-clause-too_few_synced
returns-clause-too_few_synced c = λ begun past have missed valid run is.
    too_few_synced begun past valid run (ended begun past (TooFewSynced have missed) is) have missed (settled begun past (TooFewSynced have missed) is)

pub returns-clause-too_few_commits : goal.returns-clause-too_few_commits
returns-clause-too_few_commits c = λ begun past have missed valid run is.
    too_few_made begun past valid run (ended begun past (TooFewCommits have missed) is) have missed (settled begun past (TooFewCommits have missed) is)
