use Rattle.sw_delete.specs.declared.end.DeleteEnd.TheVariants.{Deleted, Superseded, TooFewMarks}
use Rattle.sw_delete.proofs.Ends.{deleted, settled, superseded, too_few}
use Rattle.sw_delete.proofs.Transcripts.{ended}
use Rattle.sw_delete.proofs.laws.end_law.Goals as goal

pub returns-clause-deleted : goal.returns-clause-deleted
returns-clause-deleted c = λ begun past stamp marks existed valid run is.
    deleted begun past valid run (ended begun past (Deleted stamp marks existed) is) stamp marks existed (settled begun past (Deleted stamp marks existed) is)

pub returns-clause-superseded : goal.returns-clause-superseded
returns-clause-superseded c = λ begun past floor valid run is.
    superseded begun past valid run (ended begun past (Superseded floor) is) floor (settled begun past (Superseded floor) is)

pub returns-clause-too_few_marks : goal.returns-clause-too_few_marks
returns-clause-too_few_marks c = λ begun past have misses valid run is.
    too_few begun past valid run (ended begun past (TooFewMarks have misses) is) have misses (settled begun past (TooFewMarks have misses) is)
