use Rattle.std.proofs.Common.{sym, subst}
use Rattle.sw_daemon.specs.Coursing.{IsSound}
use Rattle.sw_daemon.proofs.course.Course.count_sync.Goals as goal
use Rattle.sw_daemon.proofs.course.Course.count_sync.Goals.{in-Done, in_default}

pub returns-clause-sound : goal.returns-clause-sound
returns-clause-sound c = λ cluster sound.
    c.next_place.ensures.sound cluster
    (elim c.match-end.branch [
      | in-Done w ↦ let old = subst (IsSound cluster) (sym w.self.view_is) sound in rw w.self-is (record { task = old.task; places = old.places; parts = old.parts })
      | in_default w ↦ rw (w.self-is, w.count_miss.ensures) (record { task = sound.task; places = sound.places; parts = sound.parts })
    ])
