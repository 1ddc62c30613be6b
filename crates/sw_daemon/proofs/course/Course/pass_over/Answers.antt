use Rattle.sw_daemon.proofs.course.Course.pass_over.Goals as goal

pub returns-clause-sound : goal.returns-clause-sound
returns-clause-sound c = λ cluster sound. c.next_part.ensures.sound cluster (rw c.count_miss.ensures (record { task = sound.task; places = sound.places; parts = sound.parts }))
