use Rattle.sw_daemon.proofs.course.Course.hear_own.Goals as goal

pub returns-in_default-clause-sound : goal.returns-in_default-clause-sound
returns-in_default-clause-sound c = c.pass_over.ensures.sound c.args.cluster.now c.requires.sound
