use Rattle.std.proofs.Common.{sym, subst}
use Rattle.sw_daemon.specs.Coursing.{Course, IsCourse}
use Rattle.sw_daemon.proofs.Comparisons.{task_of}
use Rattle.sw_daemon.proofs.course.Course.hear.Goals as goal

pub returns-in-ListOther-clause-follows : goal.returns-in-ListOther-clause-follows
returns-in-ListOther-clause-follows c = λ course is.
    let seen = subst (λ (one : Course). IsCourse one course) (sym c.self.view_is) is in
    let of = task_of c.self.inside.task course.task c.in-ListOther.field-0 c.in-ListOther.is seen.task in
    rw of.same (c.hear_other.ensures.follows course of.part of.own of.heard of.device of.others is of.same)
