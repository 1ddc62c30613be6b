use Rattle.std.proofs.Common.{rules, [], ◌∷◌, ◌++◌, List, Some, subst}
use Rattle.sw_suffix.specs.Table.{Hashed}
use Rattle.sw_daemon.specs.Coursing.{IsStatus}
use Rattle.sw_daemon.specs.Pass.{AsksOn, Status}
use Rattle.sw_daemon.proofs.course.Course.hear_other.Goals as goal
use Rattle.sw_daemon.proofs.course.Course.hear_other.Goals.{in_default-via-in-Some+in_default, in_default-via-in_default}

pub returns-in_ok-hear_hashes-in-Some-SuffixList-clause-follows : goal.returns-in_ok-hear_hashes-in-Some-SuffixList-clause-follows
returns-in_ok-hear_hashes-in-Some-SuffixList-clause-follows c = λ course part own heard device others is same.
    let follows = subst (λ (hashes : List Hashed). (status : Status) × AsksOn part own (heard ++ Some hashes ∷ []) others course.places course.parts course.report status × IsStatus c.hear_hashes.new.self status) c.as_slice.ensures
    (c.in_ok-hear_hashes-in-Some-SuffixList.ensures.follows course part own heard device others is same) in
    search rules

pub returns-in_default-clause-follows : goal.returns-in_default-clause-follows
returns-in_default-clause-follows c = λ course part own heard device others is same.
    let follows = c.miss_hashes.ensures.follows course part own heard device others is same in
    elim c.in_default.branch [
      | in_default-via-in-Some+in_default w ↦ search rules
      | in_default-via-in_default w ↦ search rules
    ]
