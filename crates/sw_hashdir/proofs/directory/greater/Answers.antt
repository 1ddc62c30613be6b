use Rattle.std.proofs.Common.{refl, subst}
use Rattle.sw_hashdir.specs.Directory.{IsFloor}
use Rattle.sw_hashdir.proofs.Directories.{first_above, first_alone, second_above, second_alone}
use Rattle.sw_hashdir.proofs.directory.greater.Goals as goal
use Rattle.sw_hashdir.proofs.directory.greater.Goals.{then-is_above, else-is_above}

pub returns-after-is_above : goal.returns-after-is_above
returns-after-is_above c = λ names others f g.
    let first = subst (IsFloor names) c.in-Some-Some.is-0 f in
    let second = subst (IsFloor others) c.in-Some-Some.is-1 g in
    elim c.if-is_above.branch [
      | then-is_above w ↦ rw w.result-is (second_above names others c.in-Some-Some.first c.in-Some-Some.second first second (w.if-is_above.ensures.0 refl))
      | else-is_above w ↦ rw w.result-is (first_above names others c.in-Some-Some.first c.in-Some-Some.second first second (λ above. let same = w.if-is_above.ensures.1 above in absurd (cc)))
    ]

pub returns-in-Some-None : goal.returns-in-Some-None
returns-in-Some-None c = λ names others f g. first_alone names others c.args.a f (subst (IsFloor others) c.in-Some-None.is-1 g)

pub returns-in-None-default : goal.returns-in-None-default
returns-in-None-default c = λ names others f g. second_alone names others c.args.b (subst (IsFloor names) c.in-None-default.is-0 f) g
