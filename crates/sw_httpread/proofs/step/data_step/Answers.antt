use Rattle.std.proofs.lemmas.List.{take_rest}
use Rattle.sw_httpread.proofs.Places.{data_whole, data_bad}
use Rattle.sw_httpread.proofs.step.data_step.Goals as goal
use Rattle.sw_httpread.proofs.step.data_step.Goals.{else-rest-size-eq13-via-then-rest-size-eq13+else-rest-size-eq10, else-rest-size-eq13-via-else-rest-size-eq13}

pub returns-then-rest-size-eq10 : goal.returns-then-rest-size-eq10
returns-then-rest-size-eq10 c =
    data_whole _ _ _ c.requires.within (rw take_rest at c.if-rest-size.false) (rw take_rest at c.if-rest-size-eq13.true) (rw take_rest at c.if-rest-size-eq10.true)

pub returns-else-rest-size-eq13 : goal.returns-else-rest-size-eq13
returns-else-rest-size-eq13 c =
    let le = rw take_rest at c.if-rest-size.false in
    data_bad _ _ le (elim c.else-rest-size-eq13.branch [
      | else-rest-size-eq13-via-then-rest-size-eq13+else-rest-size-eq10 w ↦ λ ends. (rw take_rest at w.if-rest-size-eq10.false) ends.1
      | else-rest-size-eq13-via-else-rest-size-eq13 w ↦ λ ends. (rw take_rest at w.if-rest-size-eq13.false) ends.0
    ])
