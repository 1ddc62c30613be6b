use Rattle.std.proofs.lemmas.List.{take_rest}
use Rattle.sw_httpread.proofs.Places.{last_whole, last_bad}
use Rattle.sw_httpread.proofs.step.last_step.Goals as goal

pub returns-then-branch : goal.returns-then-branch
returns-then-branch c =
    let found = rw take_rest at c.in-Whole.ensures in
    last_whole _ _ _ c.requires found.0 found.1 (rw take_rest at (c.in_ok-is_trailer-in-Whole.ensures.0 c.if-branch.true))

pub returns-else-branch : goal.returns-else-branch
returns-else-branch c =
    let found = rw take_rest at c.in-Whole.ensures in
    last_bad _ _ found.0 found.1 (λ trailer. cc (c.in_ok-is_trailer-in-Whole.ensures.1 (rw take_rest trailer), c.if-branch.false))
