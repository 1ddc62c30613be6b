use Rattle.std.proofs.Common.{true≢false, sym, ◌∙◌}
use Rattle.sw_objsrv.proofs.Floors.{below_covers, none_covers}
use Rattle.sw_objsrv.proofs.looking.covering.Goals as goal

pub returns-in_err-floor : goal.returns-in_err-floor
returns-in_err-floor c = rw c.from_residual.ensures (none_covers c.args.dir.now c.args.stamp c.in_err-floor.ensures)

pub returns-else-stands_above : goal.returns-else-stands_above
returns-else-stands_above c = below_covers c.args.dir.now c.args.stamp c.in_ok-floor.floor c.in_ok-floor.ensures (λ above. true≢false (sym (c.stands_above.ensures.1 above) ∙ c.if-stands_above.false))
