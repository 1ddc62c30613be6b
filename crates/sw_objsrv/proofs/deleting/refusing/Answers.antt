use Rattle.std.proofs.Common.{true≢false, sym, ◌∙◌}
use Rattle.sw_objsrv.proofs.Floors.{floor_allows, none_refuses}
use Rattle.sw_objsrv.proofs.deleting.refusing.Goals as goal

pub returns-in_err-floor : goal.returns-in_err-floor
returns-in_err-floor c = rw c.from_residual.ensures (none_refuses c.args.dir.now c.args.stamp c.in_err-floor.ensures)

pub returns-else-refuses : goal.returns-else-refuses
returns-else-refuses c = floor_allows c.args.dir.now c.args.stamp c.in_ok-floor.floor c.in_ok-floor.ensures (λ refuses. true≢false (sym (c.refuses.ensures.1 refuses) ∙ c.if-refuses.false))
