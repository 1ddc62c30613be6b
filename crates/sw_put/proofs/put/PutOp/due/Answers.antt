-- Behind the fragments stand the commits.
use Rattle.std.proofs.Common.{sym, ◌∙◌}
use Rattle.sw_put.specs.Put.{commits_due, stores_due}
use Rattle.sw_put.proofs.Dues.{store-at}
use Rattle.sw_put.proofs.put.PutOp.due.Goals as goal

pub returns-in-Some : goal.returns-in-Some
returns-in-Some c = λ begun past stands. sym (store-at (stores_due begun past) (commits_due begun past) c.args.number c.in-Some.target (sym (c.store_due.ensures begun past stands) ∙ c.in-Some.is))
