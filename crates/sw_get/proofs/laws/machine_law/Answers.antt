use Rattle.sw_get.proofs.Machine.{one_end, one_next}
use Rattle.sw_get.proofs.laws.machine_law.Goals as goal

pub returns-clause-one_next : goal.returns-clause-one_next
returns-clause-one_next c = one_next

pub returns-clause-one_end : goal.returns-clause-one_end
returns-clause-one_end c = λ begun past one other valid x y. one_end begun valid past one other x y
