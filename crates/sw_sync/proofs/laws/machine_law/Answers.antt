use Rattle.sw_sync.proofs.Sameness.{one_end, one_next}
use Rattle.sw_sync.proofs.laws.machine_law.Goals as goal

pub returns-clause-one_next : goal.returns-clause-one_next
returns-clause-one_next c = λ begun past one other rules x y. one_next begun rules past one other x y

pub returns-clause-one_end : goal.returns-clause-one_end
returns-clause-one_end c = one_end
