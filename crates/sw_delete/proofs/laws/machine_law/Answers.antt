use Rattle.std.proofs.Common.{sym, ◌∙◌}
use Rattle.std.proofs.lemmas.Option.{same_Some}
use Rattle.sw_delete.proofs.laws.machine_law.Goals as goal

pub returns-clause-one_next : goal.returns-clause-one_next
returns-clause-one_next c = λ begun past one other x y. sym x ∙ y

pub returns-clause-one_end : goal.returns-clause-one_end
returns-clause-one_end c = λ begun past one other x y. same_Some one other (sym x ∙ y)
