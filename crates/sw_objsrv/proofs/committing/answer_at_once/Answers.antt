use Rattle.std.proofs.Common.{refl}
use Rattle.sw_message.specs.Table.{CommitMissing, CommitSuperseded}
use Rattle.sw_objsrv.proofs.committing.answer_at_once.Goals as goal
use Rattle.sw_objsrv.proofs.committing.answer_at_once.Goals.{in-None-covering, in-Some-covering}

pub returns-after-covering : goal.returns-after-covering
returns-after-covering c = λ primary place. elim c.match-covering.branch [
  | in-Some-covering w ↦ rw w.result-is (tt, λ bytes room. CommitSuperseded c.in-None.ensures w.in-Some-covering.floor w.in-Some-covering.ensures refl)
  | in-None-covering w ↦ rw w.result-is (tt, λ bytes room. CommitMissing c.in-None.ensures w.in-None-covering.ensures refl)
]
