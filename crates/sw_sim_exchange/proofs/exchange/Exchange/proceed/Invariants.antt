-- What an operation has handed out since it went on is among the letters.
use Rattle.std.proofs.Common.{List}
use Rattle.sw_message.specs.Transcript.{Step}
use Rattle.sw_operation.specs.Operating.{Begun}
use Rattle.sw_sim_exchange.specs.Kept.{IsAt}
use Rattle.sw_sim_exchange.specs.Work.{left_in}
use Rattle.sw_sim_exchange.proofs.HandingOut.{HasHandedOut}
use Rattle.sw_sim_exchange.proofs.exchange.Exchange.proceed.Given as goal

abbrev pub invariant-messages : goal.invariant-messages
invariant-messages l = (begun : Begun) (past : List Step) → IsAt l.initial.operating begun past
    → HasHandedOut l.number begun past l.initial.operating l.operating l.initial.letters.items l.letters.items

abbrev pub decreases-messages : goal.decreases-messages
decreases-messages l = left_in l.operating.op
