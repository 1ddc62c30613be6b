-- An answer is taken.
use Rattle.std.proofs.Common.{List, sym, subst}
use Rattle.sw_message.specs.Transcript.{Step, after_answer}
use Rattle.sw_get.specs.Get.{Begun}
use Rattle.sw_get.specs.GetInside.{get_seen}
use Rattle.sw_get.specs.Standing.{GetModel, Stands}
use Rattle.sw_get.proofs.Changes.{stands_told}
use Rattle.sw_get.proofs.get.GetOp.answer.Goals as goal

stood : (c : goal.After-take) (begun : Begun) (past : List Step) → Stands (get_seen c.self.inside) begun past
    → Stands (record (get_seen c.self.inside) { mailbox = c.take.new.self }) begun (after_answer past c.args.ticket c.args.answer)
stood c begun past stands =
    stands_told (get_seen c.self.inside) begun past stands c.take.new.self c.take.ensures.errands c.args.ticket c.args.answer
    (c.take.ensures.taken past stands.goes_with) (c.take.ensures.goes_with past stands.goes_with)

pub invariant_of-self : goal.invariant_of-self
invariant_of-self c = let known = c.self.invariant in (known.0, after_answer known.1 c.args.ticket c.args.answer, stood c known.0 known.1 known.2)

pub returns-clause-stands : goal.returns-clause-stands
returns-clause-stands c = λ begun past stands. stood c begun past (subst (λ (get : GetModel). Stands get begun past) (sym c.self.view_is) stands)
