-- An answer to the open message is taken, and another is ignored.
use Rattle.std.proofs.Common.{◌≡◌, ◌&&◌, not, List, sym, ap, ◌∙◌}
use Rattle.sw_message.specs.Transcript.{Step, after_answer}
use Rattle.sw_recon.specs.Inside.{revert_seen}
use Rattle.sw_recon.specs.Revert.{Begun}
use Rattle.sw_recon.specs.Standing.{Stands}
use Rattle.sw_recon.proofs.Changes.{by_fields, stands_told}
use Rattle.sw_recon.proofs.revert.RevertJob.answer.Goals as goal
use Rattle.sw_recon.proofs.revert.RevertJob.answer.Goals.{then-self, else-self}

waits : (c : goal.After-take_in) → c.if-self.self ≡ (c.self.inside.is_waiting && not c.close-is_open.result)
waits c = elim c.if-self.branch [
  | then-self w ↦ w.self-is ∙ sym (ap (λ b. b && not c.close-is_open.result) w.if-self.true)
  | else-self w ↦ w.self-is ∙ w.if-self.false ∙ sym (ap (λ b. b && not c.close-is_open.result) w.if-self.false)
]

stood : (c : goal.After-take_in) (begun : Begun) (past : List Step) → Stands (revert_seen c.self.inside) begun past
    → Stands (record (revert_seen c.self.inside) { tickets = c.close-is_open.new.self; is_waiting = c.if-self.self; unread = c.take_in.new.unread }) begun (after_answer past c.args.ticket c.args.answer)
stood c begun past stands =
    stands_told (revert_seen c.self.inside) begun past stands c.close-is_open.new.self c.if-self.self c.take_in.new.unread c.args.ticket c.args.answer c.close-is_open.result
    (c.close-is_open.ensures.was_open past stands.tickets_are) (c.close-is_open.ensures.goes_on past c.args.answer stands.tickets_are) (waits c) c.take_in.ensures

pub invariant_of-self : goal.invariant_of-self
invariant_of-self c = let known = c.self.invariant in (known.0, after_answer known.1 c.args.ticket c.args.answer, stood c known.0 known.1 known.2)

pub returns-clause-stands : goal.returns-clause-stands
returns-clause-stands c = λ begun past stands. stood c begun past (by_fields c.self.inside c.args.self.now begun past c.self.view_is stands)
