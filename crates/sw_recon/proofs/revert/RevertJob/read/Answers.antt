-- An answer that was taken is read.
use Rattle.std.proofs.Common.{◌≡◌, List, ap, subst, ◌∙◌}
use Rattle.std.specs.Prelude.{OnErr}
use Rattle.sw_message.specs.Transcript.{Step}
use Rattle.sw_recon.specs.Inside.{revert_seen}
use Rattle.sw_recon.specs.Revert.{Begun}
use Rattle.sw_recon.specs.Standing.{RevertModel, Stands, has_ended}
use Rattle.sw_recon.specs.declared.status.Status.TheVariants.{Starts}
use Rattle.sw_recon.proofs.Changes.{by_fields, nothing_read, stands_after_read}
use Rattle.sw_recon.proofs.revert.RevertJob.read.Goals as goal

stood : (c : goal.After-read_answer) (begun : Begun) (past : List Step) → Stands (revert_seen c.self.inside) begun past
    → Stands (record (revert_seen c.self.inside) { status = c.read_answer.new.status; unread = c.read_answer.new.unread }) begun past
stood c begun past stands =
    stands_after_read (revert_seen c.self.inside) begun past stands c.read_answer.result c.read_answer.new.status c.read_answer.new.unread
    c.read_answer.ensures.read c.read_answer.ensures.leads c.read_answer.ensures.refused

pub invariant_of-self : goal.invariant_of-self
invariant_of-self c = let known = c.self.invariant in (known.0, known.1, stood c known.0 known.1 known.2)

pub returns-clause-stands : goal.returns-clause-stands
returns-clause-stands c = λ begun past stands. stood c begun past (by_fields c.self.inside c.args.self.now begun past c.self.view_is stands)

pub returns-clause-ended : goal.returns-clause-ended
returns-clause-ended c = λ over.
    let known = c.self.invariant in
    nothing_read (revert_seen c.self.inside) known.0 known.1 known.2 c.read_answer.result c.read_answer.new.status c.read_answer.new.unread
    c.read_answer.ensures.read c.read_answer.ensures.leads c.read_answer.ensures.refused (ap has_ended c.self.view_is ∙ over) ∙ c.self.view_is

pub returns-clause-memory : goal.returns-clause-memory
returns-clause-memory c = subst (λ (job : RevertModel). OnErr c.read_answer.result (job.status ≡ Starts)) c.self.view_is c.read_answer.ensures.memory
