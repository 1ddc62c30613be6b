-- An answer is one to a message of the stage, or is ignored.
use Rattle.std.proofs.Common.{◌≡◌, ◌+◌, List, Some, sym, ap, subst, arith}
use Rattle.sw_message.specs.Transcript.{Step, after_answer}
use Rattle.sw_daemon.specs.Inside.{pass_seen}
use Rattle.sw_daemon.specs.Pass.{Begun}
use Rattle.sw_daemon.specs.Standing.{PassModel, Stands}
use Rattle.sw_daemon.specs.declared.pass_op.PassOp.TheInside.{Inside}
use Rattle.sw_daemon.proofs.Passes.{by_fields, stands_before, stands_told, stands_unstaged}
use Rattle.sw_daemon.proofs.pass_op.PassOp.answer.Goals as goal
use Rattle.sw_daemon.proofs.pass_op.PassOp.answer.Goals.{in-Some-answer, in-None}

pub returns-in_default-clause-stands : goal.returns-in_default-clause-stands
returns-in_default-clause-stands c = λ begun past stands.
    stands_before c.args.self.now begun past stands c.args.answer c.args.ticket (omega (arith, ap (λ (pass : PassModel). pass.before) c.self.view_is, c.in_default.ensures))

pub returns-in_default-stage-clause-stands : goal.returns-in_default-stage-clause-stands
returns-in_default-stage-clause-stands c = λ begun past stands.
    stands_unstaged (pass_seen c.self.inside) begun past (by_fields c.self.inside c.args.self.now begun past c.self.view_is stands) c.args.answer c.args.ticket c.in_default-stage.is

stood : (c : goal.Joined-answer-5) (begun : Begun) (past : List Step) → Stands (pass_seen c.self.inside) begun past → Stands (pass_seen c.match-answer-5.self-inside) begun (after_answer past c.args.ticket c.args.answer)
stood c begun past stands =
    let ticket : c.args.ticket ≡ c.self.inside.before + c.in-Some.own = omega (arith, c.in-Some.ensures.0, c.in-Some.ensures.1) in
    elim c.match-answer-5.branch [
      | in-Some-answer w ↦
          subst (λ (inside : Inside). Stands (pass_seen inside) begun (after_answer past c.args.ticket c.args.answer)) (sym w.self-inside-is)
          (subst (λ answer. Stands (record (pass_seen c.self.inside) { stage = Some w.take.new.self }) begun (after_answer past c.args.ticket answer)) (sym w.in-Some-answer.is)
          (stands_told (pass_seen c.self.inside) begun past stands _ c.args.ticket c.in-Some.own ticket c.in-Some-stage.stage w.take.new.self c.in-Some-stage.is w.take.ensures.goes_on))
      | in-None w ↦
          subst (λ (inside : Inside). Stands (pass_seen inside) begun (after_answer past c.args.ticket c.args.answer)) (sym w.self-inside-is)
          (subst (λ answer. Stands (record (pass_seen c.self.inside) { stage = Some w.give_up.new.self }) begun (after_answer past c.args.ticket answer)) (sym w.in-None.is)
          (stands_told (pass_seen c.self.inside) begun past stands _ c.args.ticket c.in-Some.own ticket c.in-Some-stage.stage w.give_up.new.self c.in-Some-stage.is w.give_up.ensures.goes_on))
    ]

pub invariant_of-self-2 : goal.invariant_of-self-2
invariant_of-self-2 c = let known = c.self.invariant in (known.0, after_answer known.1 c.args.ticket c.args.answer, stood c known.0 known.1 known.2)

pub returns-clause-stands : goal.returns-clause-stands
returns-clause-stands c = λ begun past stands. stood c begun past (by_fields c.self.inside c.args.self.now begun past c.self.view_is stands)
