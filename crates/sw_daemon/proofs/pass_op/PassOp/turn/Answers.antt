-- What follows the end of the stage.
use Rattle.std.proofs.Common.{◌≡◌, false, List, None, refl, sym, ap, subst, ◌∙◌}
use Rattle.sw_message.specs.Transcript.{Step}
use Rattle.sw_daemon.specs.Ending.{end_seen}
use Rattle.sw_daemon.specs.Inside.{pass_seen}
use Rattle.sw_daemon.specs.Pass.{Begun, next_place, reported, stage_of}
use Rattle.sw_daemon.specs.Stage as stages
use Rattle.sw_daemon.specs.Stage.{Answered, End, Reverted, Synced}
use Rattle.sw_daemon.specs.Standing.{PassModel, Stands, has_ended}
use Rattle.sw_daemon.specs.declared.pass_op.PassOp.TheInside.{Inside}
use Rattle.sw_daemon.proofs.Outcomes.{at_some}
use Rattle.sw_daemon.proofs.Passes.{Works, by_fields, sound_so, stands_turned, works}
use Rattle.sw_daemon.proofs.pass_op.PassOp.turn.Goals as goal
use Rattle.sw_daemon.proofs.pass_op.PassOp.turn.Goals.{in-Answered+in_ok-hear-in-Answered, in-Synced, in-Reverted}

module _ (c : goal.After-self-3-1) (begun : Begun) (past : List Step) (stands : Stands (pass_seen c.self.inside) begun past) where
  goes : has_ended (pass_seen c.self.inside) ≡ false
  goes = ap has_ended c.self.view_is ∙ c.requires.going

  is : Works (pass_seen c.self.inside) begun past c.in-Some.stage
  is = works (pass_seen c.self.inside) begun past stands goes c.in-Some.stage c.in-Some.is

  ends : (end : End) → end_seen c.unwrap.result ≡ end → stages.IsEnd (stage_of begun is.turned.course.task) is.turned.own end
  ends end same =
      subst (stages.IsEnd (stage_of begun is.turned.course.task) is.turned.own) same
      (at_some c.end.result c.unwrap.result (λ end. stages.IsEnd (stage_of begun is.turned.course.task) is.turned.own (end_seen end)) c.unwrap.ensures
      (c.end.ensures.end (stage_of begun is.turned.course.task) is.turned.own is.on))

  abbrev turned : Inside → PassModel
  turned inside = record (pass_seen inside) { stage = None; before = inside.count }

  stood : Stands (turned c.match-unwrap.self-inside) begun past
  stood = elim c.match-unwrap.branch [
    | in-Answered+in_ok-hear-in-Answered w ↦
        subst (λ (inside : Inside). Stands (turned inside) begun past) (sym w.self-inside-is)
        (stands_turned (pass_seen c.self.inside) begun past c.in-Some.stage is (Answered w.in-Answered.answer.now) (ends _ (ap end_seen w.in-Answered.is)) w.hear.new.self
        w.in_ok-hear-in-Answered.ensures.follows w.in_ok-hear-in-Answered.ensures.sound)
    | in-Synced w ↦
        subst (λ (inside : Inside). Stands (turned inside) begun past) (sym w.self-inside-is)
        (stands_turned (pass_seen c.self.inside) begun past c.in-Some.stage is (Synced w.in-Synced.end.now) (ends _ (ap end_seen w.in-Synced.is)) w.count_sync.new.self
        (λ course seen. (next_place course.places course.parts (reported course.report (Synced w.in-Synced.end.now)), refl, w.count_sync.ensures.follows course seen))
        (w.count_sync.ensures.sound c.self.inside.cluster.now (sound_so (pass_seen c.self.inside) begun past stands goes)))
    | in-Reverted w ↦
        subst (λ (inside : Inside). Stands (turned inside) begun past) (sym w.self-inside-is)
        (stands_turned (pass_seen c.self.inside) begun past c.in-Some.stage is (Reverted w.in-Reverted.end.now) (ends _ (ap end_seen w.in-Reverted.is)) w.count_revert.new.self
        (λ course seen. (next_place course.places course.parts (reported course.report (Reverted w.in-Reverted.end.now)), refl, w.count_revert.ensures.follows course seen))
        (w.count_revert.ensures.sound c.self.inside.cluster.now (sound_so (pass_seen c.self.inside) begun past stands goes)))
  ]

pub invariant_of-self-2 : goal.invariant_of-self-2
invariant_of-self-2 c = let known = c.self.invariant in (known.0, known.1, stood c known.0 known.1 known.2)

pub returns-clause-stands : goal.returns-clause-stands
returns-clause-stands c = λ begun past stands. stood c begun past (by_fields c.self.inside c.args.self.now begun past c.self.view_is stands)
