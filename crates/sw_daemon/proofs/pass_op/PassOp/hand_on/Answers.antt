-- The stage goes on, and its message is one of the pass.
use Rattle.std.proofs.Common.{◌≡◌, ◌+◌, false, [], ◌∷◌, List, Some, sym, ap, subst, ◌∙◌, arith}
use Rattle.sw_message.specs.Running.{IsOf}
use Rattle.sw_message.specs.Transcript.{Gave, Hand, Step}
use Rattle.sw_message.specs.declared.sent.Sent.{Sent}
use Rattle.sw_sync.proofs.Results.{where_refused}
use Rattle.sw_daemon.specs.Inside.{pass_seen}
use Rattle.sw_daemon.specs.Pass.{Begun, stage_of}
use Rattle.sw_daemon.specs.Stage as stages
use Rattle.sw_daemon.specs.Staging as staging
use Rattle.sw_daemon.specs.Standing.{IsFresh, PassModel, Stands, has_ended}
use Rattle.sw_daemon.proofs.Fresh.{fresh-hands}
use Rattle.sw_daemon.proofs.Passes.{Works, by_fields, hands_on, of_cluster, stands_handed, stands_on, waits, warrants, works}
use Rattle.sw_daemon.proofs.Stages.{begun-so}
use Rattle.sw_daemon.proofs.Outcomes.{value_so}
use Rattle.sw_daemon.proofs.pass_op.PassOp.hand_on.Goals as goal
use Rattle.sw_daemon.proofs.pass_op.PassOp.hand_on.Goals.{After-next}

-- its stage was begun
working : (c : After-next) (begun : Begun) (past : List Step) → Stands (pass_seen c.self-2.inside) begun past → Works (pass_seen c.self-2.inside) begun past c.in-Some.stage
working c begun past stands =
    works (pass_seen c.self-2.inside) begun past stands (ap has_ended (c.self-2.view_is ∙ c.in_ok-begin_stage.ensures.same) ∙ c.requires) c.in-Some.stage c.in-Some.is

middle : (c : After-next) (begun : Begun) (past : List Step) → Stands c.args.self.now begun past → Stands (pass_seen c.self-2.inside) begun past
middle c begun past stands = by_fields c.self-2.inside c.begin_stage.new.self begun past c.self-2.view_is (c.in_ok-begin_stage.ensures.stands begun past stands)

-- ---- memory is wanted

refused : (c : goal.After-from_residual-in_err-sent) (begun : Begun) (past : List Step) → Stands (pass_seen c.self-2.inside) begun past → Stands (record (pass_seen c.self-2.inside) { stage = Some c.next.new.self }) begun past
refused c begun past stands =
    let is = working (goal.at.invariant_of-self c).After-next begun past stands in
    stands_on (pass_seen c.self-2.inside) begun past c.in-Some.stage is c.next.new.self (c.in_err-sent.ensures.refused (stage_of begun is.turned.course.task) is.turned.own is.on)

pub invariant_of-self : goal.invariant_of-self
invariant_of-self c = let known = c.self-2.invariant in (known.0, known.1, refused c known.0 known.1 known.2)

pub returns-in_err-sent-clause-refused : goal.returns-in_err-sent-clause-refused
returns-in_err-sent-clause-refused c =
    where_refused c.from_residual-in_err-sent.result (λ begun past stands. refused c begun past (middle (goal.at.invariant_of-self c).After-next begun past stands))

-- ---- there is no message

none : (c : goal.In_default-2) (begun : Begun) (past : List Step) → Stands (pass_seen c.self-2.inside) begun past → Stands (record (pass_seen c.self-2.inside) { stage = Some c.next.new.self }) begun past
none c begun past stands =
    let is = working (goal.at.invariant_of-self-in_default-2 c).After-next begun past stands in
    stands_on (pass_seen c.self-2.inside) begun past c.in-Some.stage is c.next.new.self
    (rw c.in_default-2.is at (c.in_ok-sent.ensures.goes_on (stage_of begun is.turned.course.task) is.turned.own is.on))

pub invariant_of-self-in_default-2 : goal.invariant_of-self-in_default-2
invariant_of-self-in_default-2 c = let known = c.self-2.invariant in (known.0, known.1, none c known.0 known.1 known.2)

pub returns-in_default-2-clause-goes_on : goal.returns-in_default-2-clause-goes_on
returns-in_default-2-clause-goes_on c = λ begun past stands. none c begun past (middle (goal.at.invariant_of-self-in_default-2 c).After-next begun past stands)

pub returns-in_default-2-clause-hands : goal.returns-in_default-2-clause-hands
returns-in_default-2-clause-hands c = λ begun past stands.
    let on = (goal.at.invariant_of-self-in_default-2 c).After-next in
    let is = working on begun past (middle on begun past stands) in
    waits (pass_seen c.self-2.inside) begun past c.in-Some.stage is (staging.has_ended c.next.new.self)
    (rw c.in_default-2.is at (c.in_ok-sent.ensures.hands (stage_of begun is.turned.course.task) is.turned.own is.on))

pub returns-in_default-2-clause-first : goal.returns-in_default-2-clause-first
returns-in_default-2-clause-first c = λ unbegun.
    let fresh : IsFresh (Some c.in-Some.stage) = subst IsFresh (ap (λ (pass : PassModel). pass.stage) (sym c.self-2.view_is) ∙ c.in-Some.is) (c.in_ok-begin_stage.ensures.fresh unbegun) in
    absurd (fresh-hands fresh.0 (begun-so c.in-Some.stage fresh.0 [] fresh.1) (staging.has_ended c.next.new.self)
    (rw c.in_default-2.is at (c.in_ok-sent.ensures.hands fresh.0 [] fresh.1)))

-- ---- a message is handed on

abbrev sent : goal.After-self-2-1 → Sent
sent c = record { ticket = c.self-2.inside.count; device = c.in-Some-2.sent.device; msg = c.in-Some-2.sent.msg }

module _ (c : goal.After-self-2-1) (begun : Begun) (past : List Step) (stands : Stands (pass_seen c.self-2.inside) begun past) where
  abbrev is : Works (pass_seen c.self-2.inside) begun past c.in-Some.stage
  is = working (goal.at.invariant_of-self-2 c).After-next begun past stands

  hands : stages.IsNext (stage_of begun is.turned.course.task) is.turned.own (Hand c.in-Some-2.sent)
      × IsOf (stages.cluster_of (stage_of begun is.turned.course.task)) c.in-Some-2.sent.device c.in-Some-2.sent.msg × (staging.has_ended c.next.new.self ≡ false)
  hands = rw c.in-Some-2.is at (c.in_ok-sent.ensures.hands (stage_of begun is.turned.course.task) is.turned.own is.on)

  count_is : c.in_ok-count.count ≡ c.self-2.inside.count + 1
  count_is =
      let before = ap (λ (pass : PassModel). pass.count) (c.self-2.view_is ∙ c.in_ok-begin_stage.ensures.same) in
      let old = ap (λ (pass : PassModel). pass.count) c.self.view_is in
      let more = value_so c.checked_add.result c.in_ok-count.count (c.self.inside.count + 1) _ c.in_ok-count.ensures.ok_part c.checked_add.ensures in
      omega (arith, before, old, more)

  handed : Stands (record (pass_seen c.self-2.inside) { stage = Some c.next.new.self; count = c.in_ok-count.count }) begun (Gave (sent c) ∷ past)
  handed =
      stands_handed (pass_seen c.self-2.inside) begun past c.in-Some.stage is c.in-Some-2.sent hands.0 c.next.new.self c.in_ok-count.count count_is
      (rw c.in-Some-2.is at (c.in_ok-sent.ensures.goes_on (stage_of begun is.turned.course.task) is.turned.own is.on))

pub invariant_of-self-2 : goal.invariant_of-self-2
invariant_of-self-2 c = let known = c.self-2.invariant in (known.0, Gave (sent c) ∷ known.1, handed c known.0 known.1 known.2)

pub returns-clause-goes_on : goal.returns-clause-goes_on
returns-clause-goes_on c = λ begun past stands. handed c begun past (middle (goal.at.invariant_of-self-2 c).After-next begun past stands)

pub returns-clause-hands : goal.returns-clause-hands
returns-clause-hands c = λ begun past stands.
    let on = middle (goal.at.invariant_of-self-2 c).After-next begun past stands in
    let may = hands c begun past on in
    (hands_on (pass_seen c.self-2.inside) begun past c.in-Some.stage (is c begun past on) c.in-Some-2.sent may.0, of_cluster (pass_seen c.self-2.inside) begun past c.in-Some.stage (is c begun past on) c.in-Some-2.sent may.1)

pub returns-clause-warranted : goal.returns-clause-warranted
returns-clause-warranted c = λ begun past learnt stands known.
    let is = is c begun past (middle (goal.at.invariant_of-self-2 c).After-next begun past stands) in
    warrants (pass_seen c.self-2.inside) begun past c.in-Some.stage is c.in-Some-2.sent learnt known
    (λ own. rw c.in-Some-2.is at (c.in_ok-sent.ensures.warranted (stage_of begun is.turned.course.task) is.turned.own learnt is.on tt own))
