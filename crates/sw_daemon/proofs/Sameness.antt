-- After a transcript of a pass one thing comes next, and there is one end.
use Rattle.std.proofs.Common.{◌≡◌, inl, inr, ℕ, Bool, true, false, List, [], ◌∷◌, length, Option, Some, None, refl, sym, ap, subst, ◌∙◌}
use Rattle.std.specs.Prelude.{◌↔◌}
use Rattle.std.proofs.lemmas.List.Elements.{filter_agree}
use Rattle.sw_hashpath.specs.Place.{PlaceModel}
use Rattle.sw_suffix.specs.Table.{Hashed}
use Rattle.sw_ring.specs.Cluster.{KeepsRules}
use Rattle.sw_message.specs.Transcript.{Closed, Gave, Hand, Next, Over, Step, Wait, given}
use Rattle.sw_message.specs.declared.reply.Reply.{Reply}
use Rattle.sw_message.specs.declared.reply.Reply.TheVariants as reply
use Rattle.sw_message.specs.declared.sent.Sent.{Sent}
use Rattle.sw_recon.specs.Revert as reverts
use Rattle.sw_recon.specs.declared.status.Status.TheVariants as revert
use Rattle.sw_recon.proofs.Machine as reverted
use Rattle.sw_sync.specs.Sync as syncs
use Rattle.sw_sync.specs.Standing as sync_standing
use Rattle.sw_sync.specs.declared.stage.Stage as sync_stage
use Rattle.sw_sync.proofs.Ending.{over_by_rules}
use Rattle.sw_sync.proofs.Sameness as synced
use Rattle.sw_daemon.specs.Pass.{AfterOther, AfterOwn, AreDue, AsksOn, Begun, Course, Does, Ends, Follows, FollowsAnswer, Gives, IsBegun, IsEnd, IsNext, IsOver, IsState, ListOther, ListOwn, ListParts, ListPlaces, NextAt, State, Status, Takes, Task, Treat, Turns, began_at, next_place, renumbered, stage_of}
use Rattle.sw_daemon.specs.Question as questions
use Rattle.sw_daemon.specs.Stage as stages
use Rattle.sw_daemon.specs.Stage.{Answered, Asks, End, Reverted, Reverts, Synced, Syncs, cluster_of}
use Rattle.sw_daemon.specs.declared.report.PassReport.{PassReport}
use Rattle.sw_daemon.proofs.Known.{same-renumbered}
use Rattle.sw_daemon.proofs.Stages.{cluster-same}

-- ---- stages

question-next : (begun : questions.Begun) (past : List Step) (one other : Next) → questions.IsNext begun past one → questions.IsNext begun past other → one ≡ other
question-next begun [] one other x y = x ∙ sym y
question-next begun (Gave sent ∷ past) one other x y = x ∙ sym y
question-next begun (Closed sent answer ∷ past) one other x y = x ∙ sym y

one-told : (past : List Step) (one other : Option Reply) → questions.Tells past one → questions.Tells past other → one ≡ other
one-told [] one other x y = absurd x
one-told (Gave sent ∷ past) one other x y = absurd x
one-told (Closed sent given ∷ past) one other x y = x ∙ sym y

-- one thing comes next
stage-next : (begun : stages.Begun) → KeepsRules (cluster_of begun) → (past : List Step) (one other : Next) → stages.IsNext begun past one → stages.IsNext begun past other → one ≡ other
stage-next (Asks begun) rules past one other x y = question-next begun past one other x y
stage-next (Syncs begun) rules past one other x y = synced.one_next begun rules past one other x y
stage-next (Reverts begun) rules past one other x y = reverted.one_next begun past one other x y

-- it has one end
stage-end : (begun : stages.Begun) (past : List Step) (one other : End) → stages.IsEnd begun past one → stages.IsEnd begun past other → one ≡ other
stage-end (Asks begun) past (Answered one) (Answered other) x y = ap Answered (one-told past one other x.1 y.1)
stage-end (Syncs begun) past (Synced one) (Synced other) x y = ap Synced (synced.one_end begun past one other x y)
stage-end (Reverts begun) past (Reverted one) (Reverted other) x y = ap Reverted (reverted.one_end begun past one other x y)
stage-end (Asks begun) past (Answered one) other x y = absurd y
stage-end (Syncs begun) past (Synced one) other x y = absurd y
stage-end (Reverts begun) past (Reverted one) other x y = absurd y
stage-end begun past one other x y = absurd x

question-over : (begun : questions.Begun) (past : List Step) (answer : Option Reply) → questions.Tells past answer → questions.IsNext begun past Over
question-over begun [] answer tells = absurd tells
question-over begun (Gave sent ∷ past) answer tells = absurd tells
question-over begun (Closed sent given ∷ past) answer tells = refl

-- where it has ended, it is over
stage-over : (begun : stages.Begun) → KeepsRules (cluster_of begun) → (past : List Step) (end : End) → stages.IsEnd begun past end → stages.IsNext begun past Over
stage-over (Asks begun) rules past (Answered answer) ends = question-over begun past answer ends.1
stage-over (Syncs begun) rules past (Synced end) (closed, state, is, ended) =
    (state, is, ((over_by_rules begun rules past state is (ap (λ (stage : sync_stage.Stage). sync_standing.ends stage) ended)).1, ap syncs.next_of (sym closed)))
stage-over (Reverts begun) rules past (Reverted end) (closed, is) = subst (λ waits. reverts.next_or begun past waits Over) (sym closed) (revert.Ends end, is, refl)
stage-over begun rules past end ends = absurd ends

-- ---- what follows a stage

same-test : (a b : Bool) (P : Type 0) → (a ≡ true) ↔ P → (b ≡ true) ↔ P → a ≡ b
same-test true b P x y = sym (y.1 (x.0 refl))
same-test false true P x y = x.1 (y.0 refl)
same-test false false P x y = refl

one-due : (own : List Hashed) (heard : List (Option (List Hashed))) (places one other : List PlaceModel) → AreDue own heard places one → AreDue own heard places other → one ≡ other
one-due own heard places one other x y =
    x.due_are ∙ filter_agree x.test y.test (λ place. same-test (x.test place) (y.test place) _ (x.decides place) (y.decides place)) places ∙ sym y.due_are

module _ (part : ℕ) (own : List Hashed) (heard : List (Option (List Hashed))) (places : List PlaceModel) (parts : List ℕ) (report : PassReport) (a b : Status) where
  one-asking : (others : List ℕ) → AsksOn part own heard others places parts report a → AsksOn part own heard others places parts report b → a ≡ b
  one-asking (device ∷ others) x y = x ∙ sym y
  one-asking [] x y = x.2 ∙ ap (λ due. next_place due parts report) (one-due own heard places x.0 y.0 x.1 y.1) ∙ sym y.2

module _ (begun : Begun) (course : Course) (a b : Status) where
  after-own : (part : ℕ) (answer : Option Reply) → AfterOwn begun part course answer a → AfterOwn begun part course answer b → a ≡ b
  after-own part (Some (reply.SuffixList own)) x y = one-asking part own [] course.places course.parts course.report a b _ x y
  after-own part None x y = x ∙ sym y
  after-own part (Some other) x y = x ∙ sym y

  after-other : (part : ℕ) (own : List Hashed) (heard : List (Option (List Hashed))) (others : List ℕ) (answer : Option Reply) → AfterOther part own heard others course answer a → AfterOther part own heard others course answer b → a ≡ b
  after-other part own heard others (Some (reply.SuffixList hashes)) x y = one-asking part own _ course.places course.parts course.report a b others x y
  after-other part own heard others None x y = one-asking part own _ course.places course.parts _ a b others x y
  after-other part own heard others (Some other) x y = one-asking part own _ course.places course.parts _ a b others x y

  after-answer : (task : Task) (answer : Option Reply) → FollowsAnswer begun course task answer a → FollowsAnswer begun course task answer b → a ≡ b
  after-answer ListParts answer x y = x ∙ sym y
  after-answer (ListPlaces part) answer x y = x ∙ sym y
  after-answer (ListOwn part) answer x y = after-own part answer x y
  after-answer (ListOther part own heard device others) answer x y = after-other part own heard others answer x y
  after-answer (Treat place) answer x y = absurd x

  one-following : (end : End) → Follows begun course end a → Follows begun course end b → a ≡ b
  one-following (Answered answer) x y = after-answer course.task answer x y
  one-following (Synced end) x y = x ∙ sym y
  one-following (Reverted end) x y = x ∙ sym y

-- ---- the machine

module _ (begun : Begun) (valid : IsBegun begun) where
  rules-of : (task : Task) → KeepsRules (cluster_of (stage_of begun task))
  rules-of task = subst KeepsRules (sym (cluster-same begun task)) valid.rules

  module _ (state : State) where
    abbrev stage : stages.Begun
    stage = stage_of begun state.course.task

    one-after : (one other : Next) → stages.IsNext stage state.own one → stages.IsNext stage state.own other → one ≡ other
    one-after one other x y = stage-next stage (rules-of state.course.task) state.own one other x y

    -- a stage that has ended hands nothing out, and does not wait
    ended-so : (end : End) (next : Next) → stages.IsEnd stage state.own end → stages.IsNext stage state.own next → Over ≡ next
    ended-so end next ends is = one-after Over next (stage-over stage (rules-of state.course.task) state.own end ends) is

    -- one status follows
    one-status : (end other : End) (a b : Status) → stages.IsEnd stage state.own end → stages.IsEnd stage state.own other → Follows begun state.course end a → Follows begun state.course other b → a ≡ b
    one-status end other a b ends finishes x y =
        one-following begun state.course a b end x (subst (λ (one : End). Follows begun state.course one b) (stage-end stage state.own other end finishes ends) y)

  abbrev GoesOn : State → Sent → Type 0
  GoesOn turned own = stages.IsNext (stage_of begun turned.course.task) turned.own (Hand own)

  -- it goes on, or another follows, and not both
  one-turn : (count : ℕ) (state a b : State) (one other : Sent) → Turns begun count state a → Turns begun count state b → GoesOn a one → GoesOn b other → a ≡ b
  one-turn count state a b one other (inl x) (inl y) first second = x ∙ sym y
  one-turn count state a b one other (inl x) (inr y) first second = absurd (cc (ended-so state y.0 (Hand one) y.1 (subst (λ (turned : State). GoesOn turned one) x first)))
  one-turn count state a b one other (inr x) (inl y) first second = absurd (cc (ended-so state x.0 (Hand other) x.1 (subst (λ (turned : State). GoesOn turned other) y second)))
  one-turn count state a b one other (inr x) (inr y) first second =
      let same : x.2 ≡ y.2 = let statuses = one-status state x.0 y.0 (Does x.2) (Does y.2) x.1 y.1 x.3 y.3 in cc in
      x.4 ∙ ap (began_at count) same ∙ sym y.4

  one-giving : (count : ℕ) (state a b : State) (one other : Sent) → Gives begun count state one a → Gives begun count state other b → (one ≡ other) × (a ≡ b)
  one-giving count state a b one other x y =
      let turned = one-turn count state x.turned y.turned x.own y.own x.turns y.turns x.next y.next in
      let own : x.own ≡ y.own =
      let next = one-after x.turned (Hand x.own) (Hand y.own) x.next (subst (λ (turned : State). GoesOn turned y.own) (sym turned) y.next) in cc in (
        x.sent_is ∙ ap (λ (sent : Sent). renumbered x.turned.before sent) own ∙ ap (λ (state : State). renumbered state.before y.own) turned ∙ sym y.sent_is,
        x.after_is ∙ ap (λ (sent : Sent). record x.turned { own = Gave sent ∷ x.turned.own }) own ∙ ap (λ (state : State). record state { own = Gave y.own ∷ state.own }) turned ∙ sym y.after_is,
      )

  one-taking : (state a b : State) (sent : Sent) (answer : Option Reply) → Takes state sent answer a → Takes state sent answer b → a ≡ b
  one-taking state a b sent answer x y =
      let own = same-renumbered state.before x.own y.own (sym x.sent_is ∙ y.sent_is) in
      x.after_is ∙ ap (λ (sent : Sent). record state { own = Closed sent answer ∷ state.own }) own ∙ sym y.after_is

  one_state : (past : List Step) (a b : State) → IsState begun past a → IsState begun past b → a ≡ b
  one_state [] a b x y = x ∙ sym y
  one_state (Gave sent ∷ past) a b (before, was, gives) (other, so, also) =
      let same = one_state past other before so was in
      (one-giving (length (given past)) before a b sent sent gives (subst (λ (state : State). Gives begun (length (given past)) state sent b) same also)).1
  one_state (Closed sent answer ∷ past) a b (before, was, takes) (other, so, also) =
      let same = one_state past other before so was in
      one-taking before a b sent answer takes (subst (λ (state : State). Takes state sent answer b) same also)

  -- ---- what comes next

  module _ (count : ℕ) (state : State) where
    -- nothing is handed out where it waits, or is over
    hands-or-waits : (sent : Sent) → NextAt begun count state (Hand sent) → NextAt begun count state Wait → ⊥
    hands-or-waits sent (after, gives) waits = by_turns gives.turns
      where
        by_turns : Turns begun count state gives.turned → ⊥
        by_turns (inl same) = cc (one-after state (Hand gives.own) Wait (subst (λ (turned : State). GoesOn turned gives.own) same gives.next) waits)
        by_turns (inr follows) = cc (ended-so state follows.0 Wait follows.1 waits)

    hands-or-over : (sent : Sent) → NextAt begun count state (Hand sent) → NextAt begun count state Over → ⊥
    hands-or-over sent (after, gives) (report, (end, ends, over)) = by_turns gives.turns
      where
        by_turns : Turns begun count state gives.turned → ⊥
        by_turns (inl same) = cc (ended-so state end (Hand gives.own) ends (subst (λ (turned : State). GoesOn turned gives.own) same gives.next))
        by_turns (inr follows) = cc (one-status state follows.0 end (Does follows.2) (Ends report) follows.1 ends follows.3 over)

    waits-or-over : NextAt begun count state Wait → NextAt begun count state Over → ⊥
    waits-or-over waits (report, (end, ends, over)) = cc (ended-so state end Wait ends waits)

    one-at : (one other : Next) → NextAt begun count state one → NextAt begun count state other → one ≡ other
    one-at (Hand one) (Hand other) x y = ap Hand (one-giving count state x.0 y.0 one other x.1 y.1).0
    one-at (Hand one) Wait x y = absurd (hands-or-waits one x y)
    one-at (Hand one) Over x y = absurd (hands-or-over one x y)
    one-at Wait (Hand other) x y = absurd (hands-or-waits other y x)
    one-at Over (Hand other) x y = absurd (hands-or-over other y x)
    one-at Wait Wait x y = refl
    one-at Wait Over x y = absurd (waits-or-over x y)
    one-at Over Wait x y = absurd (waits-or-over y x)
    one-at Over Over x y = refl

  pub one_next : (past : List Step) (one other : Next) → IsNext begun past one → IsNext begun past other → one ≡ other
  one_next past one other (state, is, x) (also, so, y) =
      one-at (length (given past)) state one other x (subst (λ (at : State). NextAt begun (length (given past)) at other) (one_state past also state so is) y)

  pub one_end : (past : List Step) (one other : PassReport) → IsEnd begun past one → IsEnd begun past other → one ≡ other
  one_end past one other (state, is, (end, ends, x)) (also, so, over) =
      let there = subst (λ (at : State). IsOver begun at other) (one_state past also state so is) over in
      let same = one-status state end there.0 (Ends one) (Ends other) ends there.1 x there.2 in
      cc
