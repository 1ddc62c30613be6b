-- What a pass stands for as it goes on.
use Rattle.std.proofs.Common.{◌≡◌, ◌⊎◌, inl, inr, IsTrue, ℕ, ◌+◌, ◌<◌, Bool, true, false, List, [], ◌∷◌, length, map, Option, Some, None, is_some, refl, sym, ap, ap₂, subst, ◌∙◌, arith, true≢false}
use Rattle.std.proofs.lemmas.Option.{none-some}
use Rattle.sw_ring.specs.Cluster.{ClusterModel}
use Rattle.sw_message.specs.Learnt.{AreKnown, Learnt}
use Rattle.sw_message.specs.Running.{IsOf}
use Rattle.sw_message.specs.Transcript.{Closed, Gave, Hand, Over, Step, Wait, after_answer, closed_by, given, is_waiting, open_at, opens}
use Rattle.sw_message.specs.Warrant.{IsWarranted}
use Rattle.sw_message.specs.declared.reply.Reply.{Reply}
use Rattle.sw_message.specs.declared.sent.Sent.{Sent}
use Rattle.sw_daemon.specs.Coursing.{Course, IsCourse, IsSound, IsStatus, IsTask, is_over}
use Rattle.sw_daemon.specs.Inside.{pass_seen}
use Rattle.sw_daemon.specs.Pass as passes
use Rattle.sw_daemon.specs.Pass.{Begun, Does, Ends, Follows, IsBegun, IsNext, IsOver, IsState, State, Status, Turns, began_at, beginning, renumbered, stage_of}
use Rattle.sw_daemon.specs.Stage as stages
use Rattle.sw_daemon.specs.Stage.{End, cluster_of}
use Rattle.sw_daemon.specs.Staging as staging
use Rattle.sw_daemon.specs.Standing.{DoesIn, IsFresh, PassModel, Stands, StandsIn, StandsOn, has_ended}
use Rattle.sw_daemon.specs.declared.pass_op.PassOp.TheInside.{Inside}
use Rattle.sw_daemon.specs.declared.report.PassReport.{PassReport}
use Rattle.sw_daemon.specs.declared.stage.Stage.{Stage}
use Rattle.sw_daemon.proofs.Fresh.{fresh-unended}
use Rattle.sw_daemon.proofs.Outcomes.{none_so}
use Rattle.sw_daemon.proofs.Renumbering.{Matches, matches, matches-turned, over-none, own-known, run-told, told-before, told-ignored, told-none, told-open, turned-known, waiting-same}
use Rattle.sw_daemon.proofs.Stages.{cluster-same, numbered}

-- what holds of a pass, by its fields
pub by_fields : (inside : Inside) (pass : PassModel) (begun : Begun) (past : List Step) → pass_seen inside ≡ pass → Stands pass begun past → Stands (pass_seen inside) begun past
by_fields inside pass begun past is stands = subst (λ (pass : PassModel). Stands pass begun past) (sym is) stands

-- ---- a pass that begins

pub stands_begun : (begun : Begun) (course : Course) → IsBegun begun → IsCourse course beginning → IsSound begun.cluster course
    → Stands (record { cluster = begun.cluster; device = begun.device; course = course; stage = None; before = 0; count = 0 }) begun []
stands_begun begun course valid is sound = record {
  valid = valid;
  run = tt;
  cluster_is = refl;
  device_is = refl;
  count_is = refl;
  state = began_at 0 beginning;
  is = refl;
  stands = inr (began_at 0 beginning, inl refl, record { course_is = is; sound = sound; before_is = refl; stage_is = refl });
}

-- ---- a pass that goes on

goes_in : (pass : PassModel) (begun : Begun) (state : State) → StandsIn pass begun state → has_ended pass ≡ false → (turned : State) × Turns begun pass.count state turned × DoesIn pass begun turned
goes_in pass begun state (inl (report, over, is)) goes = absurd (true≢false (sym (ap is_over is.0) ∙ goes))
goes_in pass begun state (inr does) goes = does

-- as its fields have it
begun_is : (pass : PassModel) (begun : Begun) (past : List Step) → Stands pass begun past → record { cluster = pass.cluster; device = pass.device } ≡ begun
begun_is pass begun past stands = ap₂ (λ (cluster : ClusterModel) (device : ℕ). record { cluster = cluster; device = device }) stands.cluster_is stands.device_is

module _ (pass : PassModel) (begun : Begun) (past : List Step) (stands : Stands pass begun past) where
  turns_so : (turned : State) → Turns begun pass.count stands.state turned → Turns begun (length (given past)) stands.state turned
  turns_so turned turns = subst (λ count. Turns begun count stands.state turned) stands.count_is turns

  matches_so : (turned : State) → Turns begun pass.count stands.state turned → Matches past turned
  matches_so turned turns = matches-turned begun past stands.state turned (matches begun past stands.state stands.is) (turns_so turned turns)

  none-open : (report : PassReport) → IsOver begun stands.state report → opens past ≡ []
  none-open report (end, ends, follows) =
      (matches begun past stands.state stands.is).opens_are ∙ ap (λ opened. map (renumbered stands.state.before) opened) (over-none (stage_of begun stands.state.course.task) stands.state.own end ends)

module _ (pass : PassModel) (begun : Begun) (past : List Step) (stands : Stands pass begun past) (goes : has_ended pass ≡ false) where
  does : (turned : State) × Turns begun pass.count stands.state turned × DoesIn pass begun turned
  does = goes_in pass begun stands.state stands.stands goes

  pub sound_so : IsSound pass.cluster pass.course
  sound_so = does.2.sound

  -- ---- a stage is begun

  module _ (job : Stage) (begins : (of : passes.Task) → IsTask pass.course.task of → staging.Stands job (stage_of (record { cluster = pass.cluster; device = pass.device }) of) []) where
    begins-so : staging.Stands job (stage_of begun does.0.course.task) []
    begins-so = subst (λ (one : Begun). staging.Stands job (stage_of one does.0.course.task) []) (begun_is pass begun past stands) (begins does.0.course.task does.2.course_is.task)

    pub fresh_so : IsFresh (Some job)
    fresh_so = (stage_of begun does.0.course.task, begins-so)

    pub stands_staged : pass.stage ≡ None → Stands (record pass { stage = Some job }) begun past
    stands_staged none =
        let empty : does.0.own ≡ [] = subst (λ (stage : Option Stage). StandsOn stage (stage_of begun does.0.course.task) does.0.own) none does.2.stage_is in
        record {
          valid = stands.valid;
          run = stands.run;
          cluster_is = stands.cluster_is;
          device_is = stands.device_is;
          count_is = stands.count_is;
          state = stands.state;
          is = stands.is;
          stands = inr (
            does.0,
            does.1,
            record {
              course_is = does.2.course_is;
              sound = does.2.sound;
              before_is = does.2.before_is;
              stage_is = subst (staging.Stands job (stage_of begun does.0.course.task)) (sym empty) begins-so;
            },
          );
        }

-- by its fields
module _ (opened inside : Inside) (pass : PassModel) (same : opened ≡ inside) (seen : pass_seen inside ≡ pass) (goes : has_ended pass ≡ false) (job : Stage)
    (begins : (of : passes.Task) → IsTask opened.course.task of → staging.Stands job (stage_of (record { cluster = opened.cluster.now; device = opened.device }) of) []) (begun : Begun) (past : List Step) (stands : Stands pass begun past) where
  opened_so : Stands (pass_seen opened) begun past
  opened_so = by_fields opened pass begun past (ap pass_seen same ∙ seen) stands

  goes_opened : has_ended (pass_seen opened) ≡ false
  goes_opened = ap has_ended (ap pass_seen same ∙ seen) ∙ goes

  pub fresh_opened : IsFresh (Some job)
  fresh_opened = fresh_so (pass_seen opened) begun past opened_so goes_opened job begins

  pub staged_opened : is_some opened.stage ≡ false → Stands (record (pass_seen opened) { stage = Some job }) begun past
  staged_opened none = stands_staged (pass_seen opened) begun past opened_so goes_opened job begins (none_so opened.stage none)

-- what a pass does: the state that it has turned to, and its stage with the stage's transcript
pub record Works (pass : PassModel) (begun : Begun) (past : List Step) (job : Stage) : Type 0 where
  pub stands : Stands pass begun past
  pub turned : State
  pub turns : Turns begun pass.count stands.state turned
  pub does : DoesIn pass begun turned
  pub on : staging.Stands job (stage_of begun turned.course.task) turned.own
  pub same : Matches past turned

pub works : (pass : PassModel) (begun : Begun) (past : List Step) → Stands pass begun past → has_ended pass ≡ false → (job : Stage) → pass.stage ≡ Some job → Works pass begun past job
works pass begun past stands goes job staged =
    let does = goes_in pass begun stands.state stands.stands goes in
    record {
      stands = stands;
      turned = does.0;
      turns = does.1;
      does = does.2;
      on = subst (λ (stage : Option Stage). StandsOn stage (stage_of begun does.0.course.task) does.0.own) staged does.2.stage_is;
      same = matches_so pass begun past stands does.0 does.1;
    }

module _ (pass : PassModel) (begun : Begun) (past : List Step) (job : Stage) (is : Works pass begun past job) where
  abbrev of : stages.Begun
  of = stage_of begun is.turned.course.task

  -- ---- its stage goes on

  waits-at : Turns begun pass.count is.stands.state is.turned → stages.IsNext of is.turned.own Wait → IsTrue (is_waiting is.turned.own) → IsNext begun past Wait
  waits-at (inl same) next waiting = (is.stands.state, is.stands.is, subst (λ (one : State). stages.IsNext (stage_of begun one.course.task) one.own Wait) same next)
  waits-at (inr (end, ends, course, follows, turned_is)) next waiting = absurd (true≢false (sym (subst (λ (one : State). IsTrue (is_waiting one.own)) turned_is waiting)))

  pub waits : (over : Bool) → (stages.IsNext of is.turned.own Over × (over ≡ true)) ⊎ (stages.IsNext of is.turned.own Wait × IsTrue (is_waiting is.turned.own) × (over ≡ false))
      → (over ≡ true) ⊎ (IsNext begun past Wait × IsTrue (is_waiting past) × (over ≡ false))
  waits over (inl ends) = inl ends.1
  waits over (inr (next, waiting, goes)) = inr (waits-at is.turns next waiting, subst IsTrue (sym (waiting-same past is.turned is.same)) waiting, goes)

  pub stands_on : (after : Stage) → staging.Stands after of is.turned.own → Stands (record pass { stage = Some after }) begun past
  stands_on after on = record {
    valid = is.stands.valid;
    run = is.stands.run;
    cluster_is = is.stands.cluster_is;
    device_is = is.stands.device_is;
    count_is = is.stands.count_is;
    state = is.stands.state;
    is = is.stands.is;
    stands = inr (is.turned, is.turns, record { course_is = is.does.course_is; sound = is.does.sound; before_is = is.does.before_is; stage_is = on });
  }

  -- ---- a message is handed on

  module _ (sent : Sent) (next : stages.IsNext of is.turned.own (Hand sent)) where
    gives : passes.Gives begun (length (given past)) is.stands.state (record sent { ticket = pass.count }) (record is.turned { own = Gave sent ∷ is.turned.own })
    gives = record {
      turned = is.turned;
      turns = turns_so pass begun past is.stands is.turned is.turns;
      own = sent;
      next = next;
      sent_is = ap (λ n. record sent { ticket = n }) (is.stands.count_is ∙ is.same.count_is ∙ ap (λ n. is.turned.before + n) (sym (numbered of is.turned.own sent next)));
      after_is = refl;
    }

    pub hands_on : IsNext begun past (Hand (record sent { ticket = pass.count }))
    hands_on = (is.stands.state, is.stands.is, (record is.turned { own = Gave sent ∷ is.turned.own }, gives))

    pub stands_handed : (after : Stage) (count : ℕ) → count ≡ pass.count + 1 → staging.Stands after of (Gave sent ∷ is.turned.own)
        → Stands (record pass { stage = Some after; count = count }) begun (Gave (record sent { ticket = pass.count }) ∷ past)
    stands_handed after count more on = record {
      valid = is.stands.valid;
      run = (hands_on, is.stands.run);
      cluster_is = is.stands.cluster_is;
      device_is = is.stands.device_is;
      count_is = omega (arith, more, is.stands.count_is);
      state = record is.turned { own = Gave sent ∷ is.turned.own };
      is = (is.stands.state, is.stands.is, gives);
      stands = inr (record is.turned { own = Gave sent ∷ is.turned.own }, inl refl, record { course_is = is.does.course_is; sound = is.does.sound; before_is = is.does.before_is; stage_is = on });
    }

  pub of_cluster : (sent : Sent) → IsOf (cluster_of of) sent.device sent.msg → IsOf begun.cluster sent.device sent.msg
  of_cluster sent ofs = subst (λ (cluster : ClusterModel). IsOf cluster sent.device sent.msg) (cluster-same begun is.turned.course.task) ofs

  pub warrants : (sent : Sent) (learnt : Learnt) → AreKnown begun.cluster learnt past → (AreKnown (cluster_of of) learnt is.turned.own → IsWarranted (cluster_of of) learnt sent.msg) → IsWarranted begun.cluster learnt sent.msg
  warrants sent learnt known warranted =
      let own = turned-known begun.cluster learnt begun past pass.count is.stands.state is.turned known is.turns (own-known begun.cluster learnt begun past is.stands.state is.stands.is known) in
      let same = cluster-same begun is.turned.course.task in
      subst (λ (cluster : ClusterModel). IsWarranted cluster learnt sent.msg) same (warranted (subst (λ (cluster : ClusterModel). AreKnown cluster learnt is.turned.own) (sym same) own))

  -- ---- its stage is over

  module _ (end : End) (ends : stages.IsEnd of is.turned.own end) where
    -- it was no stage that has handed out nothing
    ended-at : Turns begun pass.count is.stands.state is.turned → is.turned ≡ is.stands.state
    ended-at (inl same) = same
    ended-at (inr (before, were, course, follows, turned_is)) =
        absurd (fresh-unended (stage_of begun course.task) end (subst (λ (one : State). stages.IsEnd (stage_of begun one.course.task) one.own end) turned_is ends))

    turned-in : (after : Course) → stages.IsEnd (stage_of begun is.stands.state.course.task) is.stands.state.own end
        → (status : Status) → Follows begun is.stands.state.course end status → IsStatus after status → IsSound pass.cluster after
        → StandsIn (record pass { course = after; stage = None; before = pass.count }) begun is.stands.state
    turned-in after ended (Ends report) follows seen sound = inl (report, (end, ended, follows), seen)
    turned-in after ended (Does next) follows seen sound =
        inr (began_at pass.count next, inr (end, ended, next, follows, refl), record { course_is = seen; sound = sound; before_is = refl; stage_is = refl })

    pub stands_turned : (after : Course)
        → ((course : passes.Course) → IsCourse pass.course course → (status : Status) × Follows (record { cluster = pass.cluster; device = pass.device }) course end status × IsStatus after status)
        → IsSound pass.cluster after → Stands (record pass { course = after; stage = None; before = pass.count }) begun past
    stands_turned after follows sound =
        let same = ended-at is.turns in
        let next = follows is.stands.state.course (subst (λ (one : State). IsCourse pass.course one.course) same is.does.course_is) in
        record {
          valid = is.stands.valid;
          run = is.stands.run;
          cluster_is = is.stands.cluster_is;
          device_is = is.stands.device_is;
          count_is = is.stands.count_is;
          state = is.stands.state;
          is = is.stands.is;
          stands = turned-in after (subst (λ (one : State). stages.IsEnd (stage_of begun one.course.task) one.own end) same ends)
              next.0 (subst (λ (one : Begun). Follows one is.stands.state.course end next.0) (begun_is pass begun past is.stands) next.1) next.2 sound;
        }

-- ---- an answer is taken

module _ (pass : PassModel) (begun : Begun) (past : List Step) (stands : Stands pass begun past) (answer : Option Reply) where
  -- nothing changes but the stage
  same-but : (after : Option Stage) → StandsIn (record pass { stage = after }) begun stands.state → Stands (record pass { stage = after }) begun past
  same-but after does = record {
    valid = stands.valid;
    run = stands.run;
    cluster_is = stands.cluster_is;
    device_is = stands.device_is;
    count_is = stands.count_is;
    state = stands.state;
    is = stands.is;
    stands = does;
  }

  ignored-at : (ticket : ℕ) → after_answer past ticket answer ≡ past → (after : PassModel) → Stands after begun past → Stands after begun (after_answer past ticket answer)
  ignored-at ticket is after on = subst (Stands after begun) (sym is) on

  before-in : (ticket : ℕ) → ticket < pass.before → StandsIn pass begun stands.state → after_answer past ticket answer ≡ past
  before-in ticket less (inl (report, over, is)) = told-none past answer ticket (none-open pass begun past stands report over)
  before-in ticket less (inr (turned, turns, does)) = told-before past answer turned (matches_so pass begun past stands turned turns) ticket (omega (arith, less, does.before_is))

  -- one to a message of an earlier stage is ignored
  pub stands_before : (ticket : ℕ) → ticket < pass.before → Stands pass begun (after_answer past ticket answer)
  stands_before ticket less = ignored-at ticket (before-in ticket less stands.stands) pass stands

  none-in : (ticket : ℕ) → pass.stage ≡ None → StandsIn pass begun stands.state → after_answer past ticket answer ≡ past
  none-in ticket none (inl (report, over, is)) = told-none past answer ticket (none-open pass begun past stands report over)
  none-in ticket none (inr (turned, turns, does)) =
      let empty : turned.own ≡ [] = subst (λ (stage : Option Stage). StandsOn stage (stage_of begun turned.course.task) turned.own) none does.stage_is in
      told-none past answer ticket ((matches_so pass begun past stands turned turns).opens_are ∙ ap (λ (own : List Step). map (renumbered turned.before) (opens own)) empty)

  -- so is one where the stage was not begun
  pub stands_unstaged : (ticket : ℕ) → pass.stage ≡ None → Stands pass begun (after_answer past ticket answer)
  stands_unstaged ticket none = ignored-at ticket (none-in ticket none stands.stands) pass stands

  module _ (ticket own : ℕ) (is : ticket ≡ pass.before + own) (job after : Stage) (staged : pass.stage ≡ Some job)
      (takes : (one : stages.Begun) (steps : List Step) → staging.Stands job one steps → staging.Stands after one (after_answer steps own answer)) where
    abbrev taken : PassModel
    taken = record pass { stage = Some after }

    module _ (turned : State) (turns : Turns begun pass.count stands.state turned) (does : DoesIn pass begun turned) where
      on : staging.Stands after (stage_of begun turned.course.task) (after_answer turned.own own answer)
      on = takes (stage_of begun turned.course.task) turned.own (subst (λ (stage : Option Stage). StandsOn stage (stage_of begun turned.course.task) turned.own) staged does.stage_is)

      ticket-is : turned.before + own ≡ ticket
      ticket-is = omega (arith, is, does.before_is)

      same : Matches past turned
      same = matches_so pass begun past stands turned turns

      -- an open message is one of the stage that the pass is in
      unturned : (sent : Sent) → open_at own turned.own ≡ Some sent → Turns begun pass.count stands.state turned → turned ≡ stands.state
      unturned sent some (inl same) = same
      unturned sent some (inr (end, ends, course, follows, turned_is)) = absurd (none-some sent (subst (λ (one : State). open_at own one.own ≡ Some sent) turned_is some))

      heard : (sent : Sent) → open_at own turned.own ≡ Some sent → Stands taken begun (Closed (renumbered turned.before sent) answer ∷ past)
      heard sent some =
          let next : State = record turned { own = Closed sent answer ∷ turned.own } in
          record {
            valid = stands.valid;
            run = run-told past answer turned same (IsNext begun) own sent some stands.run;
            cluster_is = stands.cluster_is;
            device_is = stands.device_is;
            count_is = stands.count_is;
            state = next;
            is = (turned, subst (IsState begun past) (sym (unturned sent some turns)) stands.is, record { own = sent; sent_is = refl; after_is = refl });
            stands = inr (
              next,
              inl refl,
              record {
                course_is = does.course_is;
                sound = does.sound;
                before_is = does.before_is;
                stage_is = subst (staging.Stands after (stage_of begun turned.course.task)) (ap (closed_by turned.own answer) some) on;
              },
            );
          }

      taken-by : (opened : Option Sent) → open_at own turned.own ≡ opened → Stands taken begun (after_answer past (turned.before + own) answer)
      taken-by None none =
          ignored-at (turned.before + own) (told-ignored past answer turned same own none) taken
          (same-but (Some after) (inr (
            turned,
            turns,
            record {
              course_is = does.course_is;
              sound = does.sound;
              before_is = does.before_is;
              stage_is = subst (staging.Stands after (stage_of begun turned.course.task)) (ap (closed_by turned.own answer) none) on;
            },
          )))
      taken-by (Some sent) some = subst (Stands taken begun) (sym (told-open past answer turned same own sent some)) (heard sent some)

    taken-in : StandsIn pass begun stands.state → Stands taken begun (after_answer past ticket answer)
    taken-in (inl (report, over, seen)) = ignored-at ticket (told-none past answer ticket (none-open pass begun past stands report over)) taken (same-but (Some after) (inl (report, over, seen)))
    taken-in (inr (turned, turns, does)) =
        subst (λ n. Stands taken begun (after_answer past n answer)) (ticket-is turned turns does) (taken-by turned turns does (open_at own turned.own) refl)

    pub stands_told : Stands taken begun (after_answer past ticket answer)
    stands_told = taken-in stands.stands
