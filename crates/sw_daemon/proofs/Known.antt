-- What is known of a pass at each transcript, and that it may send what it hands out.
use Rattle.std.proofs.Common.{◌≡◌, inl, inr, ◌⊎◌, ℕ, ◌+◌, Bool, true, false, Contains, List, [], ◌∷◌, length, Option, Some, None, refl, sym, ap, subst, ◌∙◌, arith}
use Rattle.std.proofs.lemmas.Option.{none-some, same_Some}
use Rattle.sw_hashpath.specs.Place.{PlaceModel}
use Rattle.sw_message.specs.Message.{is_primary, place_in}
use Rattle.sw_message.specs.Transcript.{Closed, Gave, Hand, IsRun, Step, given, is_waiting, open_at}
use Rattle.sw_message.specs.declared.message.Msg.{Msg}
use Rattle.sw_message.specs.declared.reply.Reply.{Reply}
use Rattle.sw_message.specs.declared.sent.Sent.{Sent}
use Rattle.sw_gather.proofs.Lists.{first_or_later, here, none_in}
use Rattle.sw_hashdir.specs.declared.entry.Entry.{Entry}
use Rattle.sw_recon.specs.Revert as reverts
use Rattle.sw_recon.specs.declared.status.Status as revert_status
use Rattle.sw_recon.specs.declared.status.Status.TheVariants as revert
use Rattle.sw_recon.specs.declared.treatment.Treatment.{Treatment}
use Rattle.sw_recon.specs.declared.treatment.Treatment.TheVariants as treatment
use Rattle.sw_sync.specs.Sync as syncs
use Rattle.sw_sync.specs.declared.errand.Errand.{Errand}
use Rattle.sw_sync.specs.declared.errand.Errand.TheVariants as errand
use Rattle.sw_sync.specs.declared.stage.Stage as sync_stage
use Rattle.sw_sync.specs.declared.stage.Stage.TheVariants as sync
use Rattle.sw_sync.proofs.Messages.{told-later}
use Rattle.sw_sync.specs.Answers.{WasTold}
use Rattle.sw_daemon.specs.Causes.{MaySend, MaySendOf}
use Rattle.sw_daemon.specs.Pass.{Begun, Does, Follows, Gives, IsNext, IsState, ListOther, ListOwn, ListParts, ListPlaces, State, Status, Takes, Task, Treat, Turns, asks, empty_report, renumbered, reported, stage_of, treats}
use Rattle.sw_daemon.specs.Question as questions
use Rattle.sw_daemon.specs.Stage as stages
use Rattle.sw_daemon.specs.Stage.{Answered, Asks, End, Reverted, Reverts, Synced, Syncs}
use Rattle.sw_daemon.specs.declared.report.PassReport.{PassReport}
use Rattle.sw_daemon.specs.declared.survey.Survey.{Survey}
use Rattle.sw_daemon.specs.declared.survey.Survey.TheVariants as survey
use Rattle.sw_daemon.proofs.Justified.{IsAnswer, IsJustified, IsStill, IsTaskOf, answer-follows, justified-begun, justified-later, place-next}
use Rattle.sw_daemon.proofs.Questions.{ends-told, hands-own}
use Rattle.sw_daemon.proofs.Renumbering.{matches, open-renumbered, renumber}

-- ---- the transcript of a stage

abbrev pub AreTold : List Step → List Step → Type 0
AreTold past own = (sent : Sent) (answer : Option Reply) → Contains own (Closed sent answer) → WasTold past sent.device sent.msg answer

pub record Knows (begun : Begun) (past : List Step) (state : State) : Type 0 where
  pub justified : IsJustified begun past state.course
  pub run : IsRun (stages.IsNext (stage_of begun state.course.task)) state.own
  pub tells : AreTold past state.own

pub same-renumbered : (before : ℕ) (one other : Sent) → renumbered before one ≡ renumbered before other → one ≡ other
same-renumbered before one other is =
    let tickets : before + one.ticket ≡ before + other.ticket = ap (λ (sent : Sent). sent.ticket) is in
    let devices : one.device ≡ other.device = ap (λ (sent : Sent). sent.device) is in
    let msgs : one.msg ≡ other.msg = ap (λ (sent : Sent). sent.msg) is in
    let same : one.ticket ≡ other.ticket = omega (arith, tickets) in
    ap (λ n. record one { ticket = n }) same ∙ ap (λ n. record { ticket = other.ticket; device = n; msg = one.msg }) devices
    ∙ ap (λ msg. record { ticket = other.ticket; device = other.device; msg = msg }) msgs

-- an answer to a message of the pass is one to the open message of the stage
pub own-open : (begun : Begun) (past : List Step) (state : State) (own : Sent) → IsState begun past state → open_at (state.before + own.ticket) past ≡ Some (renumbered state.before own) → open_at own.ticket state.own ≡ Some own
own-open begun past state own is opened = by_opened (open_at own.ticket state.own) refl (sym (open-renumbered past None state (matches begun past state is) own.ticket) ∙ opened)
  where
    by_opened : (found : Option Sent) → open_at own.ticket state.own ≡ found → renumber state.before found ≡ Some (renumbered state.before own) → open_at own.ticket state.own ≡ Some own
    by_opened None none is = absurd (none-some (renumbered state.before own) is)
    by_opened (Some one) some is = some ∙ ap (λ (sent : Sent). Some sent) (same-renumbered state.before one own (same_Some (renumbered state.before one) (renumbered state.before own) is))

-- ---- what follows a stage

abbrev pub question_of : Begun → ℕ → Survey → questions.Begun
question_of begun device what = record { cluster = begun.cluster; device = device; survey = what }

module _ (begun : Begun) (past own : List Step) (tells : AreTold past own) where
  asked-told : (device : ℕ) (what : Survey) (answer : Option Reply) → IsRun (stages.IsNext (asks begun device what)) own → stages.IsEnd (asks begun device what) own (Answered answer) → WasTold past device (questions.message_of what) answer
  asked-told device what answer run ends = let of = question_of begun device what in tells (questions.sent_of of) answer (ends-told of own run answer ends)

  pub is-answer : (task : Task) (answer : Option Reply) → IsRun (stages.IsNext (stage_of begun task)) own → stages.IsEnd (stage_of begun task) own (Answered answer) → IsAnswer begun past task answer
  is-answer ListParts answer run ends = asked-told begun.device survey.Parts answer run ends
  is-answer (ListPlaces part) answer run ends = asked-told begun.device (survey.Places part) answer run ends
  is-answer (ListOwn part) answer run ends = asked-told begun.device (survey.Suffixes part) answer run ends
  is-answer (ListOther part listed heard device others) answer run ends = asked-told device (survey.Suffixes part) answer run ends
  is-answer (Treat place) answer run ends = tt

  stage-follows : (task : Task) (places : List PlaceModel) (parts : List ℕ) (report : PassReport) → IsJustified begun past (record { task = task; places = places; parts = parts; report = report })
      → IsRun (stages.IsNext (stage_of begun task)) own → (end : End) → stages.IsEnd (stage_of begun task) own end
      → (status : Status) → Follows begun (record { task = task; places = places; parts = parts; report = report }) end status → IsStill begun past status
  stage-follows task places parts report is run (Answered answer) ends status follows = answer-follows begun past task places parts report answer is (is-answer task answer run ends) status follows
  stage-follows (Treat place) places parts report is run end ends status follows = subst (IsStill begun past) (sym follows) (place-next begun past places parts (reported report end) is.are_places is.are_parts)
  stage-follows ListParts places parts report is run end ends status follows = absurd ends
  stage-follows (ListPlaces part) places parts report is run end ends status follows = absurd ends
  stage-follows (ListOwn part) places parts report is run end ends status follows = absurd ends
  stage-follows (ListOther part listed heard device others) places parts report is run end ends status follows = absurd ends

-- ---- at each transcript

module _ (begun : Begun) (past : List Step) where
  knows-turned : (count : ℕ) (state turned : State) → Turns begun count state turned → Knows begun past state → Knows begun past turned
  knows-turned count state turned (inl same) knows = subst (Knows begun past) (sym same) knows
  knows-turned count state turned (inr (end, ends, course, follows, turned_is)) knows = subst (Knows begun past) (sym turned_is) (record {
    justified = stage-follows begun past state.own knows.tells state.course.task state.course.places state.course.parts state.course.report knows.justified knows.run end ends (Does course) follows;
    run = tt;
    tells = λ sent answer there. absurd (none_in (Closed sent answer) there);
  })

  knows-gave : (count : ℕ) (state : State) (sent : Sent) (after : State) → Gives begun count state sent after → Knows begun past state → Knows begun (Gave sent ∷ past) after
  knows-gave count state sent after gives knows =
      let turned = knows-turned count state gives.turned gives.turns knows in
      subst (Knows begun (Gave sent ∷ past)) (sym gives.after_is) (record {
        justified = justified-later begun past (Gave sent) gives.turned.course turned.justified;
        run = (gives.next, turned.run);
        tells = told-gave gives.own gives.turned.own (λ one answer there. told-later past (Gave sent) _ _ _ (turned.tells one answer there));
      })
    where
      told-gave : (own : Sent) (steps : List Step) → AreTold (Gave sent ∷ past) steps → AreTold (Gave sent ∷ past) (Gave own ∷ steps)
      told-gave own steps are one answer there = by_place (first_or_later (Gave own) steps (Closed one answer) there)
        where
          by_place : (Gave own ≡ Closed one answer) ⊎ Contains steps (Closed one answer) → WasTold (Gave sent ∷ past) one.device one.msg answer
          by_place (inl same) = absurd (cc)
          by_place (inr later) = are one answer later

  module _ (state : State) (is : IsState begun past state) (knows : Knows begun past state) (own : Sent) (answer : Option Reply) where
    abbrev Now : List Step
    Now = Closed (renumbered state.before own) answer ∷ past

    told-now : AreTold Now (Closed own answer ∷ state.own)
    told-now one given there = by_place (first_or_later (Closed own answer) state.own (Closed one given) there)
      where
        by_place : (Closed own answer ≡ Closed one given) ⊎ Contains state.own (Closed one given) → WasTold Now one.device one.msg given
        by_place (inl same) =
            let sents : own ≡ one = cc in
            let answers : answer ≡ given = cc in
            subst (λ (other : Sent). WasTold Now other.device other.msg given) sents
            (subst (λ (other : Option Reply). WasTold Now own.device own.msg other) answers (state.before + own.ticket, here (Closed (renumbered state.before own) answer) past))
        by_place (inr later) = told-later past (Closed (renumbered state.before own) answer) one.device one.msg given (knows.tells one given later)

    knows-now : open_at (state.before + own.ticket) past ≡ Some (renumbered state.before own) → Knows begun Now (record state { own = Closed own answer ∷ state.own })
    knows-now opened = record {
      justified = justified-later begun past (Closed (renumbered state.before own) answer) state.course knows.justified;
      run = (own-open begun past state own is opened, knows.run);
      tells = told-now;
    }

  knows-took : (state : State) (sent : Sent) (answer : Option Reply) (after : State) → IsState begun past state → Takes state sent answer after → open_at sent.ticket past ≡ Some sent → Knows begun past state → Knows begun (Closed sent answer ∷ past) after
  knows-took state sent answer after is takes opened knows =
      subst (Knows begun (Closed sent answer ∷ past)) (sym takes.after_is)
      (subst (λ (one : Sent). Knows begun (Closed one answer ∷ past) (record state { own = Closed takes.own answer ∷ state.own })) (sym takes.sent_is)
      (knows-now state is knows takes.own answer (subst (λ (one : Sent). open_at one.ticket past ≡ Some one) takes.sent_is opened)))

pub known : (begun : Begun) (past : List Step) (state : State) → IsRun (IsNext begun) past → IsState begun past state → Knows begun past state
known begun [] state run is = subst (Knows begun []) (sym is) (record { justified = justified-begun begun [] empty_report; run = tt; tells = λ sent answer there. absurd (none_in (Closed sent answer) there) })
known begun (Gave sent ∷ past) state run (before, was, gives) = knows-gave begun past (length (given past)) before sent state gives (known begun past before run.1 was)
known begun (Closed sent answer ∷ past) state run (before, was, takes) = knows-took begun past before sent answer state was takes run.0 (known begun past before run.1 was)

-- ---- what is handed out

sync-message : (begun : syncs.Begun) (stage : sync_stage.Stage) (one : Errand) (device : ℕ) (msg : Msg) → syncs.IsMessage begun stage one device msg → place_in msg ≡ Some begun.place
sync-message begun stage (errand.Ask asked) device msg is = ap place_in is.1
sync-message begun (sync.Buries burial) (errand.Delete primary) device msg is = ap place_in is.1
sync-message begun (sync.Repairs repair) (errand.Fetch source) device msg is = ap place_in is.1
sync-message begun (sync.Repairs repair) (errand.Commit target) device msg is = ap place_in is.1
sync-message begun (sync.Repairs repair) (errand.Store target) device msg is = ap place_in is.3
sync-message begun stage one device msg is = absurd is

module _ (begun : reverts.Begun) (sent : Sent) where
  treat-message : (entry : Entry) (how : Treatment) → place_in (reverts.message_for begun.place entry how) ≡ Some begun.place
  treat-message entry treatment.Ask = refl
  treat-message entry treatment.Fetch = refl
  treat-message entry (treatment.Store bytes) = refl
  treat-message entry treatment.Commit = refl
  treat-message entry treatment.Remove = refl

  message-at : (number : ℕ) (status : revert_status.Status) → Hand sent ≡ reverts.next_at begun number status → place_in sent.msg ≡ Some begun.place
  message-at number revert.Starts is = let same : sent ≡ reverts.own_message begun number = cc in ap (λ (one : Sent). place_in one.msg) same
  message-at number (revert.Treats course) is =
      let same : sent ≡ reverts.treat_message begun number course = cc in
      ap (λ (one : Sent). place_in one.msg) same ∙ treat-message course.entry course.treatment
  message-at number (revert.Ends end) is = absurd (cc)

  pub revert-message : (past : List Step) (waits : Bool) → reverts.next_or begun past waits (Hand sent) → place_in sent.msg ≡ Some begun.place
  revert-message past true is = absurd (cc)
  revert-message past false (status, is, next) = message-at (length (given past)) status next

module _ (begun : Begun) (place : PlaceModel) (own : List Step) (sent : Sent) where
  pub treat-sends : (primary : Bool) → stages.IsNext (treats begun place primary) own (Hand sent) → place_in sent.msg ≡ Some place
  treat-sends true (state, is, hands) = sync-message (record { cluster = begun.cluster; device = begun.device; place = place }) state.stage hands.2.errand sent.device sent.msg hands.2.message
  treat-sends false next = revert-message (record { cluster = begun.cluster; device = begun.device; place = place }) sent own (is_waiting own) next

module _ (begun : Begun) (past own : List Step) (sent : Sent) where
  may-ask : (device : ℕ) (what : Survey) → stages.IsNext (asks begun device what) own (Hand sent) → MaySend begun past device (questions.message_of what) → MaySend begun past sent.device sent.msg
  may-ask device what next may = subst (λ (one : Sent). MaySend begun past one.device one.msg) (sym (hands-own (question_of begun device what) own sent next)) may

  may-send : (task : Task) → IsTaskOf begun past task → stages.IsNext (stage_of begun task) own (Hand sent) → MaySend begun past sent.device sent.msg
  may-send ListParts is next = may-ask begun.device survey.Parts next refl
  may-send (ListPlaces part) is next = may-ask begun.device (survey.Places part) next (refl, is)
  may-send (ListOwn part) is next = may-ask begun.device (survey.Suffixes part) next (is.0, is.1, is.1)
  may-send (ListOther part listed heard device others) is next = may-ask device (survey.Suffixes part) next (is.is_part, is.primary, (is.are_others device (here device others)).1)
  may-send (Treat place) is next =
      subst (MaySendOf begun past sent.device sent.msg) (sym (treat-sends begun place own sent (is_primary begun.cluster begun.device place) next)) is

pub sends : (begun : Begun) (past : List Step) (sent : Sent) → IsRun (IsNext begun) past → IsNext begun past (Hand sent) → MaySend begun past sent.device sent.msg
sends begun past sent run (state, is, (after, gives)) =
    let knows = knows-turned begun past (length (given past)) state gives.turned gives.turns (known begun past state run is) in
    subst (λ (one : Sent). MaySend begun past one.device one.msg) (sym gives.sent_is) (may-send begun past gives.turned.own gives.own gives.turned.course.task knows.justified.is_task gives.next)
