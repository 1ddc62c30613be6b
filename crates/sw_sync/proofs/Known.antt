-- What is known at the state of every transcript.
use Rattle.std.proofs.Common.{◌≡◌, ◌≢◌, ◌⊎◌, inl, inr, ℕ, ◌&&◌, Bool, true, false, not, Contains, List, [], ◌∷◌, ◌++◌, append-nil, Option, Some, None, refl, sym, ap, subst, ◌∙◌}
use Rattle.std.specs.Prelude.{if◌then◌else◌}
use Rattle.std.specs.List.{AllPairs, find}
use Rattle.std.proofs.lemmas.Option.{none-some, same_Some}
use Rattle.sw_types.proofs.Policies.{bounds}
use Rattle.sw_hashdir.specs.declared.floor.Floor.{Floor}
use Rattle.sw_message.specs.Transcript.{Closed, Gave, IsRun, Step, is_waiting, open_at, opens}
use Rattle.sw_message.specs.declared.reply.Reply.{Reply}
use Rattle.sw_message.specs.declared.sent.Sent.{Sent}
use Rattle.sw_message.specs.declared.message.Msg.TheVariants as message
use Rattle.sw_message.specs.declared.target.Target.{Target}
use Rattle.sw_quorum.proofs.Transcripts.{found}
use Rattle.sw_quorum.specs.Transcripts.{has_ticket}
use Rattle.sw_quorum.specs.Verdicts.{commit_verdict, delete_verdict, store_verdict}
use Rattle.sw_sync.specs.Parts.{Burial, Heard, Repair}
use Rattle.sw_sync.specs.Standing.{ends}
use Rattle.sw_sync.specs.State.{State}
use Rattle.sw_sync.specs.Sync.{Begun, Brings, Hears, HearsRepair, IsBegun, IsFetched, IsMessage, IsNext, IsState, Loses, Meaning, advanced, beginning, buried, burial_of, closed, committed, due_after, due_fetched, errand_of, fetched, heard_from, is_empty, is_lacking, listing_of, plan, primaries, repair_end, repair_of, stored, total}
use Rattle.sw_sync.specs.declared.errand.Errand.{Errand}
use Rattle.sw_sync.specs.declared.errand.Errand.TheVariants.{Ask, Commit, Delete, Fetch, Store}
use Rattle.sw_sync.specs.declared.stage.Stage.{Stage}
use Rattle.sw_sync.specs.declared.stage.Stage.TheVariants.{Buries, Ends, Handoffs, Primaries, Repairs}
use Rattle.sw_sync.specs.declared.sync_end.SyncEnd.{SyncEnd}
use Rattle.sw_sync.specs.declared.sync_end.SyncEnd.TheVariants.{Done, Newer, Unanswered}
use Rattle.sw_sync.proofs.Asking.{Asking, IsQuestion, Surveyed, asking-begun, asking-gave, asking-primaries, asking-told, part_small, surveyed}
use Rattle.sw_sync.proofs.Burying.{Burying, ToBury, burying-begun, burying-gave, burying-told}
use Rattle.sw_sync.proofs.Ending.{empty-is, over_settled}
use Rattle.sw_sync.proofs.Errands.{IsFor, does-open, sent_for}
use Rattle.sw_sync.proofs.Fetched.{repairing-brought, repairing-lost}
use Rattle.sw_sync.proofs.Firsts.{IsUntold, not-told}
use Rattle.sw_sync.proofs.Messages.{none-open, opens-each}
use Rattle.sw_sync.proofs.Plans.{HasNoFloor, IsOvertaken, by_plan}
use Rattle.sw_sync.proofs.Planned.{repairing-begun}
use Rattle.sw_sync.proofs.Repairing.{Repairing, ToRepair, repairing-gave}
use Rattle.sw_sync.proofs.Writes.{repairing-committed, repairing-stored}

-- ---- what is known

-- it is over by what was heard alone
abbrev pub IsShort : Begun → Heard → SyncEnd → Type 0
IsShort begun heard end =
    ((listing_of heard.lists begun.device ≡ None) × (end ≡ Unanswered begun.device))
    ⊎ ((HasNoFloor begun heard × (end ≡ Done 0 0 0 [])) ⊎ ((best : Floor) × IsOvertaken begun heard best × (end ≡ Newer best)))

-- or by what was done
abbrev pub EndsBy : Begun → List Step → SyncEnd → Type 0
EndsBy begun past end =
    ((heard : Heard) × Surveyed begun past heard × IsShort begun heard end)
    ⊎ (((burial : Burial) × Burying begun past burial [] × (end ≡ Done 0 0 burial.tombstones burial.failed))
    ⊎ ((repair : Repair) × Repairing begun past repair [] × (end ≡ repair_end begun.cluster.policy.k repair)))

abbrev pub Knows : Begun → List Step → Stage → List Errand → Type 0
Knows begun past (Handoffs heard) due = Asking begun past heard due (primaries begun)
Knows begun past (Primaries heard) due = Asking begun past heard due []
Knows begun past (Buries burial) due = Burying begun past burial due
Knows begun past (Repairs repair) due = Repairing begun past repair due
Knows begun past (Ends end) due = EndsBy begun past end

abbrev pub KnowsState : Begun → List Step → State → Type 0
KnowsState begun past state = Knows begun past state.stage state.due

-- ---- a message is handed out

knows-gave : (begun : Begun) (past : List Step) (stage : Stage) (errand : Errand) (due later : List Errand) (sent : Sent) → due ≡ errand ∷ later → IsMessage begun stage errand sent.device sent.msg → (ends stage ≡ true → due ≡ [])
    → Knows begun past stage due → Knows begun (Gave sent ∷ past) stage later
knows-gave begun past (Handoffs heard) errand due later sent first message over knows = asking-gave begun past heard (primaries begun) sent (Handoffs heard) errand due later first message knows
knows-gave begun past (Primaries heard) errand due later sent first message over knows = asking-gave begun past heard [] sent (Primaries heard) errand due later first message knows
knows-gave begun past (Buries burial) errand due later sent first message over knows = burying-gave begun past burial due knows errand later sent first message
knows-gave begun past (Repairs repair) errand due later sent first message over knows = repairing-gave begun past repair due knows errand later sent first message
knows-gave begun past (Ends end) errand due later sent first message over knows = absurd (let none = over refl in cc (sym none ∙ first))

-- ---- an answer is heard

module _ (begun : Begun) (past : List Step) (sent : Sent) (answer : Option Reply) (is_open : open_at sent.ticket past ≡ Some sent) (errand : Errand) (about : errand_of sent.device sent.msg ≡ Some errand) (due : List Errand) where
  abbrev now : List Step
  now = Closed sent answer ∷ past

  -- a device was asked
  module _ (heard : Heard) (rest : List ℕ) (asking : Asking begun past heard due rest) where
    question : IsQuestion begun sent
    question = (found (IsQuestion begun) sent.ticket (opens past) sent is_open (opens-each (IsQuestion begun) past asking.questions)).0

    asked : Ask sent.device ≡ errand
    asked = same_Some (Ask sent.device) errand (sym (ap (errand_of sent.device) question) ∙ about)

    asked-told : (more : List Errand) → more ≡ [] → Asking begun now (heard_from heard sent.device answer) (due ++ more) rest
    asked-told more none =
        subst (λ these. Asking begun now (heard_from heard sent.device answer) these rest) (sym (ap (λ these. due ++ these) none ∙ append-nil due)) (asking-told begun past heard rest sent due answer question asking)

  handoffs-told : (heard : Heard) (after : Stage) (more : List Errand) → Asking begun past heard due (primaries begun) → Hears begun.cluster begun.place (Handoffs heard) errand answer after more → Knows begun now after (due ++ more)
  handoffs-told heard after more asking hears =
      let is = subst (λ (one : Errand). Hears begun.cluster begun.place (Handoffs heard) one answer after more) (sym (asked heard (primaries begun) asking)) hears in
      subst (λ (one : Stage). Knows begun now one (due ++ more)) (sym is.0) (asked-told heard (primaries begun) asking more is.1)

  primaries-told : (heard : Heard) (after : Stage) (more : List Errand) → Asking begun past heard due [] → Hears begun.cluster begun.place (Primaries heard) errand answer after more → Knows begun now after (due ++ more)
  primaries-told heard after more asking hears =
      let is = subst (λ (one : Errand). Hears begun.cluster begun.place (Primaries heard) one answer after more) (sym (asked heard [] asking)) hears in
      subst (λ (one : Stage). Knows begun now one (due ++ more)) (sym is.0) (asked-told heard [] asking more is.1)

-- the tombstone went to a primary
module _ (begun : Begun) (past : List Step) (run : IsRun (IsNext begun) past) (sent : Sent) (answer : Option Reply) (burial : Burial) (due : List Errand) (burying : Burying begun past burial due) where
  buries-told : (errand : Errand) (after : Stage) (more : List Errand) → IsUntold past errand → ToBury begun burying.heard burial.stamp errand → IsFor begun burial.stamp errand sent
      → Hears begun.cluster begun.place (Buries burial) errand answer after more → Knows begun (Closed sent answer ∷ past) after (due ++ more)
  buries-told (Delete device) after more untold todo (ticket, bytes, is) hears =
      subst (λ (one : Sent). Knows begun (Closed one answer ∷ past) after (due ++ more)) (sym is)
      (subst (λ (one : Stage). Knows begun (Closed (sent_for begun burial.stamp ticket bytes (Delete device)) answer ∷ past) one (due ++ more)) (sym hears.0)
      (subst (λ these. Knows begun (Closed (sent_for begun burial.stamp ticket bytes (Delete device)) answer ∷ past) (Buries (buried burial device (delete_verdict burial.stamp answer))) (due ++ these)) (sym hears.1)
      (burying-told begun past burial due burying device ticket answer todo run untold)))
  buries-told (Ask device) after more untold todo for hears = absurd todo
  buries-told (Fetch source) after more untold todo for hears = absurd todo
  buries-told (Store target) after more untold todo for hears = absurd todo
  buries-told (Commit target) after more untold todo for hears = absurd todo

-- an entry was to be made durable or stored, or an archive was fetched
module _ (begun : Begun) (valid : IsBegun begun) (past : List Step) (run : IsRun (IsNext begun) past) (answer : Option Reply) (repair : Repair) (due : List Errand) (repairing : Repairing begun past repair due) where
  fetch-told : (ticket : ℕ) (source : Target) (meaning : Meaning) → Contains repair.tried source → IsUntold past (Fetch source) → IsFetched begun.cluster begun.place repair source.index answer meaning
      → Repairing begun (Closed (record { ticket = ticket; device = source.device; msg = message.Fetch begun.place repair.stamp source.index }) answer ∷ past) (fetched repair source meaning)
      (due ++ due_fetched begun.cluster.policy.k repair source meaning)
  fetch-told ticket source (Brings archive) there untold is = repairing-brought begun past repair due repairing ticket source answer there untold archive is
  fetch-told ticket source (Loses how) there untold is = repairing-lost begun past repair due repairing ticket source answer there untold how is

  as-told : (sent : Sent) (one after : Repair) (these more : List Errand) → after ≡ one → more ≡ these → Repairing begun (Closed sent answer ∷ past) one (due ++ these) → Repairing begun (Closed sent answer ∷ past) after (due ++ more)
  as-told sent one after these more same due_is is =
      subst (λ (one : Repair). Repairing begun (Closed sent answer ∷ past) one (due ++ more)) (sym same) (subst (λ these. Repairing begun (Closed sent answer ∷ past) one (due ++ these)) (sym due_is) is)

  apart : AllPairs (λ a b. a ≢ b) (primaries begun)
  apart = valid.rules.apart begun.place.part (part_small begun valid)

  repair-told : (errand : Errand) (ticket : ℕ) (bytes : List ℕ) (after : Repair) (more : List Errand) → IsUntold past errand → ToRepair begun past repairing.heard repair errand → HearsRepair begun.cluster begun.place repair errand answer after more
      → Repairing begun (Closed (sent_for begun repair.stamp ticket bytes errand) answer ∷ past) after (due ++ more)
  repair-told (Commit target) ticket bytes after more untold todo hears =
      as-told (sent_for begun repair.stamp ticket bytes (Commit target)) (committed repair target (commit_verdict repair.stamp answer)) after [] more hears.0 hears.1
      (repairing-committed begun past repair due repairing apart run ticket target answer todo untold (is_lacking repair target.index) refl)
  repair-told (Store target) ticket bytes after more untold todo hears =
      let verdict = store_verdict repair.stamp answer in
      as-told (sent_for begun repair.stamp ticket bytes (Store target)) (stored repair target verdict) after (due_after target verdict) more hears.0 hears.1 (repairing-stored begun past repair due repairing apart run ticket target answer bytes todo untold)
  repair-told (Fetch source) ticket bytes after more untold todo hears =
      as-told (sent_for begun repair.stamp ticket bytes (Fetch source)) (fetched repair source hears.0) after (due_fetched begun.cluster.policy.k repair source hears.0) more hears.2 hears.3 (fetch-told ticket source hears.0 todo untold hears.1)
  repair-told (Ask device) ticket bytes after more untold todo hears = absurd todo
  repair-told (Delete device) ticket bytes after more untold todo hears = absurd todo

knows-told : (begun : Begun) (valid : IsBegun begun) (past : List Step) (run : IsRun (IsNext begun) past) (sent : Sent) (answer : Option Reply) (stage after : Stage) (errand : Errand) (due more : List Errand) → open_at sent.ticket past ≡ Some sent → errand_of sent.device sent.msg ≡ Some errand
    → Hears begun.cluster begun.place stage errand answer after more → (ends stage ≡ true → opens past ≡ []) → Knows begun past stage due → Knows begun (Closed sent answer ∷ past) after (due ++ more)
knows-told begun valid past run sent answer (Handoffs heard) after errand due more is_open about hears over knows = handoffs-told begun past sent answer is_open errand about due heard after more knows hears
knows-told begun valid past run sent answer (Primaries heard) after errand due more is_open about hears over knows = primaries-told begun past sent answer is_open errand about due heard after more knows hears
knows-told begun valid past run sent answer (Buries burial) after errand due more is_open about hears over knows =
    let own = does-open begun burial.stamp (ToBury begun knows.heard burial.stamp) past due sent errand knows.does is_open about in
    let untold = not-told begun burial.stamp (ToBury begun knows.heard burial.stamp) past due knows.once run sent errand is_open about own.0 in
    buries-told begun past run sent answer burial due knows errand after more untold own.0 own.1 hears
knows-told begun valid past run sent answer (Repairs repair) after errand due more is_open about hears over knows =
    let own = does-open begun repair.stamp (ToRepair begun past knows.heard repair) past due sent errand knows.does is_open about in
    let untold = not-told begun repair.stamp (ToRepair begun past knows.heard repair) past due knows.once run sent errand is_open about own.0 in
    subst (λ (one : Sent). Knows begun (Closed one answer ∷ past) after (due ++ more)) (sym own.1.2)
    (subst (λ (one : Stage). Knows begun (Closed (sent_for begun repair.stamp own.1.0 own.1.1 errand) answer ∷ past) one (due ++ more)) (sym hears.2)
    (repair-told begun valid past run answer repair due knows errand own.1.0 own.1.1 hears.0 more untold own.0 hears.1))
knows-told begun valid past run sent answer (Ends end) after errand due more is_open about hears over knows =
    absurd (none-some sent (ap (find (has_ticket sent.ticket)) (sym (over refl)) ∙ is_open))

-- ---- what follows once nothing is due and nothing is open

module _ (begun : Begun) (valid : IsBegun begun) (past : List Step) (run : IsRun (IsNext begun) past) (none : opens past ≡ []) where
  abbrev k : ℕ
  k = begun.cluster.policy.k

  closed-knows : (state : State) (b : Bool) → is_empty state.due ≡ b → KnowsState begun past state → (Knows begun past state.stage [] → KnowsState begun past (closed k state.stage))
      → KnowsState begun past (if b then closed k state.stage else state)
  closed-knows state true is knows closes = closes (subst (Knows begun past state.stage) (empty-is state.due is) knows)
  closed-knows state false is knows closes = knows

  planned-knows : (heard : Heard) → Asking begun past heard [] [] → KnowsState begun past (plan begun heard)
  planned-knows heard asking =
      let surveyed_now = surveyed begun valid past run heard none asking in
      by_plan begun heard (KnowsState begun past)
      (λ stamp own. closed-knows (burial_of (primaries begun) heard stamp) _ refl (burying-begun begun past heard stamp (valid.rules.apart begun.place.part (part_small begun valid)) run none asking.questions surveyed_now own) (λ knows. inr (inl (_, knows, refl))))
      (λ stamp own. closed-knows (repair_of k (total begun) (primaries begun) heard stamp) _ refl
      (repairing-begun begun past run none asking.questions heard surveyed_now stamp (bounds begun.cluster.policy valid.rules.policy).some_data own) (λ knows. inr (inr (_, knows, refl))))
      (λ own. inl (heard, surveyed_now, inl (own, refl)))
      (λ nothing. inl (heard, surveyed_now, inr (inl (nothing, refl))))
      (λ best newer. inl (heard, surveyed_now, inr (inr (best, newer, refl))))

  advanced-knows : (stage : Stage) → Knows begun past stage [] → KnowsState begun past (advanced begun stage)
  advanced-knows (Handoffs heard) knows = asking-primaries begun past run none heard knows
  advanced-knows (Primaries heard) knows = planned-knows heard knows
  advanced-knows (Buries burial) knows = inr (inl (burial, knows, refl))
  advanced-knows (Repairs repair) knows = inr (inr (repair, knows, refl))
  advanced-knows (Ends end) knows = knows

-- ---- each transcript

module _ (begun : Begun) (valid : IsBegun begun) where
  settled-by : (past : List Step) (run : IsRun (IsNext begun) past) (state : State) (waiting empty : Bool) → is_waiting past ≡ waiting → is_empty state.due ≡ empty → KnowsState begun past state
      → KnowsState begun past (if empty && not waiting then advanced begun state.stage else state)
  settled-by past run state true true waits due knows = knows
  settled-by past run state true false waits due knows = knows
  settled-by past run state false true waits due knows =
      advanced-knows begun valid past run (none-open past waits) state.stage (subst (Knows begun past state.stage) (empty-is state.due due) knows)
  settled-by past run state false false waits due knows = knows

  pub known : (past : List Step) → IsRun (IsNext begun) past → (state : State) → IsState begun past state → KnowsState begun past state
  known [] run state is = subst (KnowsState begun []) (sym is) (settled-by [] run (beginning begun) false (is_empty (beginning begun).due) refl refl (asking-begun begun))
  known (Gave sent ∷ past) run state is =
      let over = over_settled begun valid past is.0 is.1 in
      subst (KnowsState begun (Gave sent ∷ past)) (sym is.2.after_is)
      (knows-gave begun past is.0.stage is.2.errand is.0.due is.2.later sent is.2.first is.2.message (λ so. (over so).1) (known past run.1 is.0 is.1))
  known (Closed sent answer ∷ past) run state is =
      let over = over_settled begun valid past is.0 is.1 in
      let takes = is.3 in
      subst (KnowsState begun (Closed sent answer ∷ past)) (sym is.4)
      (settled-by (Closed sent answer ∷ past) run is.2 (is_waiting (Closed sent answer ∷ past)) (is_empty is.2.due) refl refl
      (subst (KnowsState begun (Closed sent answer ∷ past)) (sym takes.after_is)
      (knows-told begun valid past run.1 sent answer is.0.stage takes.stage takes.errand is.0.due takes.more run.0 takes.about takes.hears (λ so. none-open past (over so).0) (known past run.1 is.0 is.1))))
