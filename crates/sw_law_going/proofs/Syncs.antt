-- A sync comes to rest from every transcript: each answer leads to a state, and what is due in one is handed out, which makes no more due.
use Rattle.std.proofs.Common.{◌≡◌, inl, inr, ℕ, zero, suc, ◌≤◌, Bool, true, false, List, [], ◌∷◌, ◌++◌, length, Option, Some, None, refl, sym, ap, subst, arith}
use Rattle.std.specs.Prelude.{⊤}
use Rattle.std.specs.List.{All}
use Rattle.std.proofs.lemmas.List.Elements.{All-cons, All-head, All-nil, All-weaker}
use Rattle.sw_types.proofs.Policies.{bounds}
use Rattle.sw_archive.specs.Archive.{ArchiveModel}
use Rattle.sw_archive.specs.Assemble.{AreTogether}
use Rattle.sw_message.specs.Learnt.{Booked, IsOfBook, IsSoundBook}
use Rattle.sw_message.specs.Miss.{miss_of}
use Rattle.sw_message.specs.Transcript.{Closed, Gave, IsRun, Step, given, is_waiting, open_at, opens}
use Rattle.sw_message.specs.declared.message.Msg.{Msg}
use Rattle.sw_message.specs.declared.message.Msg.TheVariants as message
use Rattle.sw_message.specs.declared.miss.Miss.TheVariants as miss
use Rattle.sw_message.specs.declared.reply.Reply.{Reply}
use Rattle.sw_message.specs.declared.reply.Reply.TheVariants as reply
use Rattle.sw_message.specs.declared.sent.Sent.{Sent}
use Rattle.sw_message.specs.declared.spoil.Foreign.TheVariants as foreign
use Rattle.sw_message.specs.declared.spoil.Spoil.TheVariants as spoil
use Rattle.sw_quorum.proofs.Transcripts.{found}
use Rattle.sw_quorum.specs.Verdicts.{commit_verdict, delete_verdict, store_verdict}
use Rattle.sw_sync.specs.Answers.{WasBrought}
use Rattle.sw_sync.specs.Parts.{Repair}
use Rattle.sw_sync.specs.State.{State}
use Rattle.sw_sync.specs.Sync as syncs
use Rattle.sw_sync.specs.Sync.{Begun, Brings, Hands, Hears, HearsRepair, IsBegun, IsFetched, IsMessage, IsNext, IsState, Loses, Meaning, beginning, buried, committed, due_after, due_fetched, errand_of, fetched, heard_from, next_of, settled, stored}
use Rattle.sw_sync.specs.declared.errand.Errand.{Errand}
use Rattle.sw_sync.specs.declared.errand.Errand.TheVariants.{Ask, Commit, Delete, Fetch, Store}
use Rattle.sw_sync.specs.declared.stage.Stage.{Stage}
use Rattle.sw_sync.specs.declared.stage.Stage.TheVariants.{Buries, Handoffs, Primaries, Repairs}
use Rattle.sw_sync.proofs.Errands.{IsFor, does-open}
use Rattle.sw_sync.proofs.Known.{Knows, known}
use Rattle.sw_sync.proofs.Machine.{fits}
use Rattle.sw_sync.proofs.Messages.{opens-each}
use Rattle.sw_sync.proofs.Repairing.{ToRepair}
use Rattle.sw_sync.proofs.Together.{StageTogether, state-together}
use Rattle.sw_operation.specs.Operating.{Sync}
use Rattle.sw_core.specs.World.{Rests}
use Rattle.sw_law_going.proofs.Brought.{AnswerBrings, AreStored, earlier_stored, last_brings}
use Rattle.sw_law_going.proofs.Further.{rebuilds}
use Rattle.sw_law_going.proofs.Puts.{right_or_strays}
use Rattle.sw_law_going.proofs.Rests.{ComesToRest, StopsOrGoes, comes_to_rest}

module _ (begun : Begun) where
  -- ---- what is handed out is about an errand

  abbrev HasErrand : Sent → Type 0
  HasErrand sent = (errand : Errand) × (errand_of sent.device sent.msg ≡ Some errand)

  about : (stage : Stage) (errand : Errand) (device : ℕ) (msg : Msg) → IsMessage begun stage errand device msg → (one : Errand) × (errand_of device msg ≡ Some one)
  about stage (Ask asked) device msg is = (Ask device, ap (errand_of device) is.1)
  about (Buries burial) (Delete primary) device msg is = (Delete device, ap (errand_of device) is.1)
  about (Repairs repair) (Fetch source) device msg is = (Fetch (record { index = source.index; device = device }), ap (errand_of device) is.1)
  about (Repairs repair) (Commit target) device msg is = (Commit (record { index = target.index; device = device }), ap (errand_of device) is.1)
  about (Repairs repair) (Store target) device msg is = (Store (record { index = target.index; device = device }), ap (errand_of device) is.3)
  about stage errand device msg is = absurd is

  given_about : (past : List Step) → IsRun (IsNext begun) past → All HasErrand (given past)
  given_about [] run = All-nil HasErrand
  given_about (Gave sent ∷ past) run =
      let hands = run.0.2.2 in
      All-cons HasErrand sent (given past) (about run.0.0.stage hands.errand sent.device sent.msg hands.message) (given_about past run.1)
  given_about (Closed sent answer ∷ past) run = given_about past run.1

  module _ (valid : IsBegun begun) (book : List Booked) (sound : IsSoundBook begun.cluster.policy book) where
    abbrev IsPutOne : ArchiveModel → Type 0
    IsPutOne archive = IsOfBook begun.cluster book archive

    -- ---- what an answer leads to

    module _ (repair : Repair) (together : AreTogether repair.archives) (are : All IsPutOne repair.archives) where
      -- bytes that a fetch at the repair's stamp brought are an archive of a put
      abbrev ErrandBrings : Errand → Option Reply → Type 0
      ErrandBrings (Fetch source) answer = AnswerBrings begun.cluster book (message.Fetch begun.place repair.stamp source.index) answer
      ErrandBrings errand answer = ⊤

      for_errand : (errand : Errand) (sent : Sent) (answer : Option Reply) → IsFor begun repair.stamp errand sent → AnswerBrings begun.cluster book sent.msg answer → ErrandBrings errand answer
      for_errand (Fetch source) sent answer for brings = subst (λ (one : Sent). AnswerBrings begun.cluster book one.msg answer) for.2 brings
      for_errand errand sent answer for brings = tt

      means : (index : ℕ) (answer : Option Reply) → AnswerBrings begun.cluster book (message.Fetch begun.place repair.stamp index) answer → (meaning : Meaning) × IsFetched begun.cluster begun.place repair index answer meaning
      means index None brings = (Loses miss.NoReply, refl)
      means index (Some (reply.Fragment bytes)) brings =
          let archive = brings.is.archive in
          let spelled = brings.is.spelled in
          let some = (bounds begun.cluster.policy valid.rules.policy).some_data in
          elim (right_or_strays begun.cluster book sound some repair.archives are together archive (brings.of archive spelled) spelled.sound) [
            | inl right ↦ (Brings archive, ((spelled, brings.is.asked), right.0, right.1))
            | inr strays ↦ (Loses (miss.Spoiled (spoil.Foreign foreign.Object)), (archive, (spelled, brings.is.asked), strays))
          ]
      means index (Some (reply.Gone listing)) brings = (Loses miss.Gone, refl)
      means index (Some other) brings = (Loses (miss_of other), refl)

      hears_repair : (errand : Errand) (answer : Option Reply) → ErrandBrings errand answer → (after : Repair) × (more : List Errand) × HearsRepair begun.cluster begun.place repair errand answer after more
      hears_repair (Commit target) answer brings = (committed repair target (commit_verdict repair.stamp answer), [], (refl, refl))
      hears_repair (Store target) answer brings = (stored repair target (store_verdict repair.stamp answer), due_after target (store_verdict repair.stamp answer), (refl, refl))
      hears_repair (Fetch source) answer brings =
          let meaning = means source.index answer brings in
          (fetched repair source meaning.0, due_fetched begun.cluster.policy.k repair source meaning.0, (meaning.0, meaning.1, refl, refl))
      hears_repair errand answer brings = (repair, [], (refl, refl))

    -- the archives of a stage are those of puts
    abbrev StageOfPuts : Stage → Type 0
    StageOfPuts (Repairs repair) = All IsPutOne repair.archives
    StageOfPuts stage = ⊤

    module _ (past : List Step) (stored_there : AreStored begun.cluster book past) where
      brought_so : (stamp : ℕ) (archive : ArchiveModel) → WasBrought begun past stamp archive → IsPutOne archive
      brought_so stamp archive was =
          (stored_there (record { ticket = was.told.0; device = was.device; msg = message.Fetch begun.place stamp archive.index }) (reply.Fragment was.bytes) was.told.1).of archive was.is.is

      stage_so : (stage : Stage) (due : List Errand) → Knows begun past stage due → StageOfPuts stage
      stage_so (Repairs repair) due knows = All-weaker (WasBrought begun past repair.stamp) IsPutOne (brought_so repair.stamp) repair.archives knows.gathers.brought.each
      stage_so stage due knows = tt

      module _ (sent : Sent) (is_open : open_at sent.ticket past ≡ Some sent) (answer : Option Reply) (brings : AnswerBrings begun.cluster book sent.msg answer) (due : List Errand) where
        hears_so : (stage : Stage) (errand : Errand) → errand_of sent.device sent.msg ≡ Some errand → Knows begun past stage due → StageTogether stage
            → (after : Stage) × (more : List Errand) × Hears begun.cluster begun.place stage errand answer after more
        hears_so (Handoffs heard) (Ask device) is knows together = (Handoffs (heard_from heard device answer), [], (refl, refl))
        hears_so (Primaries heard) (Ask device) is knows together = (Primaries (heard_from heard device answer), [], (refl, refl))
        hears_so (Buries burial) (Delete device) is knows together = (Buries (buried burial device (delete_verdict burial.stamp answer)), [], (refl, refl))
        hears_so (Repairs repair) errand is knows together =
            let own = does-open begun repair.stamp (ToRepair begun past knows.heard repair) past due sent errand knows.does is_open is in
            let are = stage_so (Repairs repair) due knows in
            let next = hears_repair repair together are errand answer (for_errand repair together are errand sent answer own.1 brings) in
            (Repairs next.0, next.1, (next.0, next.2, refl))
        hears_so stage errand is knows together = (stage, [], (refl, refl))

    -- ---- states

    state_of : (past : List Step) → IsRun (IsNext begun) past → AreStored begun.cluster book past → (state : State) × IsState begun past state
    state_of [] run are = (settled begun false (beginning begun), refl)
    state_of (Gave sent ∷ past) run are = (run.0.2.1, (run.0.0, run.0.1, run.0.2.2))
    state_of (Closed sent answer ∷ past) run are =
        let earlier = earlier_stored begun.cluster book (Closed sent answer) past are in
        let before = state_of past run.1 earlier in
        let own = (found HasErrand sent.ticket (opens past) sent run.0 (opens-each HasErrand past (given_about past run.1))).0 in
        let next = hears_so past earlier sent run.0 answer (last_brings begun.cluster book sent answer past are) before.0.due before.0.stage own.0 own.1
        (known begun valid past run.1 before.0 before.1) (state-together begun past before.0 before.1) in
        let after : State = record { stage = next.0; due = before.0.due ++ next.1 } in (
          settled begun (is_waiting (Closed sent answer ∷ past)) after,
          (before.0, before.1, after, record { errand = own.0; about = own.1; stage = next.0; more = next.1; hears = next.2; after_is = refl }, refl),
        )

    -- ---- what is due is handed out

    message_for : (stage : Stage) (errand : Errand) → syncs.Fits stage errand → StageTogether stage → (device : ℕ) × (msg : Msg) × IsMessage begun stage errand device msg
    message_for stage (Ask device) fits together = (device, message.Ask begun.place, (refl, refl))
    message_for (Buries burial) (Delete device) fits together = (device, message.Delete begun.place burial.stamp, (refl, refl))
    message_for (Repairs repair) (Fetch source) fits together = (source.device, message.Fetch begun.place repair.stamp source.index, (refl, refl))
    message_for (Repairs repair) (Commit target) fits together = (target.device, message.Commit begun.place repair.stamp target.index, (refl, refl))
    message_for (Repairs repair) (Store target) fits together =
        let made = rebuilds repair.archives together fits.0 target.index fits.1 in
        (target.device, message.PutFrag begun.place repair.stamp target.index made.0, (made.0, made.1, refl, refl))
    message_for stage errand fits together = absurd fits

    -- at most so many are due
    record Fits (left : ℕ) (past : List Step) : Type 0 where
      state : State
      is_state : IsState begun past state
      few : length state.due ≤ left

    rests_by : (past : List Step) (state : State) → IsState begun past state → state.due ≡ [] → (waits : Bool) → is_waiting past ≡ waits → (is_over : Bool) × Rests (Sync begun) past is_over
    rests_by past state is none true waits = (false, (state, is, (none, ap next_of (sym waits))))
    rests_by past state is none false waits = (true, (state, is, (none, ap next_of (sym waits))))

    goes_by : (left : ℕ) (past : List Step) (state : State) → IsState begun past state → length state.due ≤ left → (due : List Errand) → state.due ≡ due → StopsOrGoes (Sync begun) Fits left past
    goes_by left past state is few [] first = inl (rests_by past state is first (is_waiting past) refl)
    goes_by zero past state is few (errand ∷ later) first = absurd (omega (arith, few, ap length first))
    goes_by (suc left) past state is few (errand ∷ later) first =
        let fit = All-head (syncs.Fits state.stage) errand later (subst (All (syncs.Fits state.stage)) first (fits begun valid past state is)) in
        let made = message_for state.stage errand fit (state-together begun past state is) in
        let sent : Sent = record { ticket = length (given past); device = made.0; msg = made.1 } in
        let after : State = record state { due = later } in
        let hands : Hands begun state sent after = record { errand = errand; later = later; first = first; message = made.2; after_is = refl } in
        inr (sent, (state, is, (refl, after, hands)), left, omega arith, record { state = after; is_state = (state, is, hands); few = omega (arith, few, ap length first) })

    pub sync_rests : (past : List Step) → IsRun (IsNext begun) past → AreStored begun.cluster book past → ComesToRest (Sync begun) past
    sync_rests past run are =
        let state = state_of past run are in
        comes_to_rest (Sync begun) Fits (λ left past fits. goes_by left past fits.state fits.is_state fits.few fits.state.due refl) (length state.0.due) past
        (record { state = state.0; is_state = state.1; few = omega arith })
