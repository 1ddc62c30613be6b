-- A job has asked its own device before it is over.
use Rattle.std.proofs.Common.{◌≡◌, ◌⊎◌, inl, inr, ◌&&◌, Bool, true, false, not, Contains, List, [], ◌∷◌, ◌++◌, Option, Some, refl, sym, subst}
use Rattle.std.specs.Prelude.{if◌then◌else◌, ⊤}
use Rattle.std.proofs.lemmas.Bool.{and_parts}
use Rattle.std.proofs.lemmas.List.Elements.{Contains-append_left}
use Rattle.sw_hashpath.specs.Place.{PlaceModel}
use Rattle.sw_ring.proofs.Among.{Contains-cons, Contains-from_among}
use Rattle.sw_message.specs.Message.{is_primary}
use Rattle.sw_message.specs.Transcript.{Closed, Gave, IsRun, Step, given, is_waiting}
use Rattle.sw_message.specs.declared.message.Msg.TheVariants as message
use Rattle.sw_message.specs.declared.reply.Reply.{Reply}
use Rattle.sw_message.specs.declared.reply.Reply.TheVariants as reply
use Rattle.sw_message.specs.declared.sent.Sent.{Sent}
use Rattle.sw_gather.proofs.Lists.{first_or_later, here, in_map, none_in}
use Rattle.sw_recon.specs.Revert as reverts
use Rattle.sw_recon.specs.declared.revert_end.RevertEnd.{RevertEnd}
use Rattle.sw_recon.specs.declared.revert_end.RevertEnd.TheVariants.{Done, Unanswered}
use Rattle.sw_recon.specs.declared.status.Status.TheVariants as status
use Rattle.sw_recon.proofs.Known as recon
use Rattle.sw_sync.specs.State.{State}
use Rattle.sw_sync.specs.Sync as syncs
use Rattle.sw_sync.specs.Sync.{Hears, IsMessage, advanced, plan, primaries, settled}
use Rattle.sw_sync.specs.declared.errand.Errand.{Errand}
use Rattle.sw_sync.specs.declared.errand.Errand.TheVariants.{Ask}
use Rattle.sw_sync.specs.declared.stage.Stage.{Stage}
use Rattle.sw_sync.specs.declared.stage.Stage.TheVariants.{Handoffs, Primaries}
use Rattle.sw_sync.specs.declared.sync_end.SyncEnd.{SyncEnd}
use Rattle.sw_sync.proofs.Ending.{empty-is}
use Rattle.sw_sync.proofs.Messages.{all-told, as-told, none-open}
use Rattle.sw_daemon.specs.Causes.{WasAsked}
use Rattle.sw_daemon.specs.Pass as passes
use Rattle.sw_daemon.specs.Pass.{treats}
use Rattle.sw_daemon.specs.Stage as stages
use Rattle.sw_daemon.specs.Stage.{End, Reverted, Synced}

-- ---- syncs

module _ (begun : syncs.Begun) where
  record OwnGiven (past : List Step) : Type 0 where
    pub sent : Sent
    pub there : Contains (given past) sent
    pub to_own : sent.device ≡ begun.device
    pub asks : sent.msg ≡ message.Ask begun.place

  -- as primaries are asked, the own device was asked or is due; it was asked once they were
  abbrev AsksOwn : List Step → Stage → List Errand → Type 0
  AsksOwn past (Handoffs heard) due = ⊤
  AsksOwn past (Primaries heard) due = Contains due (Ask begun.device) ⊎ OwnGiven past
  AsksOwn past other due = OwnGiven past

  abbrev AsksIn : List Step → State → Type 0
  AsksIn past state = AsksOwn past state.stage state.due

  once-given : (past : List Step) (stage : Stage) (due : List Errand) → OwnGiven past → AsksOwn past stage due
  once-given past (Handoffs heard) due was = tt
  once-given past (Primaries heard) due was = inr was
  once-given past other due was = was

  given-later : (past : List Step) (sent : Sent) → OwnGiven past → OwnGiven (Gave sent ∷ past)
  given-later past sent was = record { sent = was.sent; there = Contains-cons was.sent sent (given past) was.there; to_own = was.to_own; asks = was.asks }

  told-given : (past : List Step) (sent : Sent) (answer : Option Reply) → OwnGiven past → OwnGiven (Closed sent answer ∷ past)
  told-given past sent answer was = record { sent = was.sent; there = was.there; to_own = was.to_own; asks = was.asks }

  told-asks : (past : List Step) (sent : Sent) (answer : Option Reply) (stage : Stage) (due : List Errand) → AsksOwn past stage due → AsksOwn (Closed sent answer ∷ past) stage due
  told-asks past sent answer (Handoffs heard) due is = tt
  told-asks past sent answer (Primaries heard) due (inl there) = inl there
  told-asks past sent answer (Primaries heard) due (inr was) = inr (told-given past sent answer was)
  told-asks past sent answer other due is = told-given past sent answer is

  gave-asks : (past : List Step) (sent : Sent) (stage : Stage) (errand : Errand) (later : List Errand) → IsMessage begun stage errand sent.device sent.msg → AsksOwn past stage (errand ∷ later) → AsksOwn (Gave sent ∷ past) stage later
  gave-asks past sent (Handoffs heard) errand later message is = tt
  gave-asks past sent (Primaries heard) errand later message (inr was) = inr (given-later past sent was)
  gave-asks past sent (Primaries heard) errand later message (inl there) = elim (first_or_later errand later (Ask begun.device) there) [
    | inl same ↦
        let asked = subst (λ (one : Errand). IsMessage begun (Primaries heard) one sent.device sent.msg) same message in
        inr (record { sent = sent; there = here sent (given past); to_own = asked.0; asks = asked.1 })
    | inr rest ↦ inl rest
  ]
  gave-asks past sent other errand later message is = given-later past sent is

  hears-asks : (past : List Step) (stage : Stage) (errand : Errand) (answer : Option Reply) (after : Stage) (due more : List Errand) → Hears begun.cluster begun.place stage errand answer after more → AsksOwn past stage due
      → AsksOwn past after (due ++ more)
  hears-asks past (Handoffs heard) (Ask device) answer after due more hears is = subst (λ (one : Stage). AsksOwn past one (due ++ more)) (sym hears.0) tt
  hears-asks past (Handoffs heard) other answer after due more hears is = subst (λ (one : Stage). AsksOwn past one (due ++ more)) (sym hears.0) tt
  hears-asks past (Primaries heard) errand answer after due more hears (inr was) = once-given past after (due ++ more) was
  hears-asks past (Primaries heard) (Ask device) answer after due more hears (inl there) = subst (λ (one : Stage). AsksOwn past one (due ++ more)) (sym hears.0) (inl (Contains-append_left due more (Ask begun.device) there))
  hears-asks past (Primaries heard) other answer after due more hears (inl there) = subst (λ (one : Stage). AsksOwn past one (due ++ more)) (sym hears.0) (inl (Contains-append_left due more (Ask begun.device) there))
  hears-asks past other errand answer after due more hears is = once-given past after (due ++ more) is

  module _ (primary : is_primary begun.cluster begun.device begun.place ≡ true) where
    advanced-asks : (past : List Step) (stage : Stage) → AsksOwn past stage [] → AsksIn past (advanced begun stage)
    advanced-asks past (Handoffs heard) is = inl (in_map Ask (primaries begun) begun.device (Contains-from_among (primaries begun) begun.device primary))
    advanced-asks past (Primaries heard) (inl there) = absurd (none_in (Ask begun.device) there)
    advanced-asks past (Primaries heard) (inr was) = once-given past (plan begun heard).stage (plan begun heard).due was
    advanced-asks past other is = once-given past (advanced begun other).stage (advanced begun other).due is

    settled-asks : (past : List Step) (waits : Bool) (state : State) → AsksIn past state → AsksIn past (settled begun waits state)
    settled-asks past waits state is = by_test (syncs.is_empty state.due && not waits) refl
      where
        by_test : (b : Bool) → (syncs.is_empty state.due && not waits) ≡ b → AsksIn past (if b then advanced begun state.stage else state)
        by_test true empty = advanced-asks past state.stage (subst (AsksOwn past state.stage) (empty-is state.due (and_parts (syncs.is_empty state.due) (not waits) empty).0) is)
        by_test false other = is

    asks-in : (past : List Step) (state : State) → syncs.IsState begun past state → AsksIn past state
    asks-in [] state is = subst (AsksIn []) (sym is) (settled-asks [] false (syncs.beginning begun) tt)
    asks-in (Gave sent ∷ past) state (before, was, hands) =
        subst (AsksIn (Gave sent ∷ past)) (sym hands.after_is)
        (gave-asks past sent before.stage hands.errand hands.later hands.message (subst (AsksOwn past before.stage) hands.first (asks-in past before was)))
    asks-in (Closed sent answer ∷ past) state (before, was, after, takes, state_is) =
        let now = Closed sent answer ∷ past in
        subst (AsksIn now) (sym state_is)
        (settled-asks now (is_waiting now) after (subst (AsksIn now) (sym takes.after_is)
        (hears-asks now before.stage takes.errand answer takes.stage before.due takes.more takes.hears (told-asks past sent answer before.stage before.due (asks-in past before was)))))

    sync-asked : (past : List Step) (end : SyncEnd) → IsRun (syncs.IsNext begun) past → syncs.IsEnd begun past end → WasAsked past begun.device (message.Ask begun.place)
    sync-asked past end run (waits, state, is, ended) =
        let was : OwnGiven past = subst (λ (stage : Stage). AsksOwn past stage state.due) ended (asks-in past state is) in
        let told = all-told begun past run (none-open past waits) was.sent was.there in (
          told.0,
          as-told past was.sent begun.device (message.Ask begun.place) told.0 was.to_own was.asks told.1,
        )

-- ---- reverts

module _ (begun : reverts.Begun) (past : List Step) where
  revert-asked : (end : RevertEnd) → recon.Knows begun past (status.Ends end) → WasAsked past begun.device (message.Ask begun.place)
  revert-asked (Done removed kept) knows = (Some (reply.Held knows.listing), (0, knows.own))
  revert-asked (Unanswered device) knows = (knows.answer, (0, knows.told))

-- ---- jobs

pub job-asked : (begun : passes.Begun) (place : PlaceModel) (own : List Step) (primary : Bool) → is_primary begun.cluster begun.device place ≡ primary → IsRun (stages.IsNext (treats begun place primary)) own
    → (end : End) → stages.IsEnd (treats begun place primary) own end → WasAsked own begun.device (message.Ask place)
job-asked begun place own true primary run (Synced end) ends = sync-asked (record { cluster = begun.cluster; device = begun.device; place = place }) primary own end run ends
job-asked begun place own false other run (Reverted end) ends =
    let job : reverts.Begun = record { cluster = begun.cluster; device = begun.device; place = place } in revert-asked job own end (recon.known job own (status.Ends end) run ends.1)
job-asked begun place own true primary run end ends = absurd ends
job-asked begun place own false other run end ends = absurd ends
