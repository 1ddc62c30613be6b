-- What is handed out may be sent, by what was answered before.
use Rattle.std.proofs.Common.{◌≡◌, inl, inr, ℕ, true, Contains, List, [], ◌∷◌, Some, refl, sym, ap, subst, ◌∙◌}
use Rattle.std.proofs.lemmas.List.Elements.{All-contains}
use Rattle.sw_message.specs.Floors.{durable_at}
use Rattle.sw_message.specs.Transcript.{Hand, IsFirst, IsRun, Step, given}
use Rattle.sw_message.specs.declared.message.Msg.{Msg}
use Rattle.sw_message.specs.declared.message.Msg.TheVariants as message
use Rattle.sw_message.specs.declared.sent.Sent.{Sent}
use Rattle.sw_message.specs.declared.target.Target.{Target}
use Rattle.sw_gather.specs.Choices.{firsts}
use Rattle.sw_gather.proofs.Sources.{indices_of}
use Rattle.sw_sync.specs.Answers.{IsOwnFloor, IsSource}
use Rattle.sw_sync.specs.Parts.{Burial, Heard, Repair}
use Rattle.sw_sync.specs.Sends.{MayCommit, MayFetch, MaySend, MayStore}
use Rattle.sw_sync.specs.Standing.{ends}
use Rattle.sw_sync.specs.Sync.{Begun, IsBegun, IsMessage, IsNext, IsRebuilt, errand_of, primaries}
use Rattle.sw_sync.specs.declared.errand.Errand.{Errand}
use Rattle.sw_sync.specs.declared.errand.Errand.TheVariants.{Ask, Commit, Delete, Fetch, Store}
use Rattle.sw_sync.specs.declared.stage.Stage.{Stage}
use Rattle.sw_sync.specs.declared.stage.Stage.TheVariants.{Buries, Ends, Handoffs, Primaries, Repairs}
use Rattle.sw_sync.proofs.Asking.{Asking, asking-first, asking-may, asking-member}
use Rattle.sw_sync.proofs.Burying as bury
use Rattle.sw_sync.proofs.Burying.{Burying, ToBury, may-delete}
use Rattle.sw_sync.proofs.Ending.{over_settled}
use Rattle.sw_sync.proofs.Firsts.{about-for, alike-errands, not-given}
use Rattle.sw_sync.proofs.Known.{Knows, known}
use Rattle.sw_sync.proofs.Listed.{are-indices, choices-listed, lacks, many-indices, some-lacking}
use Rattle.sw_sync.proofs.Repairing as repairs
use Rattle.sw_sync.proofs.Repairing.{Repairing, ToRepair}
use Rattle.sw_sync.proofs.Shows.{lists-plain, own-floor}
use Rattle.sw_sync.proofs.Warrants.{head-of}

-- ---- what a repair hands out

module _ (begun : Begun) (past : List Step) (repair : Repair) (due : List Errand) (repairing : Repairing begun past repair due) where
  repair-floor : IsOwnFloor begun past (durable_at repair.stamp)
  repair-floor = own-floor begun past repairing.heard repairing.surveyed (durable_at repair.stamp) repairing.own

  may-fetch : (source : Target) → Contains repair.tried source → MayFetch begun past source repair.stamp
  may-fetch source there =
      let worth = repairing.gathers.worth source there in
      let one = some-lacking repair worth.0 in
      record {
        answered = repairing.surveyed.answered;
        own = repair-floor;
        listed = All-contains (IsSource begun past repair.stamp) repair.choices source (choices-listed begun past repair due repairing) (All-contains (Contains repair.choices) repair.tried source repairing.gathers.chosen there);
        target = one.0;
        lacks = lacks begun past repair due repairing one.0 one.1;
        indices = indices_of (firsts repair.choices);
        indices_are = are-indices begun past repair due repairing;
        enough = many-indices begun past repair due repairing worth.1;
      }

  may-store : (target : Target) → ToRepair begun past repairing.heard repair (Store target) → (bytes : List ℕ) → IsRebuilt repair.archives target.index bytes → MayStore begun past target repair.stamp bytes
  may-store target todo bytes rebuilt = record {
    answered = repairing.surveyed.answered;
    own = repair-floor;
    lacks = lacks begun past repair due repairing target todo.0;
    rebuilt = record { archives = repair.archives; brought = repairing.gathers.brought; enough = todo.1; further = rebuilt.further };
  }

  may-commit : (target : Target) → ToRepair begun past repairing.heard repair (Commit target) → MayCommit begun past target repair.stamp
  may-commit target (inl plain) = record {
    answered = repairing.surveyed.answered;
    own = repair-floor;
    there = inl (lists-plain begun past repairing.heard repairing.surveyed repair.stamp target plain.0 plain.1);
  }
  may-commit target (inr (lacking, (bytes, told))) = record {
    answered = repairing.surveyed.answered;
    own = repair-floor;
    there = inr (record { lacked = lacks begun past repair due repairing target lacking; bytes = bytes; told = told });
  }

-- ---- what is handed out

module _ (begun : Begun) (past : List Step) (sent : Sent) where
  abbrev May : Type 0
  May = MaySend begun past sent.device sent.msg

  -- a message to a device
  may-so : (device : ℕ) (msg : Msg) → sent.device ≡ device → sent.msg ≡ msg → MaySend begun past device msg → May
  may-so device msg of is may = subst (λ n. MaySend begun past n sent.msg) (sym of) (subst (MaySend begun past device) (sym is) may)

  bury-may : (burial : Burial) (due : List Errand) (burying : Burying begun past burial due) (errand : Errand) → ToBury begun burying.heard burial.stamp errand → IsMessage begun (Buries burial) errand sent.device sent.msg → May
  bury-may burial due burying (Delete device) todo asks =
      may-so device (message.Delete begun.place burial.stamp) asks.0 asks.1 (refl, may-delete begun past burial due burying device todo)
  bury-may burial due burying (Ask device) todo asks = absurd todo
  bury-may burial due burying (Fetch source) todo asks = absurd todo
  bury-may burial due burying (Store target) todo asks = absurd todo
  bury-may burial due burying (Commit target) todo asks = absurd todo

  repair-may : (repair : Repair) (due : List Errand) (repairing : Repairing begun past repair due) (errand : Errand) → ToRepair begun past repairing.heard repair errand → IsMessage begun (Repairs repair) errand sent.device sent.msg
      → May
  repair-may repair due repairing (Fetch source) todo asks =
      may-so source.device (message.Fetch begun.place repair.stamp source.index) asks.0 asks.1 (refl, may-fetch begun past repair due repairing source todo)
  repair-may repair due repairing (Store target) todo asks =
      may-so target.device (message.PutFrag begun.place repair.stamp target.index asks.0) asks.2 asks.3 (refl, may-store begun past repair due repairing target todo asks.0 asks.1)
  repair-may repair due repairing (Commit target) todo asks =
      may-so target.device (message.Commit begun.place repair.stamp target.index) asks.0 asks.1 (refl, may-commit begun past repair due repairing target todo)
  repair-may repair due repairing (Ask device) todo asks = absurd todo
  repair-may repair due repairing (Delete device) todo asks = absurd todo

  module _ (valid : IsBegun begun) (due later : List Errand) (errand : Errand) (first : due ≡ errand ∷ later) where
    ask-may : (heard : Heard) (rest : List ℕ) (stage : Stage) → IsMessage begun stage errand sent.device sent.msg → Asking begun past heard due rest → May
    ask-may heard rest stage asks asking =
        may-so sent.device (message.Ask begun.place) refl (asking-member begun valid past heard due later rest sent stage errand first asks asking).1
        (refl, asking-may begun valid past heard due later rest sent stage errand first asks asking)

    may-by : (stage : Stage) → IsMessage begun stage errand sent.device sent.msg → (ends stage ≡ true → due ≡ []) → Knows begun past stage due → May
    may-by (Handoffs heard) asks over knows = ask-may heard (primaries begun) (Handoffs heard) asks knows
    may-by (Primaries heard) asks over knows = ask-may heard [] (Primaries heard) asks knows
    may-by (Buries burial) asks over knows =
        bury-may burial due knows errand (head-of begun valid sent past due later errand first (ToBury begun knows.heard burial.stamp) knows.does.sought) asks
    may-by (Repairs repair) asks over knows =
        repair-may repair due knows errand (head-of begun valid sent past due later errand first (ToRepair begun past knows.heard repair) knows.does.sought) asks
    may-by (Ends end) asks over knows = absurd (let none = over refl in cc (sym none ∙ first))

    -- and was not handed out before
    abbrev NotGiven : Type 0
    NotGiven = (other : Sent) → Contains (given past) other → errand_of other.device other.msg ≡ Some errand → ⊥

    as-first : NotGiven → errand_of sent.device sent.msg ≡ Some errand → IsFirst past sent
    as-first none about other there same alike =
        none other there (ap (λ n. errand_of n other.msg) same ∙ alike-errands sent.device other.msg sent.msg alike ∙ about)

    first-by : (stage : Stage) → IsMessage begun stage errand sent.device sent.msg → (ends stage ≡ true → due ≡ []) → Knows begun past stage due → IsFirst past sent
    first-by (Handoffs heard) asks over knows = λ other there same alike. asking-first begun valid past heard due later (primaries begun) sent (Handoffs heard) errand first asks knows other there same
    first-by (Primaries heard) asks over knows = λ other there same alike. asking-first begun valid past heard due later [] sent (Primaries heard) errand first asks knows other there same
    first-by (Buries burial) asks over knows =
        let ToDo : Errand → Type 0 = ToBury begun knows.heard burial.stamp in
        as-first (not-given begun burial.stamp ToDo past due knows.once errand later first (head-of begun valid sent past due later errand first ToDo knows.does.sought))
        (about-for begun burial.stamp errand sent (bury.message-for begun past burial due knows errand sent asks))
    first-by (Repairs repair) asks over knows =
        let ToDo : Errand → Type 0 = ToRepair begun past knows.heard repair in
        as-first (not-given begun repair.stamp ToDo past due knows.once errand later first (head-of begun valid sent past due later errand first ToDo knows.does.sought))
        (about-for begun repair.stamp errand sent (repairs.message-for begun past repair due knows errand sent asks))
    first-by (Ends end) asks over knows = absurd (let none = over refl in cc (sym none ∙ first))

  pub is-first : IsBegun begun → IsRun (IsNext begun) past → IsNext begun past (Hand sent) → IsFirst past sent
  is-first valid run (state, is, (ticket, after, hands)) =
      first-by valid state.due hands.later hands.errand hands.first state.stage hands.message (λ so. (over_settled begun valid past state is so).1) (known begun valid past run state is)

  pub may-send : IsBegun begun → IsRun (IsNext begun) past → IsNext begun past (Hand sent) → May
  may-send valid run (state, is, (ticket, after, hands)) =
      may-by valid state.due hands.later hands.errand hands.first state.stage hands.message (λ so. (over_settled begun valid past state is so).1) (known begun valid past run state is)
