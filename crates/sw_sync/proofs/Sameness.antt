-- After a transcript one thing comes next, and there is one end.
use Rattle.std.proofs.Common.{◌≡◌, ◌≢◌, ℕ, ◌++◌, Bool, List, [], ◌∷◌, length, Option, Some, None, refl, sym, ap, subst, ◌∙◌}
use Rattle.std.specs.List.{All}
use Rattle.std.proofs.lemmas.List.Elements.{All-head}
use Rattle.std.proofs.lemmas.Option.{same_Some}
use Rattle.sw_hashpath.specs.Place.{PlaceModel}
use Rattle.sw_archive.specs.Assemble.{AreTogether}
use Rattle.sw_archive.proofs.Objects.{one_further}
use Rattle.sw_ring.specs.Cluster.{ClusterModel, KeepsRules}
use Rattle.sw_message.specs.Spoil.{IsOfPlace}
use Rattle.sw_message.specs.Transcript.{Closed, Gave, Hand, Next, Over, Step, Wait, given, is_waiting}
use Rattle.sw_message.specs.declared.message.Msg.{Msg}
use Rattle.sw_message.specs.declared.message.Msg.TheVariants as message
use Rattle.sw_message.specs.declared.miss.Miss.TheVariants as miss
use Rattle.sw_message.specs.declared.reply.Reply.{Reply}
use Rattle.sw_message.specs.declared.reply.Reply.TheVariants as reply
use Rattle.sw_message.specs.declared.sent.Sent.{Sent}
use Rattle.sw_message.specs.declared.spoil.Foreign.TheVariants as foreign
use Rattle.sw_message.specs.declared.spoil.Spoil.TheVariants as spoil
use Rattle.sw_gather.proofs.Readings as reading
use Rattle.sw_gather.proofs.Readings.{Reading, Reads, one-reading}
use Rattle.sw_sync.specs.Parts.{Repair}
use Rattle.sw_sync.specs.State.{State}
use Rattle.sw_sync.specs.Sync.{Begun, Brings, Fits, Hands, Hears, HearsRepair, IsEnd, IsFetched, IsMessage, IsNext, IsRead, IsState, Loses, Meaning, NextAt, Takes, due_fetched, errand_of, fetched, settled}
use Rattle.sw_sync.specs.declared.errand.Errand.{Errand}
use Rattle.sw_sync.specs.declared.errand.Errand.TheVariants.{Ask, Commit, Delete, Fetch, Store}
use Rattle.sw_sync.specs.declared.stage.Stage.{Stage}
use Rattle.sw_sync.specs.declared.stage.Stage.TheVariants.{Buries, Ends, Repairs}
use Rattle.sw_sync.specs.declared.sync_end.SyncEnd.{SyncEnd}
use Rattle.sw_sync.proofs.Fitting.{fits}
use Rattle.sw_sync.proofs.Together.{StageTogether, state-together}

-- ---- what an answer means

module _ (cluster : ClusterModel) (place : PlaceModel) (repair : Repair) (index : ℕ) where
  abbrev as_meaning : Reading → Meaning
  as_meaning (reading.Brings archive) = Brings archive
  as_meaning (reading.Spoils how) = Loses (miss.Spoiled how)

  abbrev ReadsAs : List ℕ → Meaning → Type 0
  ReadsAs bytes meaning = (one : Reading) × (meaning ≡ as_meaning one) × Reads (IsOfPlace cluster place) cluster.policy repair.stamp repair.archives index bytes one

  view : (bytes : List ℕ) (meaning : Meaning) → IsRead cluster place repair index bytes meaning → ReadsAs bytes meaning
  view bytes (Brings archive) is = (reading.Brings archive, refl, is)
  view bytes (Loses (miss.Spoiled (spoil.Fault fault))) is = (reading.Spoils (spoil.Fault fault), refl, is)
  view bytes (Loses (miss.Spoiled (spoil.Foreign foreign.Name))) is = (reading.Spoils (spoil.Foreign foreign.Name), refl, is)
  view bytes (Loses (miss.Spoiled (spoil.Foreign foreign.Stamp))) is = (reading.Spoils (spoil.Foreign foreign.Stamp), refl, is)
  view bytes (Loses (miss.Spoiled (spoil.Foreign foreign.Index))) is = (reading.Spoils (spoil.Foreign foreign.Index), refl, is)
  view bytes (Loses (miss.Spoiled (spoil.Foreign foreign.Code))) is = (reading.Spoils (spoil.Foreign foreign.Code), refl, is)
  view bytes (Loses (miss.Spoiled (spoil.Foreign foreign.Object))) is = (reading.Spoils (spoil.Foreign foreign.Object), refl, is)
  view bytes (Loses other) is = absurd is

  one_read : AreTogether repair.archives → (bytes : List ℕ) (a b : Meaning) → IsRead cluster place repair index bytes a → IsRead cluster place repair index bytes b → a ≡ b
  one_read together bytes a b x y =
      let one = view bytes a x in
      let other = view bytes b y in
      one.1 ∙ ap as_meaning (one-reading (IsOfPlace cluster place) cluster.policy repair.stamp repair.archives index bytes together one.0 other.0 one.2 other.2) ∙ sym other.1

  one_fetched : AreTogether repair.archives → (answer : Option Reply) (a b : Meaning) → IsFetched cluster place repair index answer a → IsFetched cluster place repair index answer b → a ≡ b
  one_fetched together None a b x y = x ∙ sym y
  one_fetched together (Some (reply.Fragment bytes)) a b x y = one_read together bytes a b x y
  one_fetched together (Some (reply.Gone listing)) a b x y = x ∙ sym y
  one_fetched together (Some other) a b x y = x ∙ sym y

-- ---- what it leads to

module _ (begun : Begun) (answer : Option Reply) where
  one_repair : (repair : Repair) → AreTogether repair.archives → (errand : Errand) (a b : Repair) (more less : List Errand) → HearsRepair begun.cluster begun.place repair errand answer a more
      → HearsRepair begun.cluster begun.place repair errand answer b less → (a ≡ b) × (more ≡ less)
  one_repair repair together (Fetch source) a b more less x y =
      let same = one_fetched begun.cluster begun.place repair source.index together answer x.0 y.0 x.1 y.1 in
      (x.2 ∙ ap (fetched repair source) same ∙ sym y.2, x.3 ∙ ap (due_fetched begun.cluster.policy.k repair source) same ∙ sym y.3)
  one_repair repair together (Commit target) a b more less x y = (x.0 ∙ sym y.0, x.1 ∙ sym y.1)
  one_repair repair together (Store target) a b more less x y = (x.0 ∙ sym y.0, x.1 ∙ sym y.1)
  one_repair repair together other a b more less x y = (x.0 ∙ sym y.0, x.1 ∙ sym y.1)

  one_hearing : (stage : Stage) → StageTogether stage → (errand : Errand) (a b : Stage) (more less : List Errand) → Hears begun.cluster begun.place stage errand answer a more → Hears begun.cluster begun.place stage errand answer b less
      → (a ≡ b) × (more ≡ less)
  one_hearing (Repairs repair) together errand a b more less x y =
      let same = one_repair repair together errand x.0 y.0 more less x.1 y.1 in
      (x.2 ∙ ap (λ (next : Repair). Repairs next) same.0 ∙ sym y.2, same.1)
  one_hearing stage together (Ask device) a b more less x y = (x.0 ∙ sym y.0, x.1 ∙ sym y.1)
  one_hearing stage together (Delete device) a b more less x y = (x.0 ∙ sym y.0, x.1 ∙ sym y.1)
  one_hearing stage together errand a b more less x y = (x.0 ∙ sym y.0, x.1 ∙ sym y.1)

  one_taking : (before a b : State) (sent : Sent) → StageTogether before.stage → Takes begun before sent answer a → Takes begun before sent answer b → a ≡ b
  one_taking before a b sent together x y =
      let about : y.errand ≡ x.errand = same_Some y.errand x.errand (sym y.about ∙ x.about) in
      let hears = subst (λ (errand : Errand). Hears begun.cluster begun.place before.stage errand answer y.stage y.more) about y.hears in
      let same = one_hearing before.stage together x.errand x.stage y.stage x.more y.more x.hears hears in
      x.after_is ∙ ap (λ (stage : Stage). record { stage = stage; due = before.due ++ x.more }) same.0 ∙ ap (λ (more : List Errand). record { stage = y.stage; due = before.due ++ more }) same.1 ∙ sym y.after_is

-- ---- one state

module _ (begun : Begun) where
  one_handing : (before a b : State) (one other : Sent) → Hands begun before one a → Hands begun before other b → a ≡ b
  one_handing before a b one other x y =
      let same : x.later ≡ y.later = cc (sym x.first ∙ y.first) in
      x.after_is ∙ ap (λ (due : List Errand). record { stage = before.stage; due = due }) same ∙ sym y.after_is

  pub one_state : (past : List Step) (a b : State) → IsState begun past a → IsState begun past b → a ≡ b
  one_state [] a b x y = x ∙ sym y
  one_state (Gave sent ∷ past) a b (before, was, hands) (other, so, also) =
      let same = one_state past other before so was in
      one_handing before a b sent sent hands (subst (λ (state : State). Hands begun state sent b) same also)
  one_state (Closed sent answer ∷ past) a b (before, was, after, takes, is) (other, so, next, also, then) =
      let same = one_state past other before so was in
      let taken = one_taking begun answer before after next sent (state-together begun past before was) takes (subst (λ (state : State). Takes begun state sent answer next) same also) in
      is ∙ ap (settled begun (is_waiting (Closed sent answer ∷ past))) taken ∙ sym then

  pub one_end : (past : List Step) (one other : SyncEnd) → IsEnd begun past one → IsEnd begun past other → one ≡ other
  one_end past one other (closed, state, is, ends) (still, also, so, finishes) =
      let same = one_state past state also is so in
      let ended : Ends one ≡ Ends other = sym ends ∙ ap (λ (one : State). one.stage) same ∙ finishes in
      cc

  -- ---- what comes next

  abbrev SameMessage : (a b : ℕ) → Msg → Msg → Type 0
  SameMessage a b one other = (a ≡ b) × (one ≡ other)

  one_message : (stage : Stage) (errand : Errand) (a b : ℕ) (one other : Msg) → StageTogether stage → Fits stage errand → IsMessage begun stage errand a one → IsMessage begun stage errand b other → SameMessage a b one other
  one_message stage (Ask device) a b one other together fit x y = (x.0 ∙ sym y.0, x.1 ∙ sym y.1)
  one_message (Buries burial) (Delete device) a b one other together fit x y = (x.0 ∙ sym y.0, x.1 ∙ sym y.1)
  one_message (Repairs repair) (Fetch source) a b one other together fit x y = (x.0 ∙ sym y.0, x.1 ∙ sym y.1)
  one_message (Repairs repair) (Commit target) a b one other together fit x y = (x.0 ∙ sym y.0, x.1 ∙ sym y.1)
  one_message (Repairs repair) (Store target) a b one other together fit x y =
      let same = one_further repair.archives target.index x.0 y.0 fit.0 together x.1.further y.1.further in
      (x.2 ∙ sym y.2, x.3 ∙ ap (message.PutFrag begun.place repair.stamp target.index) same ∙ sym y.3)
  one_message stage errand a b one other together fit x y = absurd x

  module _ (past : List Step) (state : State) (fit : All (Fits state.stage) state.due) (together : StageTogether state.stage) where
    one_hand : (one other : Sent) → NextAt begun past state (Hand one) → NextAt begun past state (Hand other) → Hand one ≡ Hand other
    one_hand one other (ticket, a, x) (number, b, y) =
        let same : y.errand ≡ x.errand = cc (sym x.first ∙ y.first) in
        let message = subst (λ (errand : Errand). IsMessage begun state.stage errand other.device other.msg) same y.message in
        let fits-so = All-head (Fits state.stage) x.errand x.later (subst (All (Fits state.stage)) x.first fit) in
        let both = one_message state.stage x.errand one.device other.device one.msg other.msg together fits-so x.message message in
        let tickets = ticket ∙ sym number in
        ap (λ n. Hand (record { ticket = n; device = one.device; msg = one.msg })) tickets ∙ ap (λ n. Hand (record { ticket = other.ticket; device = n; msg = one.msg })) both.0
        ∙ ap (λ (msg : Msg). Hand (record { ticket = other.ticket; device = other.device; msg = msg })) both.1

    one_at : (one other : Next) → NextAt begun past state one → NextAt begun past state other → one ≡ other
    one_at (Hand one) (Hand other) x y = one_hand one other x y
    one_at (Hand one) Wait x y = absurd (cc (sym x.2.first ∙ y.0))
    one_at (Hand one) Over x y = absurd (cc (sym x.2.first ∙ y.0))
    one_at Wait (Hand other) x y = absurd (cc (sym y.2.first ∙ x.0))
    one_at Over (Hand other) x y = absurd (cc (sym y.2.first ∙ x.0))
    one_at Wait Wait x y = refl
    one_at Wait Over x y = x.1 ∙ sym y.1
    one_at Over Wait x y = x.1 ∙ sym y.1
    one_at Over Over x y = refl

  pub one_next : KeepsRules begun.cluster → (past : List Step) (one other : Next) → IsNext begun past one → IsNext begun past other → one ≡ other
  one_next rules past one other (state, is, x) (also, so, y) =
      let same = one_state past also state so is in
      one_at past state (fits begun rules past state is) (state-together begun past state is) one other x (subst (λ (state : State). NextAt begun past state other) same y)
