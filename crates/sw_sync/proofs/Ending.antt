-- A sync is over just where nothing is open and nothing is due.
use Rattle.std.proofs.Common.{◌≡◌, ℕ, ◌&&◌, Bool, true, false, not, List, [], ◌∷◌, ◌++◌, length, map, Option, refl, sym, ap, subst, ◌∙◌, arith}
use Rattle.std.specs.Prelude.{if◌then◌else◌}
use Rattle.std.specs.List.{filter}
use Rattle.std.proofs.lemmas.Bool.{true≢false}
use Rattle.std.proofs.lemmas.List.{length-map}
use Rattle.sw_hashpath.specs.Place.{PlaceModel}
use Rattle.sw_types.proofs.Policies.{bounds}
use Rattle.sw_ring.specs.Cluster.{ClusterModel, KeepsRules}
use Rattle.sw_ring.proofs.Roles.{column_length}
use Rattle.sw_message.specs.Transcript.{Closed, Gave, Step, is_empty as is_none, is_not, is_waiting, opens}
use Rattle.sw_message.specs.declared.reply.Reply.{Reply}
use Rattle.sw_message.specs.declared.sent.Sent.{Sent}
use Rattle.sw_sync.specs.Standing.{ends}
use Rattle.sw_sync.specs.State.{State}
use Rattle.sw_sync.specs.Sync.{Begun, Hands, Hears, IsBegun, IsState, Takes, advanced, beginning, burial_of, closed, is_empty, primaries, repair_of, settled, total}
use Rattle.sw_sync.specs.declared.errand.Errand.{Errand}
use Rattle.sw_sync.specs.declared.errand.Errand.TheVariants.{Ask, Commit, Delete, Fetch, Store}
use Rattle.sw_sync.specs.declared.stage.Stage.{Stage}
use Rattle.sw_sync.specs.declared.stage.Stage.TheVariants.{Buries, Ends, Handoffs, Primaries, Repairs}
use Rattle.sw_sync.proofs.Plans.{by_plan}

-- ---- lists

pub empty-is : {A : Type 0} (xs : List A) → is_empty xs ≡ true → xs ≡ []
empty-is [] is = refl
empty-is (x ∷ xs) is = absurd (cc)

-- ---- an answer ends nothing by itself

pub hears_ends : (cluster : ClusterModel) (place : PlaceModel) (stage : Stage) (errand : Errand) (answer : Option Reply) (after : Stage) (more : List Errand) → Hears cluster place stage errand answer after more
    → ends after ≡ ends stage
hears_ends cluster place (Repairs repair) errand answer after more hears = ap ends hears.2
hears_ends cluster place stage (Ask device) answer after more hears = ap ends hears.0
hears_ends cluster place stage (Delete device) answer after more hears = ap ends hears.0
hears_ends cluster place stage (Fetch source) answer after more hears = ap ends hears.0
hears_ends cluster place stage (Store target) answer after more hears = ap ends hears.0
hears_ends cluster place stage (Commit target) answer after more hears = ap ends hears.0

-- and what is over hears nothing
over_hears : (cluster : ClusterModel) (place : PlaceModel) (stage : Stage) (errand : Errand) (answer : Option Reply) (after : Stage) (more : List Errand) → Hears cluster place stage errand answer after more
    → ends stage ≡ true → more ≡ []
over_hears cluster place (Ends end) (Ask device) answer after more hears is = hears.1
over_hears cluster place (Ends end) (Delete device) answer after more hears is = hears.1
over_hears cluster place (Ends end) (Fetch source) answer after more hears is = hears.1
over_hears cluster place (Ends end) (Store target) answer after more hears is = hears.1
over_hears cluster place (Ends end) (Commit target) answer after more hears is = hears.1
over_hears cluster place other errand answer after more hears is = absurd (cc)

-- ---- once nothing is due and nothing is open

-- it is over just where nothing is due then
abbrev IsFinal : State → Type 0
IsFinal state = (ends state.stage ≡ true → state.due ≡ []) × (state.due ≡ [] → ends state.stage ≡ true)

over_final : (k : ℕ) (state : State) (b : Bool) → is_empty state.due ≡ b → ends state.stage ≡ false → (closed k state.stage).due ≡ [] → ends (closed k state.stage).stage ≡ true → IsFinal (if b then closed k state.stage else state)
over_final k state true is goes due ended = (λ _. due, λ _. ended)
over_final k state false is goes due ended = (λ over. absurd (true≢false (sym over ∙ goes)), λ none. absurd (true≢false (ap is_empty (sym none) ∙ is)))

module _ (begun : Begun) (rules : KeepsRules begun.cluster) where
  some_primaries : map Ask (primaries begun) ≡ [] → ⊥
  some_primaries none =
      omega (
        arith,
        ap length none,
        length-map (primaries begun) Ask,
        column_length begun.cluster begun.place.part rules,
        (bounds begun.cluster.policy rules.policy).some_data,
      )

  advanced_final : (stage : Stage) → IsFinal (advanced begun stage)
  advanced_final (Handoffs heard) = (λ over. absurd (cc), λ none. absurd (some_primaries none))
  advanced_final (Primaries heard) =
      by_plan begun heard IsFinal
      (λ stamp own. over_final begun.cluster.policy.k (burial_of (primaries begun) heard stamp) _ refl refl refl refl)
      (λ stamp own. over_final begun.cluster.policy.k (repair_of begun.cluster.policy.k (total begun) (primaries begun) heard stamp) _ refl refl refl refl)
      (λ none. (λ _. refl, λ _. refl))
      (λ nothing. (λ _. refl, λ _. refl))
      (λ best newer. (λ _. refl, λ _. refl))
  advanced_final (Buries burial) = (λ _. refl, λ _. refl)
  advanced_final (Repairs repair) = (λ _. refl, λ _. refl)
  advanced_final (Ends end) = (λ _. refl, λ _. refl)

  -- it is over just where nothing is open and nothing is due
  abbrev IsOver : Bool → State → Type 0
  IsOver waiting state = (ends state.stage ≡ true → (waiting ≡ false) × (state.due ≡ [])) × (waiting ≡ false → state.due ≡ [] → ends state.stage ≡ true)

  settled_by : (waiting empty : Bool) (state : State) → is_empty state.due ≡ empty → (ends state.stage ≡ true → (waiting ≡ false) × (state.due ≡ []))
      → IsOver waiting (if empty && not waiting then advanced begun state.stage else state)
  settled_by true true state is before = (before, λ none due. absurd (cc))
  settled_by true false state is before = (before, λ none due. absurd (cc))
  settled_by false true state is before = let final = advanced_final state.stage in (λ over. (refl, final.0 over), λ none due. final.1 due)
  settled_by false false state is before = (before, λ none due. absurd (true≢false (ap is_empty (sym due) ∙ is)))

  settled_over : (waiting : Bool) (state : State) → (ends state.stage ≡ true → (waiting ≡ false) × (state.due ≡ [])) → IsOver waiting (settled begun waiting state)
  settled_over waiting state before = settled_by waiting (is_empty state.due) state refl before

  none_open : (sents : List Sent) (ticket : ℕ) → not (is_none sents) ≡ false → not (is_none (filter (is_not ticket) sents)) ≡ false
  none_open [] ticket none = refl
  none_open (sent ∷ sents) ticket none = absurd (cc)

  after_gave : (past : List Step) (before state : State) (sent : Sent) → IsOver (is_waiting past) before → Hands begun before sent state → IsOver true state
  after_gave past before state sent is hands = (
    λ over. absurd (let none = (is.0 (ap (λ (one : State). ends one.stage) (sym hands.after_is) ∙ over)).1 in cc (sym none ∙ hands.first)),
    λ none due. absurd (cc),
  )

  after_told : (past : List Step) (before after : State) (sent : Sent) (answer : Option Reply) → IsOver (is_waiting past) before → Takes begun before sent answer after
      → IsOver (is_waiting (Closed sent answer ∷ past)) (settled begun (is_waiting (Closed sent answer ∷ past)) after)
  after_told past before after sent answer is takes = settled_over (is_waiting (Closed sent answer ∷ past)) after ended
    where
      ended : ends after.stage ≡ true → (is_waiting (Closed sent answer ∷ past) ≡ false) × (after.due ≡ [])
      ended over =
          let same = hears_ends begun.cluster begun.place before.stage takes.errand answer takes.stage takes.more takes.hears in
          let was : ends before.stage ≡ true = sym same ∙ ap (λ (one : State). ends one.stage) (sym takes.after_is) ∙ over in
          let none = is.0 was in (
            none_open (opens past) sent.ticket none.0,
            ap (λ (one : State). one.due) takes.after_is
                ∙ ap (λ these. these ++ takes.more) none.1
                ∙ over_hears begun.cluster begun.place before.stage takes.errand answer takes.stage takes.more takes.hears was,
          )

  is_over : (past : List Step) (state : State) → IsState begun past state → IsOver (is_waiting past) state
  is_over [] state is = subst (IsOver false) (sym is) (settled_over false (beginning begun) (λ over. absurd (cc)))
  is_over (Gave sent ∷ past) state is = after_gave past is.0 state sent (is_over past is.0 is.1) is.2
  is_over (Closed sent answer ∷ past) state is =
      subst (IsOver (is_waiting (Closed sent answer ∷ past))) (sym is.4) (after_told past is.0 is.2 sent answer (is_over past is.0 is.1) is.3)

-- in a cluster that keeps the rules
pub over_by_rules : (begun : Begun) → KeepsRules begun.cluster → (past : List Step) (state : State) → IsState begun past state → ends state.stage ≡ true → (is_waiting past ≡ false) × (state.due ≡ [])
over_by_rules begun rules past state is over = (is_over begun rules past state is).0 over

pub over_settled : (begun : Begun) → IsBegun begun → (past : List Step) (state : State) → IsState begun past state → ends state.stage ≡ true → (is_waiting past ≡ false) × (state.due ≡ [])
over_settled begun valid past state is over = over_by_rules begun valid.rules past state is over

pub settled_ends : (begun : Begun) → IsBegun begun → (past : List Step) (state : State) → IsState begun past state → is_waiting past ≡ false → state.due ≡ [] → ends state.stage ≡ true
settled_ends begun valid past state is waiting due = (is_over begun valid.rules past state is).1 waiting due
