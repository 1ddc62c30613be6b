-- What follows once nothing is due and nothing is open, and where nothing follows.
use Rattle.std.proofs.Common.{◌≡◌, true, false, Bool, not, List, [], ◌∷◌, length, nat_lt, refl, sym, ap, subst, ◌∙◌, arith}
use Rattle.std.specs.Prelude.{◌&&◌, if◌then◌else◌}
use Rattle.std.proofs.lemmas.Bool.{lt-ltb}
use Rattle.sw_message.specs.Transcript.{Step, is_empty, is_waiting}
use Rattle.sw_sync.specs.Standing.{ends}
use Rattle.sw_sync.specs.State.{State}
use Rattle.sw_sync.specs.Sync.{Begun, IsBegun, IsState, advanced, settled, is_empty as none_due}
use Rattle.sw_sync.specs.declared.errand.Errand.{Errand}
use Rattle.sw_sync.specs.declared.stage.Stage.{Stage}
use Rattle.sw_sync.specs.declared.stage.Stage.TheVariants.{Buries, Ends, Handoffs, Primaries, Repairs}
use Rattle.sw_sync.specs.declared.sync_end.SyncEnd.{SyncEnd}
use Rattle.sw_sync.proofs.Machine.{settled_over}

-- some are open where there is one
pub some_open : {A : Type 0} (xs : List A) → nat_lt 0 (length xs) ≡ not (is_empty xs)
some_open [] = refl
some_open (x ∷ xs) = lt-ltb 0 (length (x ∷ xs)) (omega arith)

pub end_of : (stage : Stage) → ends stage ≡ true → (end : SyncEnd) × (stage ≡ Ends end)
end_of (Handoffs heard) over = absurd (cc)
end_of (Primaries heard) over = absurd (cc)
end_of (Buries burial) over = absurd (cc)
end_of (Repairs repair) over = absurd (cc)
end_of (Ends end) over = (end, refl)

module _ (begun : Begun) where
  -- where something is open, nothing follows yet
  pub settled_waiting : (state : State) → settled begun true state ≡ state
  settled_waiting state = by_test (none_due state.due)
    where
      by_test : (b : Bool) → (if b && false then advanced begun state.stage else state) ≡ state
      by_test true = refl
      by_test false = refl

  -- and where something is due
  pub settled_due : (waiting : Bool) (state : State) (errand : Errand) (later : List Errand) → state.due ≡ errand ∷ later → settled begun waiting state ≡ state
  settled_due waiting state errand later is = ap (λ (due : List Errand). if none_due due && not waiting then advanced begun state.stage else state) is

  -- what is over stays so
  pub settled_end : (waiting : Bool) (state : State) (end : SyncEnd) → state.stage ≡ Ends end → (settled begun waiting state).stage ≡ Ends end
  settled_end waiting state end is = by_test (none_due state.due && not waiting)
    where
      by_test : (b : Bool) → (if b then advanced begun state.stage else state).stage ≡ Ends end
      by_test true = ap (λ stage. (advanced begun stage).stage) is
      by_test false = is

  pub settled_over_still : (waiting : Bool) (state : State) → ends state.stage ≡ true → ends (settled begun waiting state).stage ≡ true
  settled_over_still waiting state over = let end = end_of state.stage over in ap ends (settled_end waiting state end.0 end.1)

  -- once it was worked out what follows, nothing follows besides
  module _ (valid : IsBegun begun) (past : List Step) (state : State) (is : IsState begun past state) where
    none_left : is_waiting past ≡ false → (due : List Errand) → state.due ≡ due → settled begun false state ≡ state
    none_left none (errand ∷ later) due = settled_due false state errand later due
    none_left none [] due =
        let end = end_of state.stage (settled_over begun valid past state is none due) in
        let over : State = record { stage = Ends end.0; due = [] } in
        let same : state ≡ over = ap (λ stage. record { stage = stage; due = state.due }) end.1 ∙ ap (λ due. record { stage = Ends end.0; due = due }) due in
        subst (λ (one : State). settled begun false one ≡ one) (sym same) refl

    settled_at : (waiting : Bool) → is_waiting past ≡ waiting → settled begun waiting state ≡ state
    settled_at true waits = settled_waiting state
    settled_at false none = none_left none state.due refl

    pub settled_stays : settled begun (is_waiting past) state ≡ state
    settled_stays = settled_at (is_waiting past) refl
