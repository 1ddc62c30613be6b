-- What a server did over nodes, from the opening of its doors on.
use Rattle.std.proofs.Common.{◌≡◌, ℕ, ◌∷◌, ◌++◌, List, [], false, true, inl, inr, refl, sym, ap, subst, append-nil, ◌∙◌}
use Rattle.std.specs.Prelude.{Result, Ok, Err, IsErr, IsOk, OnErr, OnOk}
use Rattle.sw_words.specs.Counts.{one_more}
use Rattle.sw_pass.specs.declared.known.Known.{Known}
use Rattle.sw_serve.specs.Serving.{IsProperFront}
use Rattle.sw_server.specs.Acceptor.{faults_in}
use Rattle.sw_server.specs.Closing.{Closes, closed_text}
use Rattle.sw_server.specs.Ending.{IsStop}
use Rattle.sw_server.specs.Served.{GoesOn, Serving}
use Rattle.sw_server.specs.Sessions.{IsEnd, ServesOver, opened_at, ready_text}
use Rattle.sw_server.specs.Visits.{DoorsMembers, DoorsSeen, seen_of}
use Rattle.sw_server.specs.declared.acceptor.DoorsState.{DoorsState}
use Rattle.sw_server.specs.declared.acceptor.DoorsState.TheVariants as doors_state
use Rattle.sw_server.specs.declared.end.ServeEnd.{ServeEnd}
use Rattle.sw_server.specs.declared.end.ServeEnd.TheVariants.{Closed, DoorFault, NoMemory, ShelfFault, WriteFault}
use Rattle.sw_server.specs.declared.end.Stop.{Stop}
use Rattle.sw_server.specs.declared.end.Stop.TheVariants as stop
use Rattle.sw_server.proofs.Comings.{none_yet}
use Rattle.sw_server.proofs.Going.{goes_same}

-- what is said of an error, and of a success
pub of_error : {T E P : Type 0} (result : Result T E) → IsErr result → OnErr result P → P
of_error (Ok value) is holds = absurd (cc)
of_error (Err error) is holds = holds

pub of_success : {T E P : Type 0} (result : Result T E) → IsOk result → OnOk result P → P
of_success (Ok value) is holds = holds
of_success (Err error) is holds = absurd (cc)

module _ {A N T : Type 0} (doors : DoorsMembers A N) (serving : Serving N T) (clock : T) (port : ℕ) (before opened : A) (left : doors.left opened ≡ doors.left before) (handed : doors.handed opened ≡ doors.handed before) (back : doors.back opened ≡ doors.back before)
    (ports : doors.ports opened ≡ port ∷ []) where
  abbrev Over : ServeEnd → A → Known → List ℕ → Type 0
  Over end after last told = ServesOver doors serving clock port before end after last told

  abbrev seen : A → DoorsSeen
  seen it = seen_of doors serving.conns it

  -- opening changed the ports alone, and the count of faults where it failed
  pub seen_so : (faults : ℕ) → doors.faults opened ≡ faults → seen opened ≡ record (seen before) { ports = port ∷ []; faults = faults }
  seen_so faults is = rw (ports, handed, back, left, is) refl

  -- the doors could not be opened
  pub unopened : (known : Known) → doors.is_open opened ≡ false → doors.faults opened ≡ one_more (doors.faults before) → Over DoorFault opened known []
  unopened known shut failed = record { known = known; ends = (refl, inl (shut, seen_so (one_more (doors.faults before)) failed, refl)); goes_on = goes_same known }

  module _ (quiet : doors.faults opened ≡ doors.faults before) where
    pub opened_so : seen opened ≡ opened_at port (seen before)
    opened_so = seen_so (doors.faults before) quiet

    -- that they are open could not be written
    pub unwritten : (known : Known) (front : List ℕ) → doors.is_open opened ≡ true → IsProperFront front ready_text → Over WriteFault opened known front
    unwritten known front is_open proper = record { known = known; ends = inl (refl, none_yet doors serving (serving.shows clock) (opened_at port (seen before)) opened known (sym opened_so) is_open, proper); goes_on = goes_same known }

    -- ---- no other connection is served

    module _ (began : DoorsSeen) (is_began : began ≡ seen opened) (after : A) (known : Known) where
      pub stops_so : (why other : Stop) → why ≡ other → IsStop doors serving (serving.shows clock) began why after known → IsStop doors serving (serving.shows clock) (opened_at port (seen before)) other after known
      stops_so why other same is = subst (λ (seen_then : DoorsSeen). IsStop doors serving (serving.shows clock) seen_then other after known) (is_began ∙ opened_so) (subst (λ (it : Stop). IsStop doors serving (serving.shows clock) began it after known) same is)

      pub failed : (why : Stop) → why ≡ stop.Failed → IsStop doors serving (serving.shows clock) began why after known → Over DoorFault after known ready_text
      failed why is stops = record { known = known; ends = (refl, inr (stops_so why stop.Failed is stops, refl)); goes_on = goes_same known }

      pub full : (why : Stop) → why ≡ stop.NoMemory → IsStop doors serving (serving.shows clock) began why after known → Over NoMemory after known ready_text
      full why is stops = record { known = known; ends = (refl, inl (refl, stops_so why stop.NoMemory is stops)); goes_on = goes_same known }

      -- no other one comes, and the server was closed
      pub closed : (why : Stop) (count : ℕ) → why ≡ stop.Ended count → IsStop doors serving (serving.shows clock) began why after known → (end : ServeEnd) (last : Known) (told : List ℕ) → Closes serving.cluster serving.tells serving.shows clock count known end last told → GoesOn last known
          → Over end after last (ready_text ++ told)
      closed why count is stops end last told closes goes = record { known = known; ends = by end closes; goes_on = goes }
        where
          ended : IsStop doors serving (serving.shows clock) (opened_at port (seen before)) (stop.Ended count) after known
          ended = stops_so why (stop.Ended count) is stops

          by : (end : ServeEnd) → Closes serving.cluster serving.tells serving.shows clock count known end last told → IsEnd doors serving clock port before end after known last (ready_text ++ told)
          by (Closed other) (ran, same, text) = (subst (λ (n : ℕ). IsStop doors serving (serving.shows clock) (opened_at port (seen before)) (stop.Ended n) after known) (sym same) ended, ran, ap (λ more. ready_text ++ more) text ∙ ap (λ (n : ℕ). ready_text ++ closed_text n) (sym same))
          by WriteFault (ran, proper) = inr (count, ended, ran, told, proper, refl)
          by NoMemory (none, is_whole, wants, ran) = (ap (λ more. ready_text ++ more) none ∙ append-nil ready_text, inr (count, ended, is_whole, wants, ran))
          by DoorFault none = absurd none
          by ShelfFault none = absurd none

      -- ---- the doors' count of faults

      no_fault : (state : DoorsState) (count : ℕ) → (state ≡ doors_state.Failed → ⊥) → faults_in state count ≡ count
      no_fault doors_state.Open count other = refl
      no_fault doors_state.Ended count other = refl
      no_fault doors_state.Failed count other = absurd (other refl)
      no_fault doors_state.Full count other = refl

      pub quiet_full : (why : Stop) → why ≡ stop.NoMemory → IsStop doors serving (serving.shows clock) began why after known → doors.faults after ≡ doors.faults before
      quiet_full why same is =
          let (state, handed, back, other, has) = subst (λ (it : Stop). IsStop doors serving (serving.shows clock) began it after known) same is in
          has.faults ∙ ap (λ (seen_then : DoorsSeen). faults_in state seen_then.faults) (is_began ∙ opened_so) ∙ no_fault state (doors.faults before) other

      pub quiet_ended : (why : Stop) (count : ℕ) → why ≡ stop.Ended count → IsStop doors serving (serving.shows clock) began why after known → doors.faults after ≡ doors.faults before
      quiet_ended why count same is = (subst (λ (it : Stop). IsStop doors serving (serving.shows clock) began it after known) same is).faults ∙ ap (λ (seen_then : DoorsSeen). seen_then.faults) (is_began ∙ opened_so)

      pub failed_once : (why : Stop) → why ≡ stop.Failed → IsStop doors serving (serving.shows clock) began why after known → doors.faults after ≡ one_more (doors.faults before)
      failed_once why same is =
          let (handed, back, has) = subst (λ (it : Stop). IsStop doors serving (serving.shows clock) began it after known) same is in
          has.faults ∙ ap (λ (seen_then : DoorsSeen). one_more seen_then.faults) (is_began ∙ opened_so)
