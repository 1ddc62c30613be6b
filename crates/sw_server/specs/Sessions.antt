-- Serving over a shelf's disks, from their mounting to their return.
use Rattle.std.specs.Prelude.{◌≡◌, ◌≢◌, ◌⊎◌, ℕ, Bool, true, false, codes, List, [], ◌∷◌, ◌++◌, length, ⊤}
use Rattle.std.specs.List.{All}
use Rattle.sw_words.specs.Counts.{one_more}
use Rattle.sw_shelf.specs.Shelf.{with_all}
use Rattle.sw_pass.specs.declared.known.Known.{Known}
use Rattle.sw_cell.specs.Learning.{HasLearnt}
use Rattle.sw_cell.specs.Mounting.{AreMounted}
use Rattle.sw_cell.specs.Standing.{IsDiskOf}
use Rattle.sw_serve.specs.Serving.{IsProperFront}
use Rattle.sw_server.specs.Acceptor.{HasServed}
use Rattle.sw_server.specs.Closing.{RunOnce, closed_text}
use Rattle.sw_server.specs.Ending.{IsStop}
use Rattle.sw_server.specs.Served.{GoesOn, Serving}
use Rattle.sw_server.specs.Shelving.{AreHanded, CameBack, ShelfMembers, with_faults}
use Rattle.sw_server.specs.Visits.{DoorsMembers, DoorsSeen, seen_of}
use Rattle.sw_server.specs.declared.acceptor.DoorsState.TheVariants.{Open}
use Rattle.sw_server.specs.declared.end.Stop.{Stop}
use Rattle.sw_server.specs.declared.end.Stop.TheVariants as stop
use Rattle.sw_server.specs.declared.end.ServeEnd.{ServeEnd}
use Rattle.sw_server.specs.declared.end.ServeEnd.TheVariants.{Closed, DoorFault, NoMemory, ShelfFault, WriteFault}

-- ---- what is written

abbrev pub ready_text : List ℕ
ready_text = codes "ready" ++ 10 ∷ []

-- ---- counts of faults

abbrev pub after_shelf : ServeEnd → ℕ → ℕ
after_shelf ShelfFault count = one_more count
after_shelf other count = count

abbrev pub after_doors : ServeEnd → ℕ → ℕ
after_doors DoorFault count = one_more count
after_doors other count = count

abbrev pub after_output : ServeEnd → ℕ → ℕ
after_output WriteFault count = one_more count
after_output other count = count

-- ---- serving over nodes

-- what contracts see of doors that were opened at a port
abbrev pub opened_at : (port : ℕ) → DoorsSeen → DoorsSeen
opened_at port before = record before { ports = port ∷ [] }

-- what they see of doors that failed to open there
abbrev pub unopened_at : (port : ℕ) → DoorsSeen → DoorsSeen
unopened_at port before = record before { ports = port ∷ []; faults = one_more before.faults }

module _ {A N T : Type 0} (doors : DoorsMembers A N) (serving : Serving N T) (clock : T) (port : ℕ) (before : A) where
  abbrev began : DoorsSeen
  began = opened_at port (seen_of doors serving.conns before)

  -- why no other connection is served, how the doors stand, and what is known then
  abbrev pub Stops : Stop → (after : A) → (known : Known) → Type 0
  Stops why after known = IsStop doors serving (serving.shows clock) began why after known

  -- No connection came through the doors yet.
  abbrev pub IsUnvisited : (after : A) → (known : Known) → Type 0
  IsUnvisited after known = HasServed doors serving (serving.shows clock) began after Open 0 0 known

  -- the last passes ran
  abbrev pub RunsLast : (is_whole wants : Bool) → (known last : Known) → Type 0
  RunsLast is_whole wants known last = RunOnce serving.cluster serving.tells serving.shows clock is_whole wants known last

  -- The server ended like this; what the doors are, what was known as no other connection was served, and at last, and what was written.
  abbrev pub IsEnd : ServeEnd → (after : A) → (known last : Known) → (told : List ℕ) → Type 0
  IsEnd (Closed count) after known last told = Stops (stop.Ended count) after known × RunsLast true false known last × (told ≡ ready_text ++ closed_text count)
  IsEnd DoorFault after known last told =
      (last ≡ known)
      × (((doors.is_open after ≡ false) × (seen_of doors serving.conns after ≡ unopened_at port (seen_of doors serving.conns before)) × (told ≡ []))
      ⊎ (Stops stop.Failed after known × (told ≡ ready_text)))
  IsEnd WriteFault after known last told =
      ((last ≡ known) × IsUnvisited after known × IsProperFront told ready_text)
      ⊎ ((count : ℕ) × Stops (stop.Ended count) after known × RunsLast true false known last × (front : List ℕ) × IsProperFront front (closed_text count) × (told ≡ ready_text ++ front))
  IsEnd NoMemory after known last told =
      (told ≡ ready_text)
      × (((last ≡ known) × Stops stop.NoMemory after known) ⊎ ((count : ℕ) × Stops (stop.Ended count) after known × (is_whole : Bool) × (wants : Bool) × RunsLast is_whole wants known last))
  IsEnd ShelfFault after known last told = ⊥

  -- Connections were served over nodes up to this end: what was known as no other one was served is known at last.
  pub record ServesOver (end : ServeEnd) (after : A) (last : Known) (told : List ℕ) : Type 0 where
    pub known : Known
    pub ends : IsEnd end after known last told
    pub goes_on : GoesOn last known

-- ---- serving over a shelf

-- the shelf failed, or memory was wanted
abbrev pub IsUnready : ServeEnd → Type 0
IsUnready ShelfFault = ⊤
IsUnready NoMemory = ⊤
IsUnready other = ⊥

module _ {S D A N T : Type 0} (shelf : ShelfMembers S D) (doors : DoorsMembers A N) (serving : Serving N T) (clock : T) (port : ℕ) (stock : S) (before : A) where
  -- The disks were not all handed out and mounted: the doors are as they were, and nothing was written. Unless memory was wanted the disks are back.
  pub record IsUnmounted (end : ServeEnd) (stock' : S) (after : A) (told : List ℕ) : Type 0 where
    pub cause : IsUnready end
    pub came_back : end ≢ NoMemory → CameBack shelf serving.cluster stock stock'
    pub faults : shelf.faults stock' ≡ after_shelf end (shelf.faults stock)
    pub untouched : after ≡ before
    pub nothing : told ≡ []

  -- The disks were mounted, connections were served over their nodes, and the disks went back. What is known then is sound, goes on
  -- from all that was known before, and the disks are what it replays to.
  pub record Session (end : ServeEnd) (stock' : S) (after : A) (told : List ℕ) : Type 0 where
    pub given : List D
    pub handed : AreHanded shelf.seen shelf.hands serving.cluster.devices given
    pub mounted : AreMounted shelf.seen shelf.left_since serving.cluster given
    pub last : Known
    pub serves : ServesOver doors serving clock port before end after last told
    pub final : Known
    pub learnt : HasLearnt serving.cluster last final
    pub back : List (ℕ × D)
    pub each : length back ≡ length serving.cluster.devices
    pub disks : All (λ one. IsDiskOf serving.cluster shelf.seen final one.0 one.1) back
    pub returned : shelf.returned stock' ≡ with_all (shelf.returned stock) back
    pub faults : shelf.faults stock' ≡ with_faults shelf.seen (shelf.faults stock) back
    pub none_out : shelf.out stock' ≡ 0

  -- What a server did, however it ended: the doors' count of faults rose at their own failure alone.
  pub record IsServer (end : ServeEnd) (stock' : S) (after : A) (told : List ℕ) : Type 0 where
    pub did : Session end stock' after told ⊎ IsUnmounted end stock' after told
    pub door_faults : doors.faults after ≡ after_doors end (doors.faults before)
