-- What stands behind the lock of doors.
use Rattle.std.specs.Prelude.{◌≡◌, ℕ, true, List, [], length, IfSome, ⊤}
use Rattle.std.specs.List.{All}
use Rattle.atomic_table.specs.Seated.{TableId}
use Rattle.sw_words.specs.Counts.{one_more}
use Rattle.sw_pass.specs.declared.known.Known.{Known}
use Rattle.sw_server.specs.Served.{IsServed, Serving}
use Rattle.sw_server.specs.Visits.{AreBack, DoorsMembers, DoorsSeen, HaveCome, bytes_left, counted_with}
use Rattle.sw_server.specs.declared.acceptor.DoorsState.{DoorsState}
use Rattle.sw_server.specs.declared.acceptor.DoorsState.TheVariants.{Ended, Failed, Open}

-- the doors and the borrow of them, a seat's table and what it knows, how the doors stand, and how many connections were handed out and taken back
pub record AcceptorModel (A : Type 0) : Type 0 where
  pub doors : A
  pub borrow : ℕ
  pub table : TableId
  pub known : Known
  pub state : DoorsState
  pub handed : ℕ
  pub back : ℕ

-- the doors' count of faults
abbrev pub faults_in : DoorsState → ℕ → ℕ
faults_in Failed count = one_more count
faults_in other count = count

-- connections are counted
abbrev pub IsCounting : DoorsState → Type 0
IsCounting Open = ⊤
IsCounting Ended = ⊤
IsCounting other = ⊥

module _ {A N T : Type 0} (doors : DoorsMembers A N) (serving : Serving N T) (times : ℕ → Type 0) (began : DoorsSeen) where
  -- Since doors were opened so many connections came through them, and so many are back; each of these was served, as a seat knows.
  pub record HasServed (now : A) (state : DoorsState) (handed back : ℕ) (known : Known) : Type 0 where
    pub ports : doors.ports now ≡ began.ports
    pub is_open : doors.is_open now ≡ true
    pub faults : doors.faults now ≡ faults_in state began.faults
    pub handed_is : doors.handed now ≡ counted_with began.handed handed
    pub came : HaveCome began.left (bytes_left serving.conns (doors.left now)) handed
    pub went : List N
    pub served : All (IsServed serving times began.left known) went
    pub back_are : AreBack began.back (doors.back now) went
    pub counted : IsCounting state → length went ≡ back
    pub none_left : state ≡ Ended → IfSome (doors.left now) (λ left. left ≡ [])

  -- What always holds of what stands behind the lock of doors.
  pub record IsAcceptor (borrow : ℕ) (table : TableId) (it : AcceptorModel A) : Type 0 where
    pub same_borrow : it.borrow ≡ borrow
    pub same_table : it.table ≡ table
    pub has_served : HasServed it.doors it.state it.handed it.back it.known
