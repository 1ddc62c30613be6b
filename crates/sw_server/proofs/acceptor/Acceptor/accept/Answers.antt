use Rattle.std.proofs.Common.{◌≡◌, ℕ, ◌+◌, cond, is_some, Option, Some, None, Ok, refl, subst, rules, ◌∙◌}
use Rattle.std.specs.Prelude.{IfSome}
use Rattle.sw_pass.specs.Steps.{Knows, joined, learned, noted}
use Rattle.sw_pass.specs.declared.known.Known.{Known}
use Rattle.sw_io.specs.Doors.{HandsOut, TakesBack, handed_after}
use Rattle.sw_io.specs.declared.doors.DoorFailed.{DoorFailed}
use Rattle.sw_server.specs.Acceptor.{HasServed, IsCounting}
use Rattle.sw_server.specs.Served.{HasArrived, IsServed, Serving}
use Rattle.sw_server.specs.Visits.{DoorsMembers}
use Rattle.sw_server.specs.declared.acceptor.DoorsState.{DoorsState}
use Rattle.sw_server.specs.declared.acceptor.DoorsState.TheVariants.{Ended}
use Rattle.sw_server.proofs.Comings.{StaysOpen, back_is, back_with, is_full, known_more, none_further, none_more, one_further, served_more}
use Rattle.sw_server.proofs.Going.{goes_own, goes_told}
use Rattle.sw_server.proofs.acceptor.Acceptor.accept.Given.{Over}
use Rattle.sw_server.proofs.acceptor.Acceptor.accept.Goals as goal

abbrev doors_of : (g : Over) → DoorsMembers g.row.A.Denot g.row.A-Conn.Denot
doors_of g = record { ports = g.A.Doors.ports; is_open = g.A.Doors.is_open; handed = g.A.Doors.handed; back = g.A.Doors.back; left = g.A.Doors.left; faults = g.A.Doors.faults }

abbrev serving_of : (g : Over) → Serving g.row.A-Conn.Denot g.row.T.Denot
serving_of g = record {
  conns = record { remaining = g.A.Conn.Conn.remaining; written = g.A.Conn.Conn.written; faults = g.A.Conn.Conn.faults; closed = g.A.Conn.Conn.closed };
  shows = g.T.Clock.shows;
  cluster = g.C.OfCluster.cluster;
  tells = g.B.Opening.tells;
}

abbrev Served : (g : Over) → g.row.A.Denot → DoorsState → (handed back : ℕ) → Known → Type 0
Served g now state handed back known = HasServed (doors_of g) (serving_of g) g.B.Opening.times g.B.Opening.began now state handed back known

-- what the doors' answer says of those that are back, of those that are left, and of the count
abbrev Taken : (g : Over) → (now next : g.row.A.Denot) → Option g.row.A-Conn.Denot → Option g.row.A-Conn.Denot → Type 0
Taken g now next done came = TakesBack {E = DoorFailed} (g.A.Doors.back now) (g.A.Doors.back next) done (Ok came)

abbrev Out : (g : Over) → (now next : g.row.A.Denot) → Option g.row.A-Conn.Denot → Type 0
Out g now next came = HandsOut {E = DoorFailed} (g.A.Doors.left now) (g.A.Doors.left next) (Ok came)

abbrev Count : (g : Over) → (now next : g.row.A.Denot) → Option g.row.A-Conn.Denot → Type 0
Count g now next came = g.A.Doors.handed next ≡ handed_after {E = DoorFailed} (g.A.Doors.handed now) (Ok came)

-- how many are back once a finished one is
abbrev back_so : (g : Over) → Option g.row.A-Conn.Denot → ℕ → ℕ
back_so g done back = back_with (doors_of g) (serving_of g) g.B.Opening.times g.B.Opening.began done back

-- What was known of those that are back is known once the seat has taken in a note, and the worker's pass knows no more.
module _ (g : Over) (seat note after : Known) (rest : after ≡ learned (joined seat note)) (learnt : Knows g.C.OfCluster.cluster (joined seat note)) where
  still : (now : g.row.A.Denot) (state : DoorsState) (handed back : ℕ) → Served g now state handed back seat → Served g now state handed back after
  still now state handed back has = known_more (doors_of g) (serving_of g) g.B.Opening.times g.B.Opening.began now state handed back seat after (goes_own g.C.OfCluster.cluster seat note after rest learnt) has

  finished : (pass : Known) (done : Option g.row.A-Conn.Denot) → note ≡ noted pass → IfSome done (IsServed (serving_of g) g.B.Opening.times g.B.Opening.began.left pass) → IfSome done (IsServed (serving_of g) g.B.Opening.times g.B.Opening.began.left after)
  finished pass None is served = tt
  finished pass (Some conn) is served = served_more (doors_of g) (serving_of g) g.B.Opening.times g.B.Opening.began pass after conn (goes_told g.C.OfCluster.cluster seat note after rest learnt pass is) served

  module _ (now next : g.row.A.Denot) (state : DoorsState) (handed back : ℕ) (pass : Known) (done : Option g.row.A-Conn.Denot) (has : Served g now state handed back seat) (is_counting : IsCounting state)
      (stays : StaysOpen (doors_of g) (serving_of g) g.B.Opening.times g.B.Opening.began now next) (is : note ≡ noted pass) (served : IfSome done (IsServed (serving_of g) g.B.Opening.times g.B.Opening.began.left pass)) (quiet : g.A.Doors.faults next ≡ g.A.Doors.faults now) where
    -- one more came
    came : (field : Option g.row.A-Conn.Denot) (conn : g.row.A-Conn.Denot) → field ≡ Some conn → Taken g now next done field → Out g now next field → Count g now next field
        → Served g next state (handed + 1) (back_so g done back) after × HasArrived g.B.Opening.began.left (g.A.Conn.Conn.remaining conn)
    came field conn is_conn taken out count = one_further (doors_of g) (serving_of g) g.B.Opening.times g.B.Opening.began DoorFailed now next state handed back after (still now state handed back has) is_counting stays done (finished pass done is served) conn
        (subst (Taken g now next done) is_conn taken) (subst (Out g now next) is_conn out) (subst (Count g now next) is_conn count) quiet

    -- none comes
    ended : (field : Option g.row.A-Conn.Denot) → field ≡ None → Taken g now next done field → Out g now next field → Count g now next field → Served g next Ended handed (back_so g done back) after
    ended field is_none taken out count = none_further (doors_of g) (serving_of g) g.B.Opening.times g.B.Opening.began DoorFailed now next state handed back after (still now state handed back has) is_counting stays done (finished pass done is served)
        (subst (Taken g now next done) is_none taken) (subst (Out g now next) is_none out) (subst (Count g now next) is_none count) quiet

pub invariant_of-self : goal.invariant_of-self
invariant_of-self g c = record {
  same_borrow = c.self.invariant.same_borrow;
  same_table = c.join.ensures.table ∙ c.self.invariant.same_table;
  has_served = still g c.self.inside.seat.known c.note.result.known c.join.new.self.known c.join.ensures.known c.join.ensures.learnt _ _ _ _ c.self.invariant.has_served;
}

pub invariant_of-self-in_default : goal.invariant_of-self-in_default
invariant_of-self-in_default g c = record {
  same_borrow = c.self.invariant.same_borrow;
  same_table = c.join.ensures.table ∙ c.self.invariant.same_table;
  has_served = is_full _ _ _ _ _ _ _ _ _ (still g c.self.inside.seat.known c.note.result.known c.join.new.self.known c.join.ensures.known c.join.ensures.learnt _ _ _ _ c.self.invariant.has_served)
      (c.is_counting.ensures.0 (search rules));
}

pub invariant_of-self-in_default-checked_add : goal.invariant_of-self-in_default-checked_add
invariant_of-self-in_default-checked_add g c = record {
  same_borrow = c.self.invariant.same_borrow;
  same_table = c.join.ensures.table ∙ c.self.invariant.same_table;
  has_served = is_full _ _ _ _ _ _ _ _ _ (still g c.self.inside.seat.known c.note.result.known c.join.new.self.known c.join.ensures.known c.join.ensures.learnt _ _ _ _ c.self.invariant.has_served)
      (c.is_counting.ensures.0 (search rules));
}

pub invariant_of-self-in-Err : goal.invariant_of-self-in-Err
invariant_of-self-in-Err g c =
    let asked = c.in-Err.ensures in
    record {
      same_borrow = c.self.invariant.same_borrow;
      same_table = c.join.ensures.table ∙ c.self.invariant.same_table;
      has_served = none_more (doors_of g) (serving_of g) g.B.Opening.times g.B.Opening.began _ c.self.inside.lent.doors.now c.accept.new.self c.self.inside.state c.self.inside.handed c.self.inside.back c.join.new.self.known
          (still g c.self.inside.seat.known c.note.result.known c.join.new.self.known c.join.ensures.known c.join.ensures.learnt _ _ _ _ c.self.invariant.has_served)
          (c.is_counting.ensures.0 (search rules)) (record { ports = asked.ports; is_open = asked.is_open }) c.args.done
          (finished g c.self.inside.seat.known c.note.result.known c.join.new.self.known c.join.ensures.known c.join.ensures.learnt c.args.pass.now.known c.args.done c.note.ensures.known c.requires.served)
          c.in-Err.field-0 asked.back asked.left asked.handed (asked.counted.counted (search rules));
    }

pub invariant_of-self-in-Ok-Some : goal.invariant_of-self-in-Ok-Some
invariant_of-self-in-Ok-Some g c =
    let asked = c.in-Ok-Some.ensures in
    let it = came g c.self.inside.seat.known c.note.result.known c.join.new.self.known c.join.ensures.known c.join.ensures.learnt c.self.inside.lent.doors.now c.accept.new.self c.self.inside.state c.self.inside.handed c.self.inside.back c.args.pass.now.known c.args.done
    c.self.invariant.has_served (c.is_counting.ensures.0 (search rules)) (record { ports = asked.ports; is_open = asked.is_open }) c.note.ensures.known c.requires.served (asked.counted.quiet refl) c.in-Ok-Some.field-0 c.in-Ok-Some.conn c.in-Ok-Some.field-0-is asked.back asked.left
    asked.handed in
    let handed : c.in-Some.handed ≡ c.self.inside.handed + 1 = search rules in
    let one : c.from.result ≡ cond (is_some c.args.done) 1 0 = search rules in
    let sum : c.in-Some-checked_add.back ≡ c.self.inside.back + c.from.result = search rules in
    let back : c.in-Some-checked_add.back ≡ back_so g c.args.done c.self.inside.back = back_is (doors_of g) (serving_of g) g.B.Opening.times g.B.Opening.began c.args.done c.from.result c.self.inside.back c.in-Some-checked_add.back one sum in
    record { same_borrow = c.self.invariant.same_borrow; same_table = c.join.ensures.table ∙ c.self.invariant.same_table; has_served = rw (handed, back) it.0 }

pub invariant_of-self-in-Ok-None : goal.invariant_of-self-in-Ok-None
invariant_of-self-in-Ok-None g c =
    let asked = c.in-Ok-None.ensures in
    let it = ended g c.self.inside.seat.known c.note.result.known c.join.new.self.known c.join.ensures.known c.join.ensures.learnt c.self.inside.lent.doors.now c.accept.new.self c.self.inside.state c.self.inside.handed c.self.inside.back c.args.pass.now.known c.args.done
    c.self.invariant.has_served (c.is_counting.ensures.0 (search rules)) (record { ports = asked.ports; is_open = asked.is_open }) c.note.ensures.known c.requires.served (asked.counted.quiet refl) c.in-Ok-None.field-0 c.in-Ok-None.field-0-is asked.back asked.left asked.handed in
    let one : c.from.result ≡ cond (is_some c.args.done) 1 0 = search rules in
    let sum : c.in-Some-checked_add.back ≡ c.self.inside.back + c.from.result = search rules in
    let back : c.in-Some-checked_add.back ≡ back_so g c.args.done c.self.inside.back = back_is (doors_of g) (serving_of g) g.B.Opening.times g.B.Opening.began c.args.done c.from.result c.self.inside.back c.in-Some-checked_add.back one sum in
    record { same_borrow = c.self.invariant.same_borrow; same_table = c.join.ensures.table ∙ c.self.invariant.same_table; has_served = rw back it }

pub returns-in-Ok-Some-clause-arrived : goal.returns-in-Ok-Some-clause-arrived
returns-in-Ok-Some-clause-arrived g c =
    let asked = c.in-Ok-Some.ensures in
    (came g c.self.inside.seat.known c.note.result.known c.join.new.self.known c.join.ensures.known c.join.ensures.learnt c.self.inside.lent.doors.now c.accept.new.self c.self.inside.state c.self.inside.handed c.self.inside.back c.args.pass.now.known c.args.done
    c.self.invariant.has_served (c.is_counting.ensures.0 (search rules)) (record { ports = asked.ports; is_open = asked.is_open }) c.note.ensures.known c.requires.served (asked.counted.quiet refl) c.in-Ok-Some.field-0 c.in-Ok-Some.conn c.in-Ok-Some.field-0-is asked.back asked.left
    asked.handed).1
