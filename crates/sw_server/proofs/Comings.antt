-- Connections that came through doors, and went back.
use Rattle.std.proofs.Common.{◌≡◌, ℕ, suc, ◌+◌, ◌⊎◌, true, cond, is_some, List, [], ◌∷◌, ◌++◌, length, length-append, map, Contains, Option, Some, None, Ok, Err, IfSome, inl, inr, refl, sym, ap, subst, ◌∙◌, arith, append-nil, append_assoc}
use Rattle.std.proofs.lemmas.List.Elements.{All-nil, All-push, All-weaker, Contains-append_right}
use Rattle.std.specs.List.{All}
use Rattle.sw_words.specs.Counts.{one_more}
use Rattle.sw_diskfile.proofs.Lists.{Contains-first}
use Rattle.sw_io.specs.Doors.{HandsOut, TakesBack, with_done}
use Rattle.sw_pass.specs.declared.known.Known.{Known}
use Rattle.sw_server.specs.Acceptor.{HasServed, IsCounting, faults_in}
use Rattle.sw_server.specs.Served.{GoesOn, HasArrived, IsServed, Serving}
use Rattle.sw_server.specs.Visits.{AreBack, Bytes, ConnMembers, DoorsMembers, DoorsSeen, HaveCome, bytes_left, count_back, counted_with, seen_of}
use Rattle.sw_server.specs.declared.acceptor.DoorsState.{DoorsState}
use Rattle.sw_server.specs.declared.acceptor.DoorsState.TheVariants.{Ended, Failed, Full, Open}
use Rattle.sw_server.proofs.Going.{goes_both}

some_same : {X : Type 0} (one other : X) → Some one ≡ Some other → one ≡ other
some_same one other is = cc

-- ---- those that came

counted_more : (count more : ℕ) → counted_with count (more + 1) ≡ one_more (counted_with count more)
counted_more count more = let is : more + 1 ≡ suc more = omega arith in ap (counted_with count) is

none_came : (left : Option (List Bytes)) → HaveCome left left 0
none_came None = refl
none_came (Some all) = ([], all, refl, refl, refl)

module _ {N : Type 0} (conns : ConnMembers N) (E : Type 0) where
  abbrev bytes_of : List N → List Bytes
  bytes_of all = map (λ (conn : N). conns.remaining conn) all

  -- one more came, which is one of those that were left
  one_came : (left : Option (List Bytes)) (now next : Option (List N)) (count : ℕ) (conn : N) → HaveCome left (bytes_left conns now) count → HandsOut {E = E} now next (Ok (Some conn))
      → HaveCome left (bytes_left conns next) (count + 1) × HasArrived left (conns.remaining conn)
  one_came None None next count conn so_far out = (ap (bytes_left conns) out, tt)
  one_came None (Some list) next count conn so_far out = absurd (cc)
  one_came (Some all) None next count conn (came, rest, split, long, is) out = absurd (cc)
  one_came (Some all) (Some list) next count conn (came, rest, split, long, is) (others, first, next_is) =
      let same : bytes_of list ≡ rest = some_same (bytes_of list) rest is in
      let rest_is : rest ≡ conns.remaining conn ∷ bytes_of others = sym same ∙ ap bytes_of first in
      let all_is : all ≡ came ++ conns.remaining conn ∷ bytes_of others = split ∙ ap (λ more. came ++ more) rest_is in (
        (
          came ++ conns.remaining conn ∷ [],
          bytes_of others,
          all_is ∙ sym (append_assoc came (conns.remaining conn ∷ []) (bytes_of others)),
          length-append came (conns.remaining conn ∷ []) ∙ ap (λ (n : ℕ). n + 1) long,
          ap (bytes_left conns) next_is,
        ),
        subst (λ (list : List Bytes). Contains list (conns.remaining conn)) (sym all_is) (Contains-append_right came (conns.remaining conn ∷ bytes_of others) (conns.remaining conn) (Contains-first (conns.remaining conn) (bytes_of others))),
      )

  -- no other one comes
  none_comes : (left : Option (List Bytes)) (now next : Option (List N)) (count : ℕ) → HaveCome left (bytes_left conns now) count → HandsOut {E = E} now next (Ok None)
      → HaveCome left (bytes_left conns next) count × IfSome next (λ all. all ≡ [])
  none_comes left None next count so_far out = (subst (λ told. HaveCome left (bytes_left conns told) count) (sym out) so_far, subst (λ told. IfSome told (λ (all : List N). all ≡ [])) (sym out) tt)
  none_comes left (Some list) next count so_far (none, out) = (
    subst (λ told. HaveCome left (bytes_left conns told) count) (ap Some none ∙ sym out) so_far,
    subst (λ told. IfSome told (λ (all : List N). all ≡ [])) (sym out) refl,
  )

  -- none came where the doors failed
  left_same : (left : Option (List Bytes)) (now next : Option (List N)) (count : ℕ) (error : E) → HaveCome left (bytes_left conns now) count → HandsOut now next (Err error) → HaveCome left (bytes_left conns next) count
  left_same left None next count error so_far out = subst (λ told. HaveCome left (bytes_left conns told) count) (sym out) so_far
  left_same left (Some list) next count error so_far out = subst (λ told. HaveCome left (bytes_left conns told) count) (sym out) so_far

-- ---- those that went

module _ {N : Type 0} where
  none_back : (back : Option (List N)) → AreBack (count_back back) back []
  none_back None = refl
  none_back (Some all) = (all, refl, ap Some (sym (append-nil all)))

  -- a finished one is back
  abbrev went_with : Option N → List N → List N
  went_with None went = went
  went_with (Some conn) went = went ++ conn ∷ []

  one_back : (before : Option ℕ) (back : Option (List N)) (went : List N) (done : Option N) → AreBack before back went → AreBack before (with_done back done) (went_with done went)
  one_back before back went None so_far = subst (λ told. AreBack before told went) (sym (with_none back)) so_far
    where
      with_none : (told : Option (List N)) → with_done told None ≡ told
      with_none None = refl
      with_none (Some all) = refl
  one_back None back went (Some conn) so_far = ap (λ told. with_done told (Some conn)) so_far
  one_back (Some number) back went (Some conn) (earlier, long, is) = (earlier, long, ap (λ told. with_done told (Some conn)) is ∙ ap Some (append_assoc earlier went (conn ∷ [])))

  counts_done : (went : List N) (conn : N) → length (went_with (Some conn) went) ≡ length went + 1
  counts_done went conn = length-append went (conn ∷ [])

-- ---- what the seat of the doors knows

module _ {A N T : Type 0} (doors : DoorsMembers A N) (serving : Serving N T) (times : ℕ → Type 0) (began : DoorsSeen) where
  abbrev Served : A → DoorsState → (handed back : ℕ) → Known → Type 0
  Served now state handed back known = HasServed doors serving times began now state handed back known

  -- what was served is so as more is known
  pub served_more : (known more : Known) (went : N) → GoesOn more known → IsServed serving times began.left known went → IsServed serving times began.left more went
  served_more known more went goes it = record {
    came = it.came;
    fresh = it.fresh;
    arrived = it.arrived;
    clock = it.clock;
    shown = it.shown;
    before = it.before;
    end = it.end;
    after = it.after;
    serves = it.serves;
    counts = it.counts;
    closed = it.closed;
    known_still = goes_both it.after known more it.known_still goes;
  }

  pub known_more : (now : A) (state : DoorsState) (handed back : ℕ) (known more : Known) → GoesOn more known → Served now state handed back known → Served now state handed back more
  known_more now state handed back known more goes has = record {
    ports = has.ports;
    is_open = has.is_open;
    faults = has.faults;
    handed_is = has.handed_is;
    came = has.came;
    went = has.went;
    served = All-weaker (IsServed serving times began.left known) (IsServed serving times began.left more) (λ went it. served_more known more went goes it) has.went has.served;
    back_are = has.back_are;
    counted = has.counted;
    none_left = has.none_left;
  }

  -- no connection came yet
  pub none_yet : (now : A) (known : Known) → began ≡ seen_of doors serving.conns now → doors.is_open now ≡ true → Served now Open 0 0 known
  none_yet now known is is_open = record {
    ports = ap (λ (seen : DoorsSeen). seen.ports) (sym is);
    is_open = is_open;
    faults = ap (λ (seen : DoorsSeen). seen.faults) (sym is);
    handed_is = ap (λ (seen : DoorsSeen). seen.handed) (sym is);
    came = subst (λ (seen : DoorsSeen). HaveCome seen.left (bytes_left serving.conns (doors.left now)) 0) (sym is) (none_came (bytes_left serving.conns (doors.left now)));
    went = [];
    served = All-nil (IsServed serving times began.left known);
    back_are = subst (λ (seen : DoorsSeen). AreBack seen.back (doors.back now) []) (sym is) (none_back (doors.back now));
    counted = λ counting. refl;
    none_left = λ ended. absurd (cc);
  }

  -- The doors were asked for a connection: these stay as they are.
  pub record StaysOpen (now next : A) : Type 0 where
    pub ports : doors.ports next ≡ doors.ports now
    pub is_open : doors.is_open next ≡ doors.is_open now

  served_with : (known : Known) (went : List N) (done : Option N) → All (IsServed serving times began.left known) went → IfSome done (IsServed serving times began.left known) → All (IsServed serving times began.left known) (went_with done went)
  served_with known went None served it = served
  served_with known went (Some conn) served it = All-push (IsServed serving times began.left known) went conn served it

  counting_faults : (state : DoorsState) (count : ℕ) → IsCounting state → faults_in state count ≡ count
  counting_faults Open count counting = refl
  counting_faults Ended count counting = refl
  counting_faults Failed count counting = absurd counting
  counting_faults Full count counting = absurd counting

  -- how many are back once a finished one is
  abbrev pub back_with : Option N → ℕ → ℕ
  back_with None back = back
  back_with (Some conn) back = back + 1

  pub back_is : (done : Option N) (one back counted : ℕ) → one ≡ cond (is_some done) 1 0 → counted ≡ back + one → counted ≡ back_with done back
  back_is None one back counted one_is is = omega (arith, one_is, is)
  back_is (Some conn) one back counted one_is is = omega (arith, one_is, is)

  counts_with : (went : List N) (done : Option N) (back : ℕ) → length went ≡ back → length (went_with done went) ≡ back_with done back
  counts_with went None back is = is
  counts_with went (Some conn) back is = counts_done went conn ∙ ap (λ (n : ℕ). n + 1) is

  module _ (E : Type 0) (now next : A) (state : DoorsState) (handed back : ℕ) (known : Known) (has : Served now state handed back known) (counting : IsCounting state) (stays : StaysOpen now next) (done : Option N) (finished : IfSome done (IsServed serving times began.left known)) where
    -- one more came
    pub one_further : (conn : N) → TakesBack {E = E} (doors.back now) (doors.back next) done (Ok (Some conn)) → HandsOut {E = E} (doors.left now) (doors.left next) (Ok (Some conn)) → doors.handed next ≡ one_more (doors.handed now) → doors.faults next ≡ doors.faults now
        → Served next state (handed + 1) (back_with done back) known × HasArrived began.left (serving.conns.remaining conn)
    one_further conn takes out count quiet =
        let came = one_came serving.conns E began.left (doors.left now) (doors.left next) handed conn has.came out in (
          record {
            ports = stays.ports ∙ has.ports;
            is_open = stays.is_open ∙ has.is_open;
            faults = quiet ∙ has.faults;
            handed_is = count ∙ ap one_more has.handed_is ∙ sym (counted_more began.handed handed);
            came = came.0;
            went = went_with done has.went;
            served = served_with known has.went done has.served finished;
            back_are = subst (λ told. AreBack began.back told (went_with done has.went)) (sym takes) (one_back began.back (doors.back now) has.went done has.back_are);
            counted = λ is. counts_with has.went done back (has.counted counting);
            none_left = λ ended. none_after (doors.left now) (doors.left next) (has.none_left ended) out;
          },
          came.1,
        )
      where
        -- where none was left none can come
        none_after : (left left' : Option (List N)) → IfSome left (λ all. all ≡ []) → HandsOut {E = E} left left' (Ok (Some conn)) → IfSome left' (λ all. all ≡ [])
        none_after None left' none is = subst (λ told. IfSome told (λ (all : List N). all ≡ [])) (sym is) tt
        none_after (Some all) left' none (rest, is, more) = absurd (cc)

    -- no other one comes
    pub none_further : TakesBack {E = E} (doors.back now) (doors.back next) done (Ok None) → HandsOut {E = E} (doors.left now) (doors.left next) (Ok None) → doors.handed next ≡ doors.handed now → doors.faults next ≡ doors.faults now → Served next Ended handed (back_with done back) known
    none_further takes out count quiet =
        let came = none_comes serving.conns E began.left (doors.left now) (doors.left next) handed has.came out in
        record {
          ports = stays.ports ∙ has.ports;
          is_open = stays.is_open ∙ has.is_open;
          faults = quiet ∙ has.faults ∙ counting_faults state began.faults counting;
          handed_is = count ∙ has.handed_is;
          came = came.0;
          went = went_with done has.went;
          served = served_with known has.went done has.served finished;
          back_are = subst (λ told. AreBack began.back told (went_with done has.went)) (sym takes) (one_back began.back (doors.back now) has.went done has.back_are);
          counted = λ is. counts_with has.went done back (has.counted counting);
          none_left = λ ended. came.1;
        }

    -- the doors failed, and a finished one may be lost
    pub none_more : (error : E) → TakesBack (doors.back now) (doors.back next) done (Err error) → HandsOut (doors.left now) (doors.left next) (Err error) → doors.handed next ≡ doors.handed now → doors.faults next ≡ one_more (doors.faults now) → Served next Failed handed back known
    none_more error takes out count failed = by takes
      where
        with : (went : List N) → All (IsServed serving times began.left known) went → AreBack began.back (doors.back next) went → Served next Failed handed back known
        with went served back_are = record {
          ports = stays.ports ∙ has.ports;
          is_open = stays.is_open ∙ has.is_open;
          faults = failed ∙ ap one_more (has.faults ∙ counting_faults state began.faults counting);
          handed_is = count ∙ has.handed_is;
          came = left_same serving.conns E began.left (doors.left now) (doors.left next) handed error has.came out;
          went = went;
          served = served;
          back_are = back_are;
          counted = λ is. absurd is;
          none_left = λ ended. absurd (cc);
        }

        by : (doors.back next ≡ with_done (doors.back now) done) ⊎ (doors.back next ≡ doors.back now) → Served next Failed handed back known
        by (inl is) = with (went_with done has.went) (served_with known has.went done has.served finished) (subst (λ told. AreBack began.back told (went_with done has.went)) (sym is) (one_back began.back (doors.back now) has.went done has.back_are))
        by (inr is) = with has.went has.served (subst (λ told. AreBack began.back told has.went) (sym is) has.back_are)

  -- as many came or went as can be counted
  pub is_full : (now : A) (state : DoorsState) (handed back : ℕ) (known : Known) → Served now state handed back known → IsCounting state → Served now Full handed back known
  is_full now state handed back known has counting = record {
    ports = has.ports;
    is_open = has.is_open;
    faults = has.faults ∙ counting_faults state began.faults counting;
    handed_is = has.handed_is;
    came = has.came;
    went = has.went;
    served = has.served;
    back_are = has.back_are;
    counted = λ is. absurd is;
    none_left = λ ended. absurd (cc);
  }
