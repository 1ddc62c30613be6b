-- What the ends of a get show.
use Rattle.std.proofs.Common.{◌≡◌, inl, inr, ℕ, ◌+◌, ◌*◌, ◌==◌, ◌<◌, ◌≤◌, false, ◌||◌, Contains, ◌++◌, List, [], ◌∷◌, length, length-append, nat_lt, Option, Some, None, refl, sym, ap, subst, ◌∙◌, arith}
use Rattle.std.specs.List.{All}
use Rattle.std.proofs.lemmas.Bool.{cases_Bool, ltb-false, ltb-true, or_parts}
use Rattle.std.proofs.lemmas.Bool.Decides.{nat_tests}
use Rattle.std.proofs.lemmas.List.Elements.{All-append, All-cons, All-nil, All-weaker}
use Rattle.std.proofs.lemmas.Option.{none-some, same_Some}
use Rattle.sw_words.proofs.Rules.{kept}
use Rattle.sw_types.specs.Policy.{PolicyModel, greatest_total, policy_fault}
use Rattle.sw_types.specs.declared.policy.PolicyFault.TheVariants.{C, K, M, N, Q}
use Rattle.sw_hashdir.specs.declared.floor.Floor.{Floor}
use Rattle.sw_hashdir.specs.declared.floor.FloorKind.TheVariants.{Durable}
use Rattle.sw_ring.proofs.Among.{Contains-cons}
use Rattle.sw_message.specs.Floors.{IsHighest, floors_in, tombstone_floor}
use Rattle.sw_message.specs.Transcript.{IsRun, Step}
use Rattle.sw_message.specs.declared.message.Msg.{Msg}
use Rattle.sw_message.specs.declared.message.Msg.TheVariants as message
use Rattle.sw_message.specs.declared.miss.Miss.{Miss}
use Rattle.sw_message.specs.declared.sent.Sent.{Sent}
use Rattle.sw_message.proofs.Highest.{is_highest}
use Rattle.sw_get.specs.Causes.{IsAbsent, IsBuried, IsOvertaken, IsTooFew, IsUnanswered, LastRound, LeavesUnanswered, WasMissed}
use Rattle.sw_get.specs.Get.{AreTurns, Begun, EndsAfter, Hears, IsBegun, IsEnd, IsNext, Sends, Turn, devices, events, facts_in, facts_of, failing, floors_shown, from_in, going_in, missing, most_kept, round_in, source_of}
use Rattle.sw_get.specs.Meaning.{Brings, Lacks, Lists, Meaning, Misses}
use Rattle.sw_get.specs.Round.{Facts, target_of}
use Rattle.sw_get.specs.declared.end.GetEnd.TheVariants as gets
use Rattle.sw_get.specs.declared.round_end.Going.{Going}
use Rattle.sw_get.specs.declared.round_end.Going.TheVariants as going
use Rattle.sw_get.specs.declared.round_end.KeptEvent.{KeptEvent}
use Rattle.sw_get.specs.declared.round_end.RoundEnd.TheVariants as round
use Rattle.sw_get.proofs.Goings.{AreAllHeard, AreFetched, GoingSays, LeavesNone, SomeMissed}
use Rattle.sw_get.proofs.Indices.{are_indices, first_indices}
use Rattle.sw_get.proofs.Kept.{all_answered, count_indices, kept_now, level_so, nothing_open, wanting_so, were_kept}
use Rattle.sw_gather.proofs.Lists.{here}
use Rattle.sw_get.proofs.Runs.{Keeps, all_kept, says as going_known}
use Rattle.sw_get.proofs.Says.{are_heard}
use Rattle.sw_get.proofs.Shown.{shown_among, target_shown}

-- ---- misses of a round

some_quorum : (p : PolicyModel) → policy_fault p ≡ None → 1 ≤ p.c
some_quorum p h =
    let first = kept (p.k == 0) (K p.k) _ h in
    let parity = kept (p.m == 0 || nat_lt (3 * p.k) p.m) (M p.m) _ first.1 in
    let total = kept (nat_lt greatest_total (p.k + p.m)) (N (p.k + p.m)) _ parity.1 in
    let synced = kept (nat_lt p.q p.k || nat_lt (p.k + p.m) p.q) (Q p.q) _ total.1 in
    let commits = kept (p.c == 0 || nat_lt p.q p.c) (C p.c) _ synced.1 in
    let none : (p.c == 0) ≡ false = (or_parts (p.c == 0) (nat_lt p.q p.c) commits.0).0 in
    grind (arith, nat_tests)

one_source : (device : ℕ) (msg : Msg) → length (source_of device msg) ≤ 1
one_source device (message.Ask place) = omega arith
one_source device (message.Fetch place stamp index) = omega arith
one_source device (message.PutFrag place stamp index bytes) = omega arith
one_source device (message.Commit place stamp index) = omega arith
one_source device (message.Delete place stamp) = omega arith
one_source device (message.Remove place stamp index) = omega arith
one_source device message.Parts = omega arith
one_source device (message.Suffixes part) = omega arith
one_source device (message.Places part) = omega arith

failed_missed : (device : ℕ) (msg : Msg) (meaning : Meaning) → length (failing device msg meaning) ≤ length (missing device meaning)
failed_missed device msg (Lists listing) = omega arith
failed_missed device msg (Lacks listing) = omega arith
failed_missed device msg (Brings archive) = omega arith
failed_missed device msg (Misses how) = omega (arith, one_source device msg)

-- each source that missed is among the misses
failed_few : (turns : List Turn) → length (facts_of turns).failed ≤ length (facts_of turns).misses
failed_few [] = omega arith
failed_few (Sends sent ∷ turns) = failed_few turns
failed_few (Hears sent meaning ∷ turns) =
    omega (
      arith,
      failed_few turns,
      failed_missed sent.device sent.msg meaning,
      length-append (facts_of turns).failed (failing sent.device sent.msg meaning),
      length-append (facts_of turns).misses (missing sent.device meaning),
    )

missed_more : (turns : List Turn) (turn : Turn) (one : ℕ × Miss) → WasMissed turns one → WasMissed (turn ∷ turns) one
missed_more turns turn one is = (is.0, Contains-cons (Hears is.0 (Misses one.1)) turn turns is.1, is.2)

missed_now : (turns : List Turn) (sent : Sent) (meaning : Meaning) → All (WasMissed (Hears sent meaning ∷ turns)) (missing sent.device meaning)
missed_now turns sent (Lists listing) = All-nil (WasMissed (Hears sent (Lists listing) ∷ turns))
missed_now turns sent (Lacks listing) = All-nil (WasMissed (Hears sent (Lacks listing) ∷ turns))
missed_now turns sent (Brings archive) = All-nil (WasMissed (Hears sent (Brings archive) ∷ turns))
missed_now turns sent (Misses how) =
    All-cons (WasMissed (Hears sent (Misses how) ∷ turns)) (sent.device, how) [] (sent, here (Hears sent (Misses how)) turns, refl) (All-nil (WasMissed (Hears sent (Misses how) ∷ turns)))

all_missed : (turns : List Turn) → All (WasMissed turns) (facts_of turns).misses
all_missed [] = All-nil (WasMissed [])
all_missed (Sends sent ∷ turns) = All-weaker (WasMissed turns) (WasMissed (Sends sent ∷ turns)) (missed_more turns (Sends sent)) (facts_of turns).misses (all_missed turns)
all_missed (Hears sent meaning ∷ turns) =
    All-append (WasMissed (Hears sent meaning ∷ turns)) (facts_of turns).misses (missing sent.device meaning)
    (All-weaker (WasMissed turns) (WasMissed (Hears sent meaning ∷ turns)) (missed_more turns (Hears sent meaning)) (facts_of turns).misses (all_missed turns)) (missed_now turns sent meaning)

-- a list that has nothing is empty
nil_from_none : {A : Type 0} (xs : List A) → ((x : A) → Contains xs x → ⊥) → xs ≡ []
nil_from_none [] none = refl
nil_from_none (x ∷ xs) none = absurd (none x (here x xs))

-- ---- how it ended

module _ (begun : Begun) (turns : List Turn) where
  absent_by : (next : Going) → EndsAfter begun turns next gets.Absent → next ≡ going.End round.Absent
  absent_by (going.End (round.Found stamp)) is = absurd (cc (is.2))
  absent_by (going.End round.Absent) is = refl
  absent_by (going.End (round.Buried stamp)) is = absurd (cc)
  absent_by (going.End round.Unanswered) is = absurd (cc)
  absent_by (going.End (round.TooFew stamp have)) is = absurd (cc)
  absent_by (going.Keep event) is = absurd (cc (is.1))
  absent_by (going.Ask device) is = absurd is
  absent_by (going.Fetch stamp source) is = absurd is
  absent_by going.Wait is = absurd is

  buried_by : (stamp : ℕ) (next : Going) → EndsAfter begun turns next (gets.Buried stamp) → next ≡ going.End (round.Buried stamp)
  buried_by stamp (going.End (round.Found other)) is = absurd (cc (is.2))
  buried_by stamp (going.End round.Absent) is = absurd (cc)
  buried_by stamp (going.End (round.Buried other)) is = let same : other ≡ stamp = cc in ap (λ n. going.End (round.Buried n)) same
  buried_by stamp (going.End round.Unanswered) is = absurd (cc)
  buried_by stamp (going.End (round.TooFew other have)) is = absurd (cc)
  buried_by stamp (going.Keep event) is = absurd (cc (is.1))
  buried_by stamp (going.Ask device) is = absurd is
  buried_by stamp (going.Fetch other source) is = absurd is
  buried_by stamp going.Wait is = absurd is

  unanswered_by : (misses : List (ℕ × Miss)) (next : Going) → EndsAfter begun turns next (gets.Unanswered misses) → (next ≡ going.End round.Unanswered) × (misses ≡ (facts_in begun turns).misses)
  unanswered_by misses (going.End (round.Found stamp)) is = absurd (cc (is.2))
  unanswered_by misses (going.End round.Absent) is = absurd (cc)
  unanswered_by misses (going.End (round.Buried stamp)) is = absurd (cc)
  unanswered_by misses (going.End round.Unanswered) is = (refl, cc)
  unanswered_by misses (going.End (round.TooFew stamp have)) is = absurd (cc)
  unanswered_by misses (going.Keep event) is = absurd (cc (is.1))
  unanswered_by misses (going.Ask device) is = absurd is
  unanswered_by misses (going.Fetch stamp source) is = absurd is
  unanswered_by misses going.Wait is = absurd is

  too_few_by : (stamp have : ℕ) (next : Going) → EndsAfter begun turns next (gets.TooFew stamp have) → next ≡ going.End (round.TooFew stamp have)
  too_few_by stamp have (going.End (round.Found other)) is = absurd (cc (is.2))
  too_few_by stamp have (going.End round.Absent) is = absurd (cc)
  too_few_by stamp have (going.End (round.Buried other)) is = absurd (cc)
  too_few_by stamp have (going.End round.Unanswered) is = absurd (cc)
  too_few_by stamp have (going.End (round.TooFew other had)) is =
      let stamps : other ≡ stamp = cc in
      let counts : had ≡ have = cc in
      ap (λ n. going.End (round.TooFew n had)) stamps ∙ ap (λ n. going.End (round.TooFew stamp n)) counts
  too_few_by stamp have (going.Keep event) is = absurd (cc (is.1))
  too_few_by stamp have (going.Ask device) is = absurd is
  too_few_by stamp have (going.Fetch other source) is = absurd is
  too_few_by stamp have going.Wait is = absurd is

  -- the last event
  record IsLast (these : List KeptEvent) (next : Going) : Type 0 where
    event : KeptEvent
    keeps : next ≡ going.Keep event
    many : most_kept ≤ length (events begun turns)
    are : these ≡ events begun turns ++ event ∷ []

  overtaken_by : (these : List KeptEvent) (next : Going) → EndsAfter begun turns next (gets.Overtaken these) → IsLast these next
  overtaken_by these (going.End (round.Found stamp)) is = absurd (cc (is.2))
  overtaken_by these (going.End round.Absent) is = absurd (cc)
  overtaken_by these (going.End (round.Buried stamp)) is = absurd (cc)
  overtaken_by these (going.End round.Unanswered) is = absurd (cc)
  overtaken_by these (going.End (round.TooFew stamp have)) is = absurd (cc)
  overtaken_by these (going.Keep event) is = record { event = event; keeps = refl; many = is.0; are = cc (is.1) }
  overtaken_by these (going.Ask device) is = absurd is
  overtaken_by these (going.Fetch stamp source) is = absurd is
  overtaken_by these going.Wait is = absurd is

-- ---- the ends

module _ (begun : Begun) (valid : IsBegun begun) (past : List Step) (run : IsRun (IsNext begun) past) (turns : List Turn) (are : AreTurns begun past turns) where
  abbrev from : Option Floor
  from = from_in begun turns

  abbrev facts : Facts
  facts = facts_in begun turns

  keeps : Keeps begun past turns
  keeps = all_kept begun valid past run turns are

  says : (next : Going) → going_in begun turns ≡ next → GoingSays begun.cluster.policy (devices begun) from facts next
  says next goes = going_known begun valid past turns keeps next goes

  abbrev last_round : AreAllHeard (devices begun) facts → AreFetched begun.cluster.policy from facts → LastRound begun past
  last_round heard fetched = record {
    turns = turns;
    are = are;
    heard = are_heard begun past turns are;
    closed = nothing_open begun valid past run turns are heard fetched;
    all_answered = all_answered begun valid past run turns are heard fetched;
  }

  -- nothing was fetched where the target is none, or a tombstone
  untried : ((to : Floor) → target_of from facts ≡ Some to → to.kind ≡ Durable → ⊥) → length facts.tried ≡ 0
  untried never = elim (cases_Bool (nat_lt 0 (length facts.tried))) [
    | inl some ↦ let fetching = keeps.within.fetching (ltb-true 0 (length facts.tried) some) in absurd (never fetching.to fetching.target fetching.durable)
    | inr none ↦ let no_more = ltb-false 0 (length facts.tried) none in omega (arith, no_more)
  ]

  -- then the target is the greatest floor that was shown
  greatest : ((to : Floor) → target_of from facts ≡ Some to → to.kind ≡ Durable → ⊥) → IsHighest (floors_shown turns) (target_of from facts)
  greatest never = subst (IsHighest (floors_shown turns)) (keeps.level (untried never)) (is_highest (floors_shown turns))

  -- no floor was shown, where there is no target
  none_known : target_of from facts ≡ None → floors_shown turns ≡ []
  none_known none = subst (IsHighest (floors_shown turns)) none (greatest (λ to target durable. absurd (none-some to (sym none ∙ target))))

  absent : going_in begun turns ≡ going.End round.Absent → IsAbsent begun past
  absent goes =
      let known = says (going.End round.Absent) goes in
      let none = none_known known.2.0 in
      record {
        last = last_round known.0 known.1;
        none_shown = λ listing shown. nil_from_none (floors_in listing)
            (λ floor has. let among = shown_among begun past turns are listing shown.sent shown.given shown.told shown.shows floor has in
            let never = subst (λ these. Contains these floor) none among in absurd (omega (arith, never.1)));
        few_missed = known.2.1;
      }

  buried : (stamp : ℕ) → going_in begun turns ≡ going.End (round.Buried stamp) → IsBuried begun past stamp
  buried stamp goes =
      let known = says (going.End (round.Buried stamp)) goes in
      let never : (to : Floor) → target_of from facts ≡ Some to → to.kind ≡ Durable → ⊥ = λ to target durable.
      let same = same_Some (tombstone_floor stamp) to (sym known.2 ∙ target) in absurd (cc (ap (λ (floor : Floor). floor.kind) same, durable)) in
      let highest : IsHighest (floors_shown turns) (Some (tombstone_floor stamp)) = subst (IsHighest (floors_shown turns)) known.2 (greatest never) in
      record {
        last = last_round known.0 known.1;
        shown = target_shown begun past turns (tombstone_floor stamp) are known.2;
        greatest = λ listing floor shown has. highest.1 floor (shown_among begun past turns are listing shown.sent shown.given shown.told shown.shows floor has);
      }

  some_missed : SomeMissed begun.cluster.policy facts → 0 < length facts.misses
  some_missed (inl enough) = omega (arith, enough, some_quorum begun.cluster.policy valid.rules.policy)
  some_missed (inr (inl some)) = some
  some_missed (inr (inr failed)) = omega (arith, failed, failed_few (round_in begun turns).turns)

  why : AreAllHeard (devices begun) facts → AreFetched begun.cluster.policy from facts → LeavesNone begun.cluster.policy from facts → LeavesUnanswered begun turns
  why heard fetched (inl none) = inl (none_known none.0, none.1)
  why heard fetched (inr left) = inr (left.0, level_so begun turns left.0 left.1, wanting_so begun valid past run turns are heard fetched left.0 left.1.target left.2)

  unanswered : going_in begun turns ≡ going.End round.Unanswered → IsUnanswered begun past facts.misses
  unanswered goes =
      let known = says (going.End round.Unanswered) goes in
      record {
        last = last_round known.0 known.1;
        some = some_missed known.2.1;
        are = refl;
        missed = all_missed (round_in begun turns).turns;
        why = why known.0 known.1 known.2.0;
      }

  too_few : (stamp have : ℕ) → going_in begun turns ≡ going.End (round.TooFew stamp have) → IsTooFew begun past stamp have
  too_few stamp have goes =
      let known = says (going.End (round.TooFew stamp have)) goes in
      let few = known.2 in
      let policy = begun.cluster.policy in
      let counted = count_indices begun valid past run turns are known.0 known.1 stamp in
      record {
        last = last_round known.0 known.1;
        level = level_so begun turns stamp few.level;
        none_missed = few.none_missed;
        short = record { indices = first_indices policy facts stamp; are = are_indices policy facts stamp; few = omega (arith, few.few, few.count, counted) };
        count = counted ∙ sym few.count;
      }

  overtaken : (event : KeptEvent) → going_in begun turns ≡ going.Keep event → most_kept ≤ length (events begun turns) → IsOvertaken begun past (events begun turns ++ event ∷ [])
  overtaken event goes many = let known = says (going.Keep event) goes in record {
    last = last_round known.0 known.1;
    kept = kept_now begun valid past run turns are event goes (were_kept begun valid past run turns are);
    count = omega (arith, many, keeps.events_few, length-append (events begun turns) (event ∷ []));
  }

-- ---- each end

module _ (begun : Begun) (past : List Step) (valid : IsBegun begun) (run : IsRun (IsNext begun) past) where
  pub ends_absent : IsEnd begun past gets.Absent → IsAbsent begun past
  ends_absent end = absent begun valid past run end.0 end.1 (absent_by begun end.0 (going_in begun end.0) end.2)

  pub ends_buried : (stamp : ℕ) → IsEnd begun past (gets.Buried stamp) → IsBuried begun past stamp
  ends_buried stamp end = buried begun valid past run end.0 end.1 stamp (buried_by begun end.0 stamp (going_in begun end.0) end.2)

  pub ends_unanswered : (misses : List (ℕ × Miss)) → IsEnd begun past (gets.Unanswered misses) → IsUnanswered begun past misses
  ends_unanswered misses end =
      let by = unanswered_by begun end.0 misses (going_in begun end.0) end.2 in
      subst (IsUnanswered begun past) (sym by.1) (unanswered begun valid past run end.0 end.1 by.0)

  pub ends_too_few : (stamp have : ℕ) → IsEnd begun past (gets.TooFew stamp have) → IsTooFew begun past stamp have
  ends_too_few stamp have end = too_few begun valid past run end.0 end.1 stamp have (too_few_by begun end.0 stamp have (going_in begun end.0) end.2)

  pub ends_overtaken : (these : List KeptEvent) → IsEnd begun past (gets.Overtaken these) → IsOvertaken begun past these
  ends_overtaken these end =
      let by = overtaken_by begun end.0 these (going_in begun end.0) end.2 in
      subst (IsOvertaken begun past) (sym by.are) (overtaken begun valid past run end.0 end.1 by.event by.keeps by.many)
