-- What the rules of a round say of it, in the words of the causes.
use Rattle.std.proofs.Common.{◌≡◌, inl, inr, ◌⊎◌, ℕ, Bool, true, false, not, ◌&&◌, Contains, ◌++◌, List, [], ◌∷◌, length, reverse, take, Option, Some, None, refl, sym, ap, subst, ◌∙◌, arith}
use Rattle.std.specs.Prelude.{if◌then◌else◌}
use Rattle.std.specs.List.{All, list_any}
use Rattle.std.proofs.Math.Seq.{take-length}
use Rattle.std.proofs.lemmas.Bool.{and_parts, cases_Bool, eqb-true, lt-ltb, or_cases, true≢false}
use Rattle.std.proofs.lemmas.List.{length-map, reverse-append}
use Rattle.std.proofs.lemmas.List.Elements.{All-contains, Contains-append_left, Contains-append_right}
use Rattle.std.proofs.lemmas.Option.{same_Some, slice_get_within}
use Rattle.sw_types.specs.Policy.{PolicyModel}
use Rattle.sw_hashdir.specs.Directory.{IsAbove}
use Rattle.sw_hashdir.specs.declared.floor.Floor.{Floor}
use Rattle.sw_hashdir.specs.declared.floor.FloorKind.TheVariants.{Durable}
use Rattle.sw_ring.specs.Cluster.{column_of, ids_of}
use Rattle.sw_ring.specs.Ring.{is_among}
use Rattle.sw_ring.proofs.Among.{Contains-cons, Contains-from_among}
use Rattle.sw_message.proofs.FloorLaws.{highest_from-append}
use Rattle.sw_message.specs.Floors.{IsHighest, durable_at, is_above}
use Rattle.sw_message.specs.Message.{IsMember}
use Rattle.sw_message.specs.Transcript.{Closed, Gave, Hand, IsRun, Step, opens}
use Rattle.sw_message.specs.declared.message.Msg.{Msg}
use Rattle.sw_message.specs.declared.reply.Reply.TheVariants as reply
use Rattle.sw_message.specs.declared.sent.Sent.{Sent}
use Rattle.sw_message.specs.declared.target.Target.{Target}
use Rattle.sw_message.proofs.Highest.{above, above_lower, is_highest, neither_above}
use Rattle.sw_get.specs.Causes.{AllAnswered, AreKept, AreShort, AreUsedUp, AreWanting, HasTarget, IsEventOf, IsLevel, ListsAt, WasLost, floors_before, floors_listed}
use Rattle.sw_get.specs.Get.{AreTurns, Begun, Hears, IsBegun, IsNext, Round, Sends, Turn, ask_message, devices, event_of, events, facts_in, facts_of, fetch_message, from_in, going_in, heard, is_first, place_of, round_in, bringing, failing, lacking, wanted}
use Rattle.sw_get.specs.Meaning.{Brings, Lacks, Lists, Meaning, Misses}
use Rattle.sw_get.specs.Round.{Facts, all_devices, candidates, closed, is_free, is_open, is_taken, rises, target_of}
use Rattle.sw_gather.specs.Choices.{firsts, has_index, same_target}
use Rattle.sw_get.specs.declared.round_end.Going.TheVariants as going
use Rattle.sw_get.specs.declared.round_end.KeptEvent.{KeptEvent}
use Rattle.sw_get.specs.declared.round_end.KeptEvent.TheVariants.{Gone, Rose}
use Rattle.sw_get.proofs.Changes.{none_open}
use Rattle.sw_get.proofs.Goings.{AllTried, AreAllHeard, AreFetched, FewListed, KeepSays, NoneLeft, StaysAt, of_kind}
use Rattle.sw_get.proofs.Indices.{are_indices, first_indices, in_candidates}
use Rattle.sw_gather.proofs.Sources.{same_source, self_same}
use Rattle.sw_gather.proofs.Lists.{any_passes, first_or_later, here, in_filter, none_passes, some_passes}
use Rattle.sw_get.proofs.Meanings.{never_lists}
use Rattle.sw_get.proofs.Rounds.{WasAsked, WasFetched, all_handed, all_heard, handed_so, sends_of, sents}
use Rattle.sw_get.proofs.Runs.{IsGoneOf, Keeps, all_kept, says}
use Rattle.sw_get.proofs.Shown.{IsTold, all_told, parts}
use Rattle.sw_get.proofs.Turns.{all, now}

-- ---- targets

module _ (begun : Begun) (turns : List Turn) where
  abbrev from : Option Floor
  from = from_in begun turns

  abbrev facts : Facts
  facts = facts_in begun turns

  pub target_so : (to : Floor) → target_of from facts ≡ Some to → HasTarget begun turns to
  target_so to is =
      let both = floors_before begun turns ++ floors_listed begun turns in
      subst (IsHighest both) (highest_from-append None (floors_before begun turns) (floors_listed begun turns) ∙ is) (is_highest both)

  -- none of the floors before is above the target
  lower : (to : Floor) → HasTarget begun turns to → (other : Floor) → Contains (floors_before begun turns) other → is_above other to ≡ false
  lower to target other has = elim (cases_Bool (is_above other to)) [
    | inl is ↦ absurd (target.1 other (Contains-append_left (floors_before begun turns) (floors_listed begun turns) other has) (above other to is))
    | inr not_so ↦ not_so
  ]

  before_by : (stamp : ℕ) → HasTarget begun turns (durable_at stamp) → (start : Option Floor) → from ≡ start → rises start (durable_at stamp) ≡ false → Contains (floors_before begun turns) (durable_at stamp)
  before_by stamp target None is level = absurd (true≢false level)
  before_by stamp target (Some start) is level =
      let highest_before : IsHighest (floors_before begun turns) (Some start) = subst (IsHighest (floors_before begun turns)) is (is_highest (floors_before begun turns)) in
      subst (Contains (floors_before begun turns)) (neither_above start (durable_at stamp) (lower (durable_at stamp) target start highest_before.0) level) highest_before.0

  pub level_so : (stamp : ℕ) → StaysAt from facts stamp → IsLevel begun turns stamp
  level_so stamp stays = let target = target_so (durable_at stamp) stays.target in record { target = target; before = before_by stamp target from refl stays.level }

  risen_by : (to : Floor) (start : Option Floor) → from ≡ start → rises start to ≡ true → (other : Floor) → Contains (floors_before begun turns) other → IsAbove to other
  risen_by to None is rises other has =
      let none : floors_before begun turns ≡ [] = subst (IsHighest (floors_before begun turns)) is (is_highest (floors_before begun turns)) in
      let never = subst (λ these. Contains these other) none has in absurd (omega (arith, never.1))
  risen_by to (Some start) is rises other has =
      let highest_before : IsHighest (floors_before begun turns) (Some start) = subst (IsHighest (floors_before begun turns)) is (is_highest (floors_before begun turns)) in
      elim (cases_Bool (is_above other start)) [
        | inl over ↦ absurd (highest_before.1 other has (above other start over))
        | inr level ↦ above to other (above_lower to start other rises level)
      ]

-- ---- what was heard

-- what a turn tells is among what all tell
in_heard : {A : Type 0} (tells : ℕ → Msg → Meaning → List A) (turns : List Turn) (sent : Sent) (meaning : Meaning) (x : A) → Contains turns (Hears sent meaning) → Contains (tells sent.device sent.msg meaning) x → Contains (heard tells turns) x
in_heard tells [] sent meaning x has is = absurd (omega (arith, has.1))
in_heard tells (Sends one ∷ turns) sent meaning x has is = elim (first_or_later (Sends one) turns (Hears sent meaning) has) [
  | inl same ↦ absurd (cc same)
  | inr later ↦ in_heard tells turns sent meaning x later is
]
in_heard tells (Hears one means ∷ turns) sent meaning x has is = elim (first_or_later (Hears one means) turns (Hears sent meaning) has) [
  | inl same ↦
      let sents : one ≡ sent = cc same in
      let meanings : means ≡ meaning = cc same in
      Contains-append_right (heard tells turns) (tells one.device one.msg means) x
      (subst (λ (s : Sent). Contains (tells s.device s.msg means) x) (sym sents) (subst (λ m. Contains (tells sent.device sent.msg m) x) (sym meanings) is))
  | inr later ↦ Contains-append_left (heard tells turns) (tells one.device one.msg means) x (in_heard tells turns sent meaning x later is)
]

-- of a fetch: its archive was brought, or lost
module _ (begun : Begun) (past : List Step) (turns : List Turn) (told : All (IsTold begun past) turns) (ticket stamp : ℕ) (source : Target) where
  abbrev fetch : Sent
  fetch = fetch_message begun ticket stamp source

  -- it is closed, and lost where it was not brought
  abbrev IsOver : Type 0
  IsOver = Contains (facts_of turns).sources source ⊎ (WasLost begun turns stamp source × Contains (closed (facts_of turns)) source)

  over_by : (meaning : Meaning) → Contains turns (Hears fetch meaning) → IsTold begun past (Hears fetch meaning) → IsOver
  over_by (Brings archive) has is = inl (in_heard bringing turns fetch (Brings archive) source has (here source []))
  over_by (Lacks listing) has is =
      let gone = in_heard lacking turns fetch (Lacks listing) source has (here source []) in
      inr (
        record { ticket = ticket; meaning = Lacks listing; heard = has; loss = tt },
        Contains-append_left ((facts_of turns).sources ++ (facts_of turns).gone) (facts_of turns).failed source (Contains-append_right (facts_of turns).sources (facts_of turns).gone source gone),
      )
  over_by (Misses how) has is =
      let failed = in_heard failing turns fetch (Misses how) source has (here source []) in
      inr (
        record { ticket = ticket; meaning = Misses how; heard = has; loss = tt },
        Contains-append_right ((facts_of turns).sources ++ (facts_of turns).gone) (facts_of turns).failed source failed,
      )
  over_by (Lists listing) has is = absurd (never_lists (wanted begun stamp) (facts_in begun is.2).archives source.index is.0 listing is.3)

  over : (meaning : Meaning) → Contains turns (Hears fetch meaning) → IsOver
  over meaning has = over_by meaning has (All-contains (IsTold begun past) turns (Hears fetch meaning) told has)

-- ---- the end of a round

module _ (begun : Begun) (valid : IsBegun begun) (past : List Step) (run : IsRun (IsNext begun) past) (turns : List Turn) (are : AreTurns begun past turns)
    (heard_all : AreAllHeard (devices begun) (facts_in begun turns)) (fetched : AreFetched begun.cluster.policy (from_in begun turns) (facts_in begun turns)) where
  abbrev policy : PolicyModel
  policy = begun.cluster.policy

  abbrev known : Facts
  known = facts_in begun turns

  keeps : Keeps begun past turns
  keeps = all_kept begun valid past run turns are

  pub nothing_open : opens past ≡ []
  nothing_open = none_open begun (from_in begun turns) known (opens past) keeps.counted keeps.within heard_all fetched

  each_heard : All (λ (sent : Sent). (meaning : Meaning) × Contains (now begun turns) (Hears sent meaning)) (sents (now begun turns))
  each_heard = all_heard begun past run turns are nothing_open

  told_now : All (IsTold begun past) (now begun turns)
  told_now = (parts (IsTold begun past) (all begun turns) turns (all_told begun past turns are)).0

  -- each device of the cluster is asked in each round
  member_asked : (device : ℕ) → IsMember begun.cluster device → Contains (all_devices (devices begun)) device
  member_asked device member = elim (cases_Bool (is_among (column_of begun.cluster (place_of begun).part) device)) [
    | inl primary ↦ Contains-append_right (devices begun).handoffs (devices begun).primaries device (Contains-from_among (devices begun).primaries device primary)
    | inr handoff ↦
        Contains-append_left (devices begun).handoffs (devices begun).primaries device
        (in_filter (λ id. not (is_among (column_of begun.cluster (place_of begun).part) id)) (ids_of begun.cluster) device (Contains-from_among (ids_of begun.cluster) device member) (ap not handoff))
  ]

  pub all_answered : AllAnswered begun turns
  all_answered =
      let once : known.asked ≡ length (all_devices (devices begun)) = omega (arith, heard_all.all_asked, keeps.within.asked_few) in
      let whole : take known.asked (all_devices (devices begun)) ≡ all_devices (devices begun) = ap (λ n. take n (all_devices (devices begun))) once ∙ take-length (all_devices (devices begun)) in
      record {
        once = once;
        each = λ device member.
            let was = All-contains (WasAsked begun (now begun turns)) (take known.asked (all_devices (devices begun))) device (all_handed begun valid past run turns are).asked (subst (λ these. Contains these device) (sym whole) (member_asked device member)) in
            let meant = All-contains (λ (sent : Sent). (meaning : Meaning) × Contains (now begun turns) (Hears sent meaning)) (sents (now begun turns)) (ask_message begun was.0 device) each_heard was.1 in
            record { ticket = was.0; sent = sends_of (now begun turns) (ask_message begun was.0 device) was.1; meaning = meant.0; heard = meant.1 };
      }

  -- an archive that was fetched was brought, or lost
  tried_over : (stamp : ℕ) → target_of (from_in begun turns) known ≡ Some (durable_at stamp) → (source : Target) → Contains known.tried source
      → Contains known.sources source ⊎ (WasLost begun (now begun turns) stamp source × Contains (closed known) source)
  tried_over stamp target source has =
      let was = All-contains (WasFetched begun (from_in begun turns) (now begun turns)) known.tried source (all_handed begun valid past run turns are).fetched has in
      let meant = All-contains (λ (sent : Sent). (meaning : Meaning) × Contains (now begun turns) (Hears sent meaning)) (sents (now begun turns)) (fetch_message begun was.2 was.0.stamp source) each_heard was.3 in
      let stamps : was.0.stamp ≡ stamp = ap (λ (floor : Floor). floor.stamp) (same_Some was.0 (durable_at stamp) (sym was.1 ∙ target)) in
      subst (λ n. Contains known.sources source ⊎ (WasLost begun (now begun turns) n source × Contains (closed known) source)) stamps (over begun past (now begun turns) told_now was.2 was.0.stamp source meant.0 meant.1)

  abbrev IsSpent : ℕ → Target → Type 0
  IsSpent stamp source = WasLost begun (now begun turns) stamp source ⊎ ((other : Target) × Contains known.sources other × (other.index ≡ source.index))

  spent_taken : (stamp : ℕ) → target_of (from_in begun turns) known ≡ Some (durable_at stamp) → (source : Target) → is_taken known source.index ≡ true → IsSpent stamp source
  spent_taken stamp target source is =
      elim (or_cases (list_any (has_index source.index) known.sources) (list_any (λ (other : Target). has_index source.index other && is_open known other) known.tried) is) [
        | inl brought ↦ let one = some_passes (has_index source.index) known.sources brought in inr (one.0, one.1, eqb-true one.0.index source.index one.2)
        | inr opened ↦
            let one = some_passes (λ (other : Target). has_index source.index other && is_open known other) known.tried opened in
            let both = and_parts (has_index source.index one.0) (is_open known one.0) one.2 in
            elim (tried_over stamp target one.0 one.1) [
              | inl brought ↦ inr (one.0, brought, eqb-true one.0.index source.index both.0)
              | inr lost ↦ let shut = any_passes (same_target one.0) (closed known) one.0 lost.1 (self_same one.0) in absurd (true≢false (sym both.1 ∙ ap not shut))
            ]
      ]

  spent : (stamp : ℕ) → target_of (from_in begun turns) known ≡ Some (durable_at stamp) → (source : Target) → is_free known source ≡ false → IsSpent stamp source
  spent stamp target source not_free = elim (cases_Bool (list_any (same_target source) known.tried)) [
    | inl tried ↦
        let one = some_passes (same_target source) known.tried tried in
        let same = same_source source one.0 one.2 in
        elim (tried_over stamp target source (subst (Contains known.tried) (sym same) one.1)) [ inl brought ↦ inr (source, brought, refl) | inr lost ↦ inl lost.0 ]
    | inr untried ↦ elim (cases_Bool (is_taken known source.index)) [
      | inl taken ↦ spent_taken stamp target source taken
      | inr free ↦ absurd (true≢false (sym (rw (untried, free) refl) ∙ not_free))
    ]
  ]

  pub count_indices : (stamp : ℕ) → length (first_indices policy known stamp) ≡ length (firsts (candidates policy stamp known))
  count_indices stamp = length-map (firsts (candidates policy stamp known)) (λ (target : Target). target.index)

  pub short_so : (stamp : ℕ) → FewListed policy known stamp → AreShort begun turns stamp
  short_so stamp few = record { indices = first_indices policy known stamp; are = are_indices policy known stamp; few = omega (arith, few, count_indices stamp) }

  pub used_up_so : (stamp : ℕ) → target_of (from_in begun turns) known ≡ Some (durable_at stamp) → AllTried policy known stamp → AreUsedUp begun turns stamp
  used_up_so stamp target tried = record {
    indices = first_indices policy known stamp;
    are = are_indices policy known stamp;
    enough = omega (arith, tried.enough, count_indices stamp);
    few = tried.few;
    spent = λ source listed. spent stamp target source (none_passes (is_free known) (candidates policy stamp known) source tried.none_free (in_candidates policy known stamp source listed));
  }

  pub wanting_so : (stamp : ℕ) → target_of (from_in begun turns) known ≡ Some (durable_at stamp) → NoneLeft policy known stamp → AreWanting begun turns stamp
  wanting_so stamp target (inl few) = inl (short_so stamp few)
  wanting_so stamp target (inr tried) = inr (used_up_so stamp target tried.0, tried.1)

  pub event_so : (event : KeptEvent) → KeepSays policy (from_in begun turns) known event → IsEventOf begun past turns event
  event_so (Gone device index) is =
      let source : Target = record { index = index; device = device } in
      let to = is.to in
      let at : target_of (from_in begun turns) known ≡ Some (durable_at to.stamp) = is.chosen.target ∙ ap (λ (floor : Floor). Some floor) (of_kind to Durable is.chosen.durable) in
      let among : Contains known.gone source = subst (λ these. Contains these source) (sym is.first) (here source is.others) in
      let gone = All-contains (IsGoneOf begun past (from_in begun turns) known) known.gone source keeps.gone_told among in
      let same : gone.0.stamp ≡ to.stamp = ap (λ (floor : Floor). floor.stamp) (same_Some gone.0 to (sym gone.1 ∙ is.chosen.target)) in
      record {
        stamp = to.stamp;
        target = target_so begun turns (durable_at to.stamp) at;
        used_up = used_up_so to.stamp at is.used_up;
        others = is.others;
        first = is.first;
        listed = subst (λ n. ListsAt policy known.lists n source) same gone.2;
        ticket = gone.3;
        listing = gone.4;
        told = subst (λ n. Contains past (Closed (fetch_message begun gone.3 n source) (Some (reply.Gone gone.4)))) same gone.5;
      }
  event_so (Rose start to) is =
      let at : target_of (from_in begun turns) known ≡ Some (durable_at is.stamp) = is.target ∙ ap (λ (floor : Floor). Some floor) is.durable in
      record {
        start_is = subst (IsHighest (floors_before begun turns)) (sym is.start_is) (is_highest (floors_before begun turns));
        target = target_so begun turns to is.target;
        above = risen_by begun turns to (from_in begun turns) refl (subst (λ one. rises one to ≡ true) is.start_is is.above);
        stamp = is.stamp;
        durable = is.durable;
        wanting = wanting_so is.stamp at is.none_left;
      }

-- ---- rounds that were kept

event_more : (begun : Begun) (past : List Step) (step : Step) (turns : List Turn) (event : KeptEvent) → IsEventOf begun past turns event → IsEventOf begun (step ∷ past) turns event
event_more begun past step turns (Gone device index) is = record {
  stamp = is.stamp;
  target = is.target;
  used_up = is.used_up;
  others = is.others;
  first = is.first;
  listed = is.listed;
  ticket = is.ticket;
  listing = is.listing;
  told = Contains-cons (Closed (fetch_message begun is.ticket is.stamp (record { index = index; device = device })) (Some (reply.Gone is.listing))) step past is.told;
}
event_more begun past step turns (Rose start to) is = is

kept_more : (begun : Begun) (past : List Step) (step : Step) (turns : List Turn) (these : List KeptEvent) → AreKept begun past turns these → AreKept begun (step ∷ past) turns these
kept_more begun past step turns [] kept = kept
kept_more begun past step turns (event ∷ these) kept = (kept.0, event_more begun past step turns event kept.1, kept_more begun past step (round_in begun turns).earlier these kept.2)

-- the last round is kept as an event, and those before it were
pub kept_now : (begun : Begun) → IsBegun begun → (past : List Step) → IsRun (IsNext begun) past → (turns : List Turn) → AreTurns begun past turns → (event : KeptEvent) → going_in begun turns ≡ going.Keep event
    → AreKept begun past (round_in begun turns).earlier (reverse (events begun turns)) → AreKept begun past turns (reverse (events begun turns ++ event ∷ []))
kept_now begun valid past run turns are event goes before =
    let is = says begun valid past turns (all_kept begun valid past run turns are) (going.Keep event) goes in
    subst (AreKept begun past turns) (sym (reverse-append (events begun turns) (event ∷ [])))
    (all_answered begun valid past run turns are is.0 is.1, event_so begun valid past run turns are is.0 is.1 event is.2, before)

module _ (begun : Begun) (valid : IsBegun begun) (past : List Step) (run : IsRun (IsNext begun) past) (turns : List Turn) (are : AreTurns begun past turns) (sent : Sent) (hands : IsNext begun past (Hand sent))
    (before : AreKept begun past (round_in begun turns).earlier (reverse (events begun turns))) where
  -- after one message more
  first_kept : (first : Bool) → is_first (all begun turns) sent.msg (round_in begun turns) ≡ first
      → let round : Round = if first then record { turns = Sends sent ∷ []; earlier = turns } else record { turns = Sends sent ∷ now begun turns; earlier = (round_in begun turns).earlier } in AreKept begun past round.earlier
      (reverse (if first then events begun turns ++ event_of (going_in begun turns) else events begun turns))
  first_kept false is = before
  first_kept true is = elim (handed_so begun past sent turns hands are) [
    | inl asks ↦
        let at = says begun valid past turns (all_kept begun valid past run turns are) (going.Ask asks.device) asks.goes in
        let less = slice_get_within (all_devices (devices begun)) (facts_in begun turns).asked asks.device at in
        let asked : is_first (all begun turns) (ask_message begun asks.device asks.device).msg (round_in begun turns) ≡ false = ap not (lt-ltb (facts_in begun turns).asked (all begun turns) less) in
        absurd (true≢false (sym is ∙ ap (λ (one : Sent). is_first (all begun turns) one.msg (round_in begun turns)) asks.is ∙ asked))
    | inr (inl fetches) ↦ absurd (true≢false (sym is ∙ ap (λ (one : Sent). is_first (all begun turns) one.msg (round_in begun turns)) fetches.is))
    | inr (inr starts) ↦
        subst (λ next. AreKept begun past turns (reverse (events begun turns ++ event_of next))) (sym starts.goes) (kept_now begun valid past run turns are starts.event starts.goes before)
  ]

pub were_kept : (begun : Begun) → IsBegun begun → (past : List Step) → IsRun (IsNext begun) past → (turns : List Turn) → AreTurns begun past turns → AreKept begun past (round_in begun turns).earlier (reverse (events begun turns))
were_kept begun valid [] run [] are = refl
were_kept begun valid [] run (turn ∷ turns) are = absurd are
were_kept begun valid (Gave sent ∷ past) run [] are = absurd are
were_kept begun valid (Gave sent ∷ past) run (Sends same ∷ turns) are =
    let hands = subst (λ (one : Sent). IsNext begun past (Hand one)) (sym are.0) run.0 in
    kept_more begun past (Gave sent) _ _
    (first_kept begun valid past run.1 turns are.1 same hands (were_kept begun valid past run.1 turns are.1) (is_first (all begun turns) same.msg (round_in begun turns)) refl)
were_kept begun valid (Gave sent ∷ past) run (Hears same meaning ∷ turns) are = absurd are
were_kept begun valid (Closed sent answer ∷ past) run [] are = absurd are
were_kept begun valid (Closed sent answer ∷ past) run (Sends same ∷ turns) are = absurd are
were_kept begun valid (Closed sent answer ∷ past) run (Hears same meaning ∷ turns) are = kept_more begun past (Closed sent answer) (round_in begun turns).earlier (reverse (events begun turns)) (were_kept begun valid past run.1 turns are.2)
