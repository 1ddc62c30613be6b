-- The messages of a round: which were handed out, and that each is open or was heard.
use Rattle.std.proofs.Common.{◌≡◌, inl, inr, ◌⊎◌, ℕ, zero, suc, ◌+◌, ◌<◌, ◌≤◌, Bool, true, false, not, nat_lt, Contains, List, [], ◌∷◌, ◌++◌, append-nil, add-zero, length, take, Option, Some, None, refl, sym, ap, subst, ◌∙◌, arith}
use Rattle.std.specs.Prelude.{if◌then◌else◌}
use Rattle.std.specs.List.{All, AllPairs, filter, find, slice_get}
use Rattle.std.proofs.lemmas.Bool.{cases_Bool, cond-false, cond-true, eq-eqb, eqb-true, ltb-false, ltb-true}
use Rattle.std.proofs.lemmas.List.{nil_from_length, take_more}
use Rattle.std.proofs.lemmas.List.Elements.{All-append, All-cons, All-nil, All-weaker}
use Rattle.std.proofs.lemmas.Option.{get_or_from_slice_get, none-some, same_Some, slice_get_within}
use Rattle.sw_hashdir.specs.declared.floor.Floor.{Floor}
use Rattle.sw_ring.proofs.Among.{Contains-cons}
use Rattle.sw_message.specs.Transcript.{Closed, Gave, Hand, IsRun, Over, Step, is_not, opens}
use Rattle.sw_message.specs.declared.message.Msg.{Msg}
use Rattle.sw_message.specs.declared.message.Msg.TheVariants as message
use Rattle.sw_message.specs.declared.sent.Sent.{Sent}
use Rattle.sw_message.specs.declared.target.Target.{Target}
use Rattle.sw_quorum.proofs.Transcripts.{numbered}
use Rattle.sw_quorum.specs.Transcripts.{HasOther, has_ticket}
use Rattle.sw_get.specs.Get.{AreTurns, Begun, Hears, IsBegun, IsNext, Round, Sends, Turn, ask_first, ask_message, asks_sent, devices, events, facts_in, facts_of, fetch_message, from_in, going_in, is_ask, is_first, listed_by, most_kept, next_after, round_in, sends, sources_tried}
use Rattle.sw_get.specs.Meaning.{Meaning}
use Rattle.sw_get.specs.Round.{Facts, all_devices, target_of}
use Rattle.sw_get.specs.declared.round_end.Going.{Going}
use Rattle.sw_get.specs.declared.round_end.Going.TheVariants as going
use Rattle.sw_get.specs.declared.round_end.KeptEvent.{KeptEvent}
use Rattle.sw_get.proofs.Counts.{within as answers_few}
use Rattle.sw_gather.proofs.Lists.{first_or_later, here, in_filter}
use Rattle.sw_get.proofs.Runs.{Keeps, all_kept, numbers, says}
use Rattle.sw_get.proofs.Sameness.{one_turns}
use Rattle.sw_get.proofs.Turns.{all, ask_goes_on, begins, fetch_goes_on, now}

-- the messages that were handed out in some turns
abbrev pub sents : List Turn → List Sent
sents [] = []
sents (Sends sent ∷ turns) = sent ∷ sents turns
sents (Hears sent meaning ∷ turns) = sents turns

pub sends_of : (turns : List Turn) (sent : Sent) → Contains (sents turns) sent → Contains turns (Sends sent)
sends_of [] sent has = absurd (omega (arith, has.1))
sends_of (Sends one ∷ turns) sent has = elim (first_or_later one (sents turns) sent has) [
  | inl same ↦ subst (λ (s : Sent). Contains (Sends one ∷ turns) (Sends s)) same (here (Sends one) turns)
  | inr later ↦ Contains-cons (Sends sent) (Sends one) turns (sends_of turns sent later)
]
sends_of (Hears one meaning ∷ turns) sent has = Contains-cons (Sends sent) (Hears one meaning) turns (sends_of turns sent has)

-- ---- each is open or was heard

abbrev IsSettled : List Sent → List Turn → Sent → Type 0
IsSettled opened turns sent = Contains opened sent ⊎ ((meaning : Meaning) × Contains turns (Hears sent meaning))

one_of_ticket : (ticket : ℕ) (opened : List Sent) (sent other : Sent) → find (has_ticket ticket) opened ≡ Some sent → AllPairs HasOther opened → Contains opened other → other.ticket ≡ ticket → other ≡ sent
one_of_ticket ticket [] sent other is apart has own = absurd (none-some sent is)
one_of_ticket ticket (first ∷ opened) sent other is apart has own = elim (cases_Bool (has_ticket ticket first)) [
  | inl its ↦
      let same : first ≡ sent = same_Some first sent (sym (cond-true (has_ticket ticket first) (Some first) (find (has_ticket ticket) opened) its) ∙ is) in
      elim (first_or_later first opened other has) [
        | inl one ↦ sym one ∙ same
        | inr later ↦ absurd (apart zero (suc later.0) other (omega arith) (omega (arith, later.1)) (eqb-true first.ticket ticket its ∙ sym own ∙ ap (λ (s : Sent). s.ticket) (sym later.2)))
      ]
  | inr others ↦
      let rest : AllPairs HasOther opened = λ i j d less within. apart (suc i) (suc j) d (omega arith) (omega arith) in
      elim (first_or_later first opened other has) [
        | inl one ↦ let its = eq-eqb first.ticket ticket (ap (λ (s : Sent). s.ticket) one ∙ own) in absurd (cc)
        | inr later ↦ one_of_ticket ticket opened sent other (sym (cond-false (has_ticket ticket first) (Some first) (find (has_ticket ticket) opened) others) ∙ is) rest later own
      ]
]

module _ (opened : List Sent) (told : Sent) (meaning : Meaning) (turns : List Turn) (is : find (has_ticket told.ticket) opened ≡ Some told) (apart : AllPairs HasOther opened) where
  settled_told : (sent : Sent) → IsSettled opened turns sent → IsSettled (filter (is_not told.ticket) opened) (Hears told meaning ∷ turns) sent
  settled_told sent (inr heard) = inr (heard.0, Contains-cons (Hears sent heard.0) (Hears told meaning) turns heard.1)
  settled_told sent (inl there) = elim (cases_Bool (has_ticket told.ticket sent)) [
    | inl its ↦
        let same = one_of_ticket told.ticket opened told sent is apart there (eqb-true sent.ticket told.ticket its) in
        inr (meaning, subst (λ (s : Sent). Contains (Hears told meaning ∷ turns) (Hears s meaning)) (sym same) (here (Hears told meaning) turns))
    | inr others ↦ inl (in_filter (is_not told.ticket) opened sent there (ap not others))
  ]

settled_gave : (opened : List Sent) (gave : Sent) (turns : List Turn) (sent : Sent) → IsSettled opened turns sent → IsSettled (gave ∷ opened) (Sends gave ∷ turns) sent
settled_gave opened gave turns sent (inl there) = inl (Contains-cons sent gave opened there)
settled_gave opened gave turns sent (inr heard) = inr (heard.0, Contains-cons (Hears sent heard.0) (Sends gave) turns heard.1)

module _ (begun : Begun) (turns : List Turn) (opened : List Sent) (gave : Sent) (before : All (IsSettled opened (now begun turns)) (sents (now begun turns))) where
  settled_by : (b : Bool) → let round : Round = if b then record { turns = Sends gave ∷ []; earlier = turns } else record { turns = Sends gave ∷ now begun turns; earlier = (round_in begun turns).earlier } in
      All (IsSettled (gave ∷ opened) round.turns) (sents round.turns)
  settled_by true = All-cons (IsSettled (gave ∷ opened) (Sends gave ∷ [])) gave [] (inl (here gave opened)) (All-nil (IsSettled (gave ∷ opened) (Sends gave ∷ [])))
  settled_by false =
      All-cons (IsSettled (gave ∷ opened) (Sends gave ∷ now begun turns)) gave (sents (now begun turns)) (inl (here gave opened))
      (All-weaker (IsSettled opened (now begun turns)) (IsSettled (gave ∷ opened) (Sends gave ∷ now begun turns)) (settled_gave opened gave (now begun turns)) (sents (now begun turns)) before)

pub all_settled : (begun : Begun) (past : List Step) → IsRun (IsNext begun) past → (turns : List Turn) → AreTurns begun past turns → All (IsSettled (opens past) (now begun turns)) (sents (now begun turns))
all_settled begun [] run [] are = All-nil (IsSettled [] [])
all_settled begun [] run (turn ∷ turns) are = absurd are
all_settled begun (Gave sent ∷ past) run [] are = absurd are
all_settled begun (Gave sent ∷ past) run (Sends same ∷ turns) are =
    subst (λ (one : Sent). All (IsSettled (one ∷ opens past) (now begun (Sends same ∷ turns))) (sents (now begun (Sends same ∷ turns)))) are.0
    (settled_by begun turns (opens past) same (all_settled begun past run.1 turns are.1) (is_first (all begun turns) same.msg (round_in begun turns)))
all_settled begun (Gave sent ∷ past) run (Hears same meaning ∷ turns) are = absurd are
all_settled begun (Closed sent answer ∷ past) run [] are = absurd are
all_settled begun (Closed sent answer ∷ past) run (Sends same ∷ turns) are = absurd are
all_settled begun (Closed sent answer ∷ past) run (Hears same meaning ∷ turns) are =
    let apart = (numbered (IsNext begun) (numbers begun) past run.1).apart in
    subst (λ (one : Sent). All (IsSettled (filter (is_not sent.ticket) (opens past)) (Hears one meaning ∷ now begun turns)) (sents (now begun turns))) (sym are.0)
    (All-weaker (IsSettled (opens past) (now begun turns)) (IsSettled (filter (is_not sent.ticket) (opens past)) (Hears sent meaning ∷ now begun turns))
    (settled_told (opens past) sent meaning (now begun turns) run.0 apart) (sents (now begun turns)) (all_settled begun past run.1 turns are.2))

-- where none is open, each was heard
pub all_heard : (begun : Begun) (past : List Step) → IsRun (IsNext begun) past → (turns : List Turn) → AreTurns begun past turns → opens past ≡ []
    → All (λ (sent : Sent). (meaning : Meaning) × Contains (now begun turns) (Hears sent meaning)) (sents (now begun turns))
all_heard begun past run turns are none =
    All-weaker (IsSettled (opens past) (now begun turns)) (λ (sent : Sent). (meaning : Meaning) × Contains (now begun turns) (Hears sent meaning)) heard (sents (now begun turns)) (all_settled begun past run turns are)
  where
    heard : (sent : Sent) → IsSettled (opens past) (now begun turns) sent → (meaning : Meaning) × Contains (now begun turns) (Hears sent meaning)
    heard sent (inl there) = let never = subst (λ these. Contains these sent) none there in absurd (omega (arith, never.1))
    heard sent (inr is) = is

-- ---- which were handed out

module _ (begun : Begun) (turns : List Turn) (sent : Sent) where
  -- a device was asked, an archive was fetched, or another round was begun
  pub record AsksNext : Type 0 where
    pub device : ℕ
    pub is : sent ≡ ask_message begun (sends turns) device
    pub goes : going_in begun turns ≡ going.Ask device

  pub record FetchesNext : Type 0 where
    pub stamp : ℕ
    pub source : Target
    pub is : sent ≡ fetch_message begun (sends turns) stamp source
    pub goes : going_in begun turns ≡ going.Fetch stamp source

  pub record BeginsNext : Type 0 where
    pub device : ℕ
    pub event : KeptEvent
    pub is : sent ≡ ask_message begun (sends turns) device
    pub first : slice_get (all_devices (devices begun)) 0 ≡ Some device
    pub goes : going_in begun turns ≡ going.Keep event

  abbrev pub HandedSo : Type 0
  HandedSo = AsksNext ⊎ (FetchesNext ⊎ BeginsNext)

  begun_so : (event : KeptEvent) (few : Bool) (device : Option ℕ) → going_in begun turns ≡ going.Keep event → slice_get (all_devices (devices begun)) 0 ≡ device
      → (if few then ask_first begun (sends turns) device else Over) ≡ Hand sent → HandedSo
  begun_so event true (Some device) goes first is = let same : ask_message begun (sends turns) device ≡ sent = cc in inr (inr (record { device = device; event = event; is = sym same; first = first; goes = goes }))
  begun_so event true None goes first is = absurd (cc)
  begun_so event false device goes first is = absurd (cc)

  by_going : (next : Going) → going_in begun turns ≡ next → next_after begun turns next ≡ Hand sent → HandedSo
  by_going (going.Ask device) goes is = let same : ask_message begun (sends turns) device ≡ sent = cc in inl (record { device = device; is = sym same; goes = goes })
  by_going (going.Fetch stamp source) goes is =
      let same : fetch_message begun (sends turns) stamp source ≡ sent = cc in inr (inl (record { stamp = stamp; source = source; is = sym same; goes = goes }))
  by_going going.Wait goes is = absurd (cc)
  by_going (going.End ending) goes is = absurd (cc)
  by_going (going.Keep event) goes is = begun_so event (nat_lt (length (events begun turns)) most_kept) (slice_get (all_devices (devices begun)) 0) goes refl is

-- how the last message of a transcript was handed out
pub handed_so : (begun : Begun) (past : List Step) (sent : Sent) (turns : List Turn) → IsNext begun past (Hand sent) → AreTurns begun past turns → HandedSo begun turns sent
handed_so begun past sent turns next are =
    let is = subst (λ these. next_after begun these (going_in begun these) ≡ Hand sent) (one_turns begun past next.0 turns next.1 are) next.2 in
    by_going begun turns sent (going_in begun turns) refl is

-- ---- the devices that were asked

abbrev pub WasAsked : Begun → List Turn → ℕ → Type 0
WasAsked begun turns device = (ticket : ℕ) × Contains (sents turns) (ask_message begun ticket device)

abbrev AreAsked : Begun → List Turn → Type 0
AreAsked begun turns = All (WasAsked begun turns) (take (asks_sent turns) (all_devices (devices begun)))

asked_more : (begun : Begun) (turns : List Turn) (sent : Sent) (device : ℕ) → WasAsked begun turns device → WasAsked begun (Sends sent ∷ turns) device
asked_more begun turns sent device was = (was.0, Contains-cons (ask_message begun was.0 device) sent (sents turns) was.1)

one_taken : {A : Type 0} (xs : List A) (n : ℕ) (x : A) → slice_get xs n ≡ Some x → take (n + 1) xs ≡ take n xs ++ x ∷ []
one_taken xs n x at = take_more xs n x (slice_get_within xs n x at) ∙ ap (λ y. take n xs ++ y ∷ []) (get_or_from_slice_get xs n x x at)

ask_one : (begun : Begun) (turns : List Turn) (ticket device : ℕ) → slice_get (all_devices (devices begun)) (asks_sent turns) ≡ Some device → AreAsked begun turns → AreAsked begun (Sends (ask_message begun ticket device) ∷ turns)
ask_one begun turns ticket device at before =
    let sent = ask_message begun ticket device in
    let Was : ℕ → Type 0 = λ one. WasAsked begun (Sends sent ∷ turns) one in
    let these = take (asks_sent turns) (all_devices (devices begun)) in
    subst (All Was) (sym (one_taken (all_devices (devices begun)) (asks_sent turns) device at))
    (All-append Was these (device ∷ []) (All-weaker (WasAsked begun turns) Was (asked_more begun turns sent) these before) (All-cons Was device [] (ticket, here sent (sents turns)) (All-nil Was)))

fetch_one : (begun : Begun) (turns : List Turn) (ticket stamp : ℕ) (source : Target) → AreAsked begun turns → AreAsked begun (Sends (fetch_message begun ticket stamp source) ∷ turns)
fetch_one begun turns ticket stamp source before =
    let sent = fetch_message begun ticket stamp source in
    subst (λ n. All (WasAsked begun (Sends sent ∷ turns)) (take n (all_devices (devices begun)))) (sym (add-zero (asks_sent turns)))
    (All-weaker (WasAsked begun turns) (WasAsked begun (Sends sent ∷ turns)) (asked_more begun turns sent) (take (asks_sent turns) (all_devices (devices begun))) before)

-- ---- the archives that were fetched

abbrev pub WasFetched : Begun → Option Floor → List Turn → Target → Type 0
WasFetched begun from turns source = (to : Floor) × (target_of from (facts_of turns) ≡ Some to) × (ticket : ℕ) × Contains (sents turns) (fetch_message begun ticket to.stamp source)

abbrev AreFetchedAt : Begun → Option Floor → List Turn → Type 0
AreFetchedAt begun from turns = All (WasFetched begun from turns) (sources_tried turns)

module _ (begun : Begun) (from : Option Floor) (turns : List Turn) where
  none_at : (more : List Turn) → sources_tried more ≡ [] → AreFetchedAt begun from more
  none_at more none = subst (All (WasFetched begun from more)) (sym none) (All-nil (WasFetched begun from more))

  fetched_more : (ticket stamp : ℕ) (source : Target) (to : Floor) → target_of from (facts_of turns) ≡ Some to → stamp ≡ to.stamp → AreFetchedAt begun from turns
      → AreFetchedAt begun from (Sends (fetch_message begun ticket stamp source) ∷ turns)
  fetched_more ticket stamp source to target is before =
      let sent = fetch_message begun ticket stamp source in
      let Was : Target → Type 0 = λ one. WasFetched begun from (Sends sent ∷ turns) one in
      All-append Was (sources_tried turns) (source ∷ [])
      (All-weaker (WasFetched begun from turns) Was (λ one was. (was.0, was.1, was.2, Contains-cons (fetch_message begun was.2 was.0.stamp one) sent (sents turns) was.3)) (sources_tried turns) before)
      (All-cons Was source [] (to, target, ticket, subst (λ n. Contains (sent ∷ sents turns) (fetch_message begun ticket n source)) is (here sent (sents turns))) (All-nil Was))

  listed_none : (device : ℕ) (msg : Msg) (meaning : Meaning) → is_ask msg ≡ false → listed_by device msg meaning ≡ []
  listed_none device (message.Ask place) meaning none = absurd (cc)
  listed_none device (message.Fetch place stamp index) meaning none = refl
  listed_none device (message.PutFrag place stamp index bytes) meaning none = refl
  listed_none device (message.Commit place stamp index) meaning none = refl
  listed_none device (message.Delete place stamp) meaning none = refl
  listed_none device (message.Remove place stamp index) meaning none = refl
  listed_none device message.Parts meaning none = refl
  listed_none device (message.Suffixes part) meaning none = refl
  listed_none device (message.Places part) meaning none = refl

  heard_more : (sent : Sent) (meaning : Meaning) → is_ask sent.msg ≡ false → AreFetchedAt begun from turns → AreFetchedAt begun from (Hears sent meaning ∷ turns)
  heard_more sent meaning none before =
      let same : (facts_of (Hears sent meaning ∷ turns)).lists ≡ (facts_of turns).lists =
      ap (λ these. (facts_of turns).lists ++ these) (listed_none sent.device sent.msg meaning none) ∙ append-nil (facts_of turns).lists in
      All-weaker (WasFetched begun from turns) (WasFetched begun from (Hears sent meaning ∷ turns))
      (λ one was. (was.0, ap (λ (lists : List _). target_of from (record (facts_of turns) { lists = lists })) same ∙ was.1, was.2, was.3)) (sources_tried turns) before

-- ---- every transcript

-- what was handed out in the round that goes on
pub record AreHanded (begun : Begun) (turns : List Turn) : Type 0 where
  pub asked : AreAsked begun (now begun turns)
  pub fetched : AreFetchedAt begun (from_in begun turns) (now begun turns)

-- no archive was fetched while a device was still to answer
none_tried : (begun : Begun) (past : List Step) (turns : List Turn) → Keeps begun past turns → (facts_in begun turns).answered < length (all_devices (devices begun)) → sources_tried (now begun turns) ≡ []
none_tried begun past turns keeps less = elim (cases_Bool (nat_lt 0 (length (facts_in begun turns).tried))) [
  | inl some ↦ let fetching = keeps.within.fetching (ltb-true 0 (length (facts_in begun turns).tried) some) in absurd (omega (arith, less, fetching.all_answered))
  | inr none ↦ nil_from_length (facts_in begun turns).tried (let no_more = ltb-false 0 (length (facts_in begun turns).tried) none in omega (arith, no_more))
]

-- by the same turns of the round, and the same floor before it
same_handed : (begun : Begun) (turns round : List Turn) (from : Option Floor) → now begun turns ≡ round → from_in begun turns ≡ from → AreAsked begun round → AreFetchedAt begun from round → AreHanded begun turns
same_handed begun turns round from rounds froms asked fetched = record {
  asked = subst (AreAsked begun) (sym rounds) asked;
  fetched = subst (λ start. AreFetchedAt begun start (now begun turns)) (sym froms) (subst (AreFetchedAt begun from) (sym rounds) fetched);
}

module _ (begun : Begun) (valid : IsBegun begun) (past : List Step) (turns : List Turn) (keeps : Keeps begun past turns) (before : AreHanded begun turns) where
  abbrev known : Facts
  known = facts_in begun turns

  gave : (sent : Sent) → HandedSo begun turns sent → AreHanded begun (Sends sent ∷ turns)
  gave sent (inl asks) =
      let at = says begun valid past turns keeps (going.Ask asks.device) asks.goes in
      let few = answers_few known (opens past) [] keeps.counted in
      let on = ask_goes_on begun turns (sends turns) asks.device (slice_get_within (all_devices (devices begun)) known.asked asks.device at) in
      let none = none_tried begun past turns keeps (omega (arith, slice_get_within (all_devices (devices begun)) known.asked asks.device at, few.0)) in
      subst (λ (one : Sent). AreHanded begun (Sends one ∷ turns)) (sym asks.is)
      (same_handed begun (Sends (ask_message begun (sends turns) asks.device) ∷ turns) (Sends (ask_message begun (sends turns) asks.device) ∷ now begun turns) (from_in begun turns) on.round on.from
      (ask_one begun (now begun turns) (sends turns) asks.device at before.asked)
      (none_at begun (from_in begun turns) turns (Sends (ask_message begun (sends turns) asks.device) ∷ now begun turns) (append-nil (sources_tried (now begun turns)) ∙ none)))
  gave sent (inr (inl fetches)) =
      let next = (says begun valid past turns keeps (going.Fetch fetches.stamp fetches.source) fetches.goes).1 in
      let on = fetch_goes_on begun turns (sends turns) fetches.stamp fetches.source in
      subst (λ (one : Sent). AreHanded begun (Sends one ∷ turns)) (sym fetches.is)
      (same_handed begun (Sends (fetch_message begun (sends turns) fetches.stamp fetches.source) ∷ turns) (Sends (fetch_message begun (sends turns) fetches.stamp fetches.source) ∷ now begun turns) (from_in begun turns)
      on.round on.from (fetch_one begun (now begun turns) (sends turns) fetches.stamp fetches.source before.asked)
      (fetched_more begun (from_in begun turns) (now begun turns) (sends turns) fetches.stamp fetches.source next.to next.chosen.target next.stamp_is before.fetched))
  gave sent (inr (inr starts)) =
      let all_asked = (says begun valid past turns keeps (going.Keep starts.event) starts.goes).0.all_asked in
      let another = begins begun turns (sends turns) starts.device all_asked in
      let first = ask_message begun (sends turns) starts.device in
      subst (λ (one : Sent). AreHanded begun (Sends one ∷ turns)) (sym starts.is)
      (same_handed begun (Sends first ∷ turns) (Sends first ∷ []) (from_in begun (Sends first ∷ turns)) another.round refl
      (ask_one begun [] (sends turns) starts.device starts.first (All-nil (WasAsked begun []))) (none_at begun (from_in begun (Sends first ∷ turns)) turns (Sends first ∷ []) refl))

  heard : (sent : Sent) (meaning : Meaning) (more : List Step) → Keeps begun more (Hears sent meaning ∷ turns) → AreHanded begun (Hears sent meaning ∷ turns)
  heard sent meaning more after = elim (cases_Bool (is_ask sent.msg)) [
    | inl asks ↦
        let few = answers_few (facts_in begun (Hears sent meaning ∷ turns)) (opens more) [] after.counted in
        let counts : known.answered + 1 ≤ known.asked = omega (arith, few.0, ap {B = ℕ} (λ (b : Bool). if b then 1 else 0) asks) in
        record { asked = before.asked; fetched = none_at begun (from_in begun turns) turns (Hears sent meaning ∷ now begun turns) (none_tried begun past turns keeps (omega (arith, counts, keeps.within.asked_few))) }
    | inr fetches ↦ record { asked = before.asked; fetched = heard_more begun (from_in begun turns) (now begun turns) sent meaning fetches before.fetched }
  ]

pub all_handed : (begun : Begun) → IsBegun begun → (past : List Step) → IsRun (IsNext begun) past → (turns : List Turn) → AreTurns begun past turns → AreHanded begun turns
all_handed begun valid [] run [] are = record { asked = All-nil (WasAsked begun []); fetched = All-nil (WasFetched begun (from_in begun []) []) }
all_handed begun valid [] run (turn ∷ turns) are = absurd are
all_handed begun valid (Gave sent ∷ past) run [] are = absurd are
all_handed begun valid (Gave sent ∷ past) run (Sends same ∷ turns) are =
    subst (λ (one : Sent). AreHanded begun (Sends one ∷ turns)) (sym are.0)
    (gave begun valid past turns (all_kept begun valid past run.1 turns are.1) (all_handed begun valid past run.1 turns are.1) sent (handed_so begun past sent turns run.0 are.1))
all_handed begun valid (Gave sent ∷ past) run (Hears same meaning ∷ turns) are = absurd are
all_handed begun valid (Closed sent answer ∷ past) run [] are = absurd are
all_handed begun valid (Closed sent answer ∷ past) run (Sends same ∷ turns) are = absurd are
all_handed begun valid (Closed sent answer ∷ past) run (Hears same meaning ∷ turns) are =
    heard begun valid past turns (all_kept begun valid past run.1 turns are.2) (all_handed begun valid past run.1 turns are.2) same meaning (Closed sent answer ∷ past) (all_kept begun valid (Closed sent answer ∷ past) run (Hears same meaning ∷ turns) are)
