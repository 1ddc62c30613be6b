-- A get comes to rest: in each of eight rounds it asks each device once, and fetches at most k archives and one for each that was lost.
use Rattle.std.proofs.Common.{◌≡◌, inl, inr, ℕ, zero, suc, ◌+◌, ◌<◌, ◌≤◌, Bool, true, false, List, [], ◌∷◌, ◌++◌, length, nat_lt, Option, Some, None, refl, sym, ap, subst, ◌∙◌, arith}
use Rattle.std.specs.Prelude.{if◌then◌else◌, slice_get}
use Rattle.std.proofs.lemmas.Bool.{ltb-true}
use Rattle.std.proofs.lemmas.List.{length-append}
use Rattle.std.proofs.lemmas.Option.{slice_get_within}
use Rattle.sw_message.specs.Learnt.{Booked, IsSoundBook}
use Rattle.sw_message.specs.Transcript.{Hand, IsRun, Next, Over, Step, Wait}
use Rattle.sw_message.specs.declared.sent.Sent.{Sent}
use Rattle.sw_message.specs.declared.target.Target.{Target}
use Rattle.sw_get.specs.Get.{AreTurns, Begun, IsBegun, IsNext, Sends, Turn, ask_first, ask_message, devices, event_of, events, facts_in, facts_of, fetch_message, from_in, going_in, most_kept, next_after, sends}
use Rattle.sw_get.specs.Round.{Facts, all_devices, lost}
use Rattle.sw_get.specs.declared.round_end.Going.{Going}
use Rattle.sw_get.specs.declared.round_end.Going.TheVariants as going
use Rattle.sw_get.specs.declared.round_end.KeptEvent.{KeptEvent}
use Rattle.sw_get.proofs.Goings.{GoingSays}
use Rattle.sw_get.proofs.Runs.{all_kept, says}
use Rattle.sw_get.proofs.Turns.{ask_goes_on, begins, facts-asked, facts-fetched, fetch_goes_on, now}
use Rattle.sw_operation.specs.Operating.{Begun as AnyBegun, Get, Head, IsNext as IsAnyNext}
use Rattle.sw_law_going.proofs.Brought.{AreStored}
use Rattle.sw_law_going.proofs.Rests.{ComesToRest, StopsOrGoes, comes_to_rest}
use Rattle.sw_law_going.proofs.Turns.{turns_of}

module _ (begun : Begun) where
  abbrev count : ℕ
  count = length (all_devices (devices begun))

  abbrev k : ℕ
  k = begun.cluster.policy.k

  -- so many messages are handed out at most in so many rounds that are still to be begun
  abbrev in_rounds : ℕ → ℕ
  in_rounds zero = 0
  in_rounds (suc rounds) = count + k + 1 + in_rounds rounds

  -- and so many in all
  pub record AreLeft (left : ℕ) (facts : Facts) (kept : ℕ) : Type 0 where
    pub rounds : ℕ
    pub asks : ℕ
    pub tries : ℕ
    pub rounds_are : most_kept ≤ kept + rounds
    pub asks_are : count ≤ facts.asked + asks
    pub tries_are : k + lost facts ≤ length facts.tried + tries
    pub sum : in_rounds rounds + asks + tries ≤ left

  abbrev FewerLeft : ℕ → Facts → ℕ → Type 0
  FewerLeft left facts kept = (fewer : ℕ) × (fewer < left) × AreLeft fewer facts kept

  module _ (left : ℕ) (facts : Facts) (kept : ℕ) (is : AreLeft left facts kept) where
    -- one device more is asked
    asked_one : facts.asked < count → (asks : ℕ) → is.asks ≡ asks → FewerLeft left (record facts { asked = facts.asked + 1 }) kept
    asked_one less zero same = absurd (omega (arith, is.asks_are, less, same))
    asked_one less (suc asks) same = (
      in_rounds is.rounds + asks + is.tries,
      omega (arith, is.sum, same),
      record { rounds = is.rounds; asks = asks; tries = is.tries; rounds_are = is.rounds_are; asks_are = omega (arith, is.asks_are, same); tries_are = is.tries_are; sum = omega arith },
    )

    -- one source more is tried
    tried_one : (source : Target) → length facts.tried < k + lost facts → (tries : ℕ) → is.tries ≡ tries → FewerLeft left (record facts { tried = facts.tried ++ source ∷ [] }) kept
    tried_one source few zero same = absurd (omega (arith, is.tries_are, few, same))
    tried_one source few (suc tries) same = (
      in_rounds is.rounds + is.asks + tries,
      omega (arith, is.sum, same),
      record {
        rounds = is.rounds;
        asks = is.asks;
        tries = tries;
        rounds_are = is.rounds_are;
        asks_are = is.asks_are;
        tries_are = omega (arith, is.tries_are, same, length-append facts.tried (source ∷ []));
        sum = omega arith;
      },
    )

    -- another round begins
    begun_one : (ticket device : ℕ) → kept < most_kept → (rounds : ℕ) → is.rounds ≡ rounds → FewerLeft left (facts_of (Sends (ask_message begun ticket device) ∷ [])) (kept + 1)
    begun_one ticket device few zero same = absurd (omega (arith, is.rounds_are, few, same))
    begun_one ticket device few (suc rounds) same = (
      in_rounds rounds + count + k,
      omega (arith, is.sum, ap in_rounds same),
      record { rounds = rounds; asks = count; tries = k; rounds_are = omega (arith, is.rounds_are, same); asks_are = omega arith; tries_are = omega arith; sum = omega arith },
    )

  -- ---- the machine, as a get or a head

  module _ (valid : IsBegun begun) (any : AnyBegun) (is_next : (past : List Step) (next : Next) → IsNext begun past next → IsAnyNext any past next) where
    pub record Fits (left : ℕ) (past : List Step) : Type 0 where
      pub turns : List Turn
      pub are : AreTurns begun past turns
      pub run : IsRun (IsNext begun) past
      pub are_left : AreLeft left (facts_in begun turns) (length (events begun turns))

    module _ (left : ℕ) (past : List Step) (fits : Fits left past) where
      abbrev turns : List Turn
      turns = fits.turns

      abbrev kept : ℕ
      kept = length (events begun turns)

      next_at : (next : Going) → going_in begun turns ≡ next → IsNext begun past (next_after begun turns next)
      next_at next goes = (turns, fits.are, ap (next_after begun turns) goes)

      said : (next : Going) → going_in begun turns ≡ next → GoingSays begun.cluster.policy (devices begun) (from_in begun turns) (facts_in begun turns) next
      said next goes = says begun valid past turns (all_kept begun valid past fits.run turns fits.are) next goes

      -- a message is handed out, and fewer are left
      gives : (sent : Sent) → IsNext begun past (Hand sent) → (facts : Facts) (later : ℕ) → facts_in begun (Sends sent ∷ turns) ≡ facts → length (events begun (Sends sent ∷ turns)) ≡ later → FewerLeft left facts later → StopsOrGoes any Fits left past
      gives sent hands facts later facts_are later_is fewer = inr (
        sent,
        is_next past (Hand sent) hands,
        fewer.0,
        fewer.1,
        record {
          turns = Sends sent ∷ turns;
          are = (refl, fits.are);
          run = (hands, fits.run);
          are_left = subst (λ (f : Facts). AreLeft fewer.0 f (length (events begun (Sends sent ∷ turns)))) (sym facts_are) (subst (AreLeft fewer.0 facts) (sym later_is) fewer.2);
        },
      )

      asks : (device : ℕ) → going_in begun turns ≡ going.Ask device → StopsOrGoes any Fits left past
      asks device goes =
          let sent = ask_message begun (sends turns) device in
          let less = slice_get_within (all_devices (devices begun)) (facts_in begun turns).asked device (said (going.Ask device) goes) in
          let on = ask_goes_on begun turns (sends turns) device less in
          gives sent (next_at (going.Ask device) goes) (record (facts_in begun turns) { asked = (facts_in begun turns).asked + 1 }) kept (on.facts ∙ facts-asked (now begun turns) (sends turns) device begun) (ap length on.events)
          (asked_one left (facts_in begun turns) kept fits.are_left less fits.are_left.asks refl)

      fetches : (stamp : ℕ) (source : Target) → going_in begun turns ≡ going.Fetch stamp source → StopsOrGoes any Fits left past
      fetches stamp source goes =
          let sent = fetch_message begun (sends turns) stamp source in
          let on = fetch_goes_on begun turns (sends turns) stamp source in
          gives sent (next_at (going.Fetch stamp source) goes) (record (facts_in begun turns) { tried = (facts_in begun turns).tried ++ source ∷ [] }) kept
          (on.facts ∙ facts-fetched (now begun turns) (sends turns) stamp source begun) (ap length on.events)
          (tried_one left (facts_in begun turns) kept fits.are_left source (said (going.Fetch stamp source) goes).1.few fits.are_left.tries refl)

      keeps : (event : KeptEvent) → going_in begun turns ≡ going.Keep event → (few : Bool) → nat_lt kept most_kept ≡ few → (device : Option ℕ) → slice_get (all_devices (devices begun)) 0 ≡ device → StopsOrGoes any Fits left past
      keeps event goes false few device first = inl (true, is_next past Over (turns, fits.are, ap (next_after begun turns) goes ∙ ap (λ (b : Bool). if b then ask_first begun (sends turns) (slice_get (all_devices (devices begun)) 0) else Over) few))
      keeps event goes true few None first =
          inl (true, is_next past Over (turns, fits.are, ap (next_after begun turns) goes ∙ ap (λ (b : Bool). if b then ask_first begun (sends turns) (slice_get (all_devices (devices begun)) 0) else Over) few ∙ ap (ask_first begun (sends turns)) first))
      keeps event goes true few (Some device) first =
          let sent = ask_message begun (sends turns) device in
          let hands : IsNext begun past (Hand sent) =
          (turns, fits.are, ap (next_after begun turns) goes ∙ ap (λ (b : Bool). if b then ask_first begun (sends turns) (slice_get (all_devices (devices begun)) 0) else Over) few ∙ ap (ask_first begun (sends turns)) first) in
          let another = begins begun turns (sends turns) device (said (going.Keep event) goes).0.all_asked in
          gives sent hands (facts_of (Sends sent ∷ [])) (kept + 1) another.facts
          (ap length another.events ∙ length-append (events begun turns) (event_of (going_in begun turns)) ∙ ap (λ (next : Going). kept + length (event_of next)) goes)
          (begun_one left (facts_in begun turns) kept fits.are_left (sends turns) device (ltb-true kept most_kept few) fits.are_left.rounds refl)

      goes_by : (next : Going) → going_in begun turns ≡ next → StopsOrGoes any Fits left past
      goes_by (going.Ask device) goes = asks device goes
      goes_by (going.Fetch stamp source) goes = fetches stamp source goes
      goes_by going.Wait goes = inl (false, is_next past Wait (next_at going.Wait goes))
      goes_by (going.End ending) goes = inl (true, is_next past Over (next_at (going.End ending) goes))
      goes_by (going.Keep event) goes = keeps event goes (nat_lt kept most_kept) refl (slice_get (all_devices (devices begun)) 0) refl

    -- from each transcript whose answers mean something
    rests_from : (past : List Step) (turns : List Turn) → AreTurns begun past turns → IsRun (IsNext begun) past → ComesToRest any past
    rests_from past turns are run =
        let facts = facts_in begun turns in
        comes_to_rest any Fits (λ left more fits. goes_by left more fits (going_in begun fits.turns) refl) (in_rounds most_kept + count + (k + lost facts)) past (record {
          turns = turns;
          are = are;
          run = run;
          are_left = record { rounds = most_kept; asks = count; tries = k + lost facts; rounds_are = omega arith; asks_are = omega arith; tries_are = omega arith; sum = omega arith };
        })

-- ---- from every transcript

module _ (begun : Begun) (valid : IsBegun begun) (book : List Booked) (sound : IsSoundBook begun.cluster.policy book) (past : List Step) (run : IsRun (IsNext begun) past) (stored : AreStored begun.cluster book past) where
  pub get_rests : ComesToRest (Get begun) past
  get_rests = let turns = turns_of begun valid book sound past run stored in rests_from begun valid (Get begun) (λ past next is. is) past turns.0 turns.1 run

  pub head_rests : ComesToRest (Head begun) past
  head_rests = let turns = turns_of begun valid book sound past run stored in rests_from begun valid (Head begun) (λ past next is. is) past turns.0 turns.1 run
