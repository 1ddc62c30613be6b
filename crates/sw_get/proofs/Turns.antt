-- What one turn more adds to what a transcript of a get tells.
use Rattle.std.proofs.Common.{◌≡◌, inl, inr, ℕ, ◌+◌, ◌<◌, ◌≤◌, true, false, not, ◌++◌, List, [], ◌∷◌, length, append-nil, add-zero, Option, None, refl, sym, ap, subst, arith}
use Rattle.std.specs.Prelude.{if◌then◌else◌}
use Rattle.std.proofs.lemmas.Bool.{le-ltb, lt-ltb}
use Rattle.sw_hashdir.specs.Listing.{ListingModel}
use Rattle.sw_message.proofs.FloorLaws.{highest_from-append}
use Rattle.sw_message.specs.Floors.{highest, highest_from}
use Rattle.sw_message.specs.Transcript.{Closed, Gave, Step, given}
use Rattle.sw_message.specs.declared.miss.Miss.{Miss}
use Rattle.sw_message.specs.declared.reply.Reply.{Reply}
use Rattle.sw_message.specs.declared.sent.Sent.{Sent}
use Rattle.sw_message.specs.declared.target.Target.{Target}
use Rattle.sw_get.specs.Get.{AreTurns, Begun, Hears, Round, Sends, Turn, ask_message, devices, event_of, events, facts_in, facts_of, fetch_message, floors_shown, from_in, going_in, is_first, round_in, sends, shown_by}
use Rattle.sw_get.specs.Meaning.{Brings, Lacks, Lists, Meaning, Misses, asked_meaning, with_asked, with_fetched}
use Rattle.sw_get.specs.Round.{all_devices}
use Rattle.sw_get.proofs.Meanings.{asked_cases}

-- ---- tickets

-- as many messages were handed out as there are in the turns
pub sends-given : (begun : Begun) (past : List Step) (turns : List Turn) → AreTurns begun past turns → sends turns ≡ length (given past)
sends-given begun [] [] are = refl
sends-given begun [] (turn ∷ turns) are = absurd are
sends-given begun (Gave sent ∷ past) [] are = absurd are
sends-given begun (Gave sent ∷ past) (Sends same ∷ turns) are = omega (arith, sends-given begun past turns are.1)
sends-given begun (Gave sent ∷ past) (Hears same meaning ∷ turns) are = absurd are
sends-given begun (Closed sent answer ∷ past) [] are = absurd are
sends-given begun (Closed sent answer ∷ past) (Sends same ∷ turns) are = absurd are
sends-given begun (Closed sent answer ∷ past) (Hears same meaning ∷ turns) are = sends-given begun past turns are.2

-- ---- what is known

pub facts-asked : (turns : List Turn) (ticket device : ℕ) (begun : Begun) → facts_of (Sends (ask_message begun ticket device) ∷ turns) ≡ record (facts_of turns) { asked = (facts_of turns).asked + 1 }
facts-asked turns ticket device begun = simp append-nil

pub facts-fetched : (turns : List Turn) (ticket stamp : ℕ) (source : Target) (begun : Begun)
    → facts_of (Sends (fetch_message begun ticket stamp source) ∷ turns) ≡ record (facts_of turns) { tried = (facts_of turns).tried ++ source ∷ [] }
facts-fetched turns ticket stamp source begun = simp add-zero

pub facts-listed : (turns : List Turn) (ticket device : ℕ) (begun : Begun) (listing : ListingModel)
    → facts_of (Hears (ask_message begun ticket device) (Lists listing) ∷ turns) ≡ with_asked (facts_of turns) device (Lists listing)
facts-listed turns ticket device begun listing = simp append-nil

pub facts-missed : (turns : List Turn) (ticket device : ℕ) (begun : Begun) (miss : Miss)
    → facts_of (Hears (ask_message begun ticket device) (Misses miss) ∷ turns) ≡ with_asked (facts_of turns) device (Misses miss)
facts-missed turns ticket device begun miss = simp append-nil

pub facts-answered : (turns : List Turn) (ticket device : ℕ) (begun : Begun) (answer : Option Reply)
    → facts_of (Hears (ask_message begun ticket device) (asked_meaning answer) ∷ turns) ≡ with_asked (facts_of turns) device (asked_meaning answer)
facts-answered turns ticket device begun answer =
    let Same : Meaning → Type 0 = λ meaning. facts_of (Hears (ask_message begun ticket device) meaning ∷ turns) ≡ with_asked (facts_of turns) device meaning in
    elim (asked_cases answer) [
      | inl lists ↦ subst Same (sym lists.1) (facts-listed turns ticket device begun lists.0)
      | inr misses ↦ subst Same (sym misses.1) (facts-missed turns ticket device begun misses.0)
    ]

pub facts-brought : (turns : List Turn) (ticket stamp : ℕ) (source : Target) (begun : Begun) (meaning : Meaning)
    → facts_of (Hears (fetch_message begun ticket stamp source) meaning ∷ turns) ≡ with_fetched (facts_of turns) source meaning
facts-brought turns ticket stamp source begun (Brings archive) = simp (add-zero, append-nil)
facts-brought turns ticket stamp source begun (Lacks listing) = simp (add-zero, append-nil)
facts-brought turns ticket stamp source begun (Misses miss) = simp (add-zero, append-nil)
facts-brought turns ticket stamp source begun (Lists listing) = simp (add-zero, append-nil)

-- ---- floors

pub target-heard : (turns : List Turn) (sent : Sent) (meaning : Meaning) → highest (floors_shown (Hears sent meaning ∷ turns)) ≡ highest_from (highest (floors_shown turns)) (shown_by meaning)
target-heard turns sent meaning = highest_from-append None (floors_shown turns) (shown_by meaning)

-- ---- rounds

module _ (begun : Begun) (turns : List Turn) where
  abbrev pub all : ℕ
  all = length (all_devices (devices begun))

  abbrev pub now : List Turn
  now = (round_in begun turns).turns

  -- a message of the round that goes on
  pub record GoesOn (sent : Sent) : Type 0 where
    pub round : (round_in begun (Sends sent ∷ turns)).turns ≡ Sends sent ∷ now
    pub facts : facts_in begun (Sends sent ∷ turns) ≡ facts_of (Sends sent ∷ now)
    pub from : from_in begun (Sends sent ∷ turns) ≡ from_in begun turns
    pub events : events begun (Sends sent ∷ turns) ≡ events begun turns

  goes_on : (sent : Sent) → is_first all sent.msg (round_in begun turns) ≡ false → GoesOn sent
  goes_on sent none =
      let same : round_in begun (Sends sent ∷ turns) ≡ record { turns = Sends sent ∷ now; earlier = (round_in begun turns).earlier } =
      ap (λ b. if b then record { turns = Sends sent ∷ []; earlier = turns } else record { turns = Sends sent ∷ now; earlier = (round_in begun turns).earlier }) none in
      record {
        round = ap (λ (round : Round). round.turns) same;
        facts = ap (λ (round : Round). facts_of round.turns) same;
        from = ap (λ (round : Round). highest (floors_shown round.earlier)) same;
        events = ap (λ b. if b then events begun turns ++ event_of (going_in begun turns) else events begun turns) none;
      }

  pub ask_goes_on : (ticket device : ℕ) → (facts_in begun turns).asked < all → GoesOn (ask_message begun ticket device)
  ask_goes_on ticket device less = goes_on (ask_message begun ticket device) (ap not (lt-ltb (facts_in begun turns).asked all less))

  pub fetch_goes_on : (ticket stamp : ℕ) (source : Target) → GoesOn (fetch_message begun ticket stamp source)
  fetch_goes_on ticket stamp source = goes_on (fetch_message begun ticket stamp source) refl

  -- the first message of another round
  pub record Begins (sent : Sent) : Type 0 where
    pub round : (round_in begun (Sends sent ∷ turns)).turns ≡ Sends sent ∷ []
    pub facts : facts_in begun (Sends sent ∷ turns) ≡ facts_of (Sends sent ∷ [])
    pub from : from_in begun (Sends sent ∷ turns) ≡ highest (floors_shown turns)
    pub events : events begun (Sends sent ∷ turns) ≡ events begun turns ++ event_of (going_in begun turns)

  pub begins : (ticket device : ℕ) → all ≤ (facts_in begun turns).asked → Begins (ask_message begun ticket device)
  begins ticket device all_asked =
      let sent = ask_message begun ticket device in
      let first : is_first all sent.msg (round_in begun turns) ≡ true = ap not (le-ltb (facts_in begun turns).asked all all_asked) in
      let another : round_in begun (Sends sent ∷ turns) ≡ record { turns = Sends sent ∷ []; earlier = turns } =
      ap (λ b. if b then record { turns = Sends sent ∷ []; earlier = turns } else record { turns = Sends sent ∷ now; earlier = (round_in begun turns).earlier }) first in
      record {
        round = ap (λ (round : Round). round.turns) another;
        facts = ap (λ (round : Round). facts_of round.turns) another;
        from = ap (λ (round : Round). highest (floors_shown round.earlier)) another;
        events = ap (λ b. if b then events begun turns ++ event_of (going_in begun turns) else events begun turns) first;
      }
