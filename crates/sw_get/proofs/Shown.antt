-- The floors that a transcript of a get shows are those of listings in its answers.
use Rattle.std.proofs.Common.{◌≡◌, inl, inr, ◌⊎◌, ℕ, Bool, true, false, Contains, List, [], ◌∷◌, length, Option, Some, None, refl, sym, ap, subst, ◌∙◌}
use Rattle.std.specs.Prelude.{if◌then◌else◌}
use Rattle.std.specs.List.{All, flat_map}
use Rattle.std.proofs.lemmas.List.Elements.{All-append, All-cons, All-head, All-nil, All-tail, All-weaker, Contains-append_left, Contains-append_right}
use Rattle.std.proofs.lemmas.Option.{none-some}
use Rattle.sw_hashpath.specs.Place.{PlaceModel}
use Rattle.sw_hashdir.specs.Listing.{ListingModel}
use Rattle.sw_hashdir.specs.declared.floor.Floor.{Floor}
use Rattle.sw_ring.proofs.Among.{Contains-cons}
use Rattle.sw_message.proofs.FloorLaws.{highest_from-append}
use Rattle.sw_message.specs.Floors.{IsHighest, floors_in, highest_from}
use Rattle.sw_message.specs.Transcript.{Closed, Gave, Step}
use Rattle.sw_message.specs.declared.message.Msg.{Msg}
use Rattle.sw_message.specs.declared.message.Msg.TheVariants as message
use Rattle.sw_message.specs.declared.reply.Reply.{Reply}
use Rattle.sw_message.specs.declared.reply.Reply.TheVariants as reply
use Rattle.sw_message.specs.declared.sent.Sent.{Sent}
use Rattle.sw_message.proofs.Highest.{highest_either, is_highest}
use Rattle.sw_get.specs.Causes.{HasFloor, IsShown, Shows}
use Rattle.sw_get.specs.Get.{AreTurns, Begun, Hears, IsMeant, Round, Sends, Turn, devices, facts_in, facts_of, floors_shown, from_in, is_first, listed_by, round_in, round_of, shown_by, wanted}
use Rattle.sw_get.specs.Meaning.{Brings, IsFetched, Lacks, Lists, Meaning, Misses, asked_meaning}
use Rattle.sw_get.specs.Round.{all_devices, target_of}
use Rattle.sw_gather.proofs.Lists.{first_or_later, here, none_in}
use Rattle.sw_get.proofs.Meanings.{asked_cases, never_lists}

-- ---- the listing of an answer

pub held_of : (answer : Option Reply) (listing : ListingModel) → asked_meaning answer ≡ Lists listing → answer ≡ Some (reply.Held listing)
held_of None listing is = absurd (cc)
held_of (Some reply.Synced) listing is = absurd (cc)
held_of (Some reply.Committed) listing is = absurd (cc)
held_of (Some (reply.Deleted existed)) listing is = absurd (cc)
held_of (Some (reply.Superseded floor)) listing is = absurd (cc)
held_of (Some reply.Missing) listing is = absurd (cc)
held_of (Some (reply.Held held)) listing is = let same : held ≡ listing = cc in ap (λ one. Some (reply.Held one)) same
held_of (Some (reply.Fragment bytes)) listing is = absurd (cc)
held_of (Some (reply.Gone held)) listing is = absurd (cc)
held_of (Some (reply.Spoiled how)) listing is = absurd (cc)
held_of (Some reply.Kept) listing is = absurd (cc)
held_of (Some reply.Removed) listing is = absurd (cc)
held_of (Some (reply.PartList parts)) listing is = absurd (cc)
held_of (Some (reply.SuffixList pairs)) listing is = absurd (cc)
held_of (Some (reply.PlaceList places)) listing is = absurd (cc)
held_of (Some reply.DiskFault) listing is = absurd (cc)
held_of (Some (reply.NoSpace need free)) listing is = absurd (cc)
held_of (Some reply.NoMemory) listing is = absurd (cc)

module _ (begun : Begun) (turns : List Turn) (stamp index : ℕ) (listing : ListingModel) where
  pub gone_of : (answer : Option Reply) → IsFetched (wanted begun stamp) (facts_in begun turns).archives index answer (Lacks listing) → answer ≡ Some (reply.Gone listing)
  gone_of None is = absurd (cc)
  gone_of (Some reply.Synced) is = absurd (cc)
  gone_of (Some reply.Committed) is = absurd (cc)
  gone_of (Some (reply.Deleted existed)) is = absurd (cc)
  gone_of (Some (reply.Superseded floor)) is = absurd (cc)
  gone_of (Some reply.Missing) is = absurd (cc)
  gone_of (Some (reply.Held held)) is = absurd (cc)
  gone_of (Some (reply.Fragment bytes)) is = absurd is
  gone_of (Some (reply.Gone held)) is = let same : held ≡ listing = cc in ap (λ one. Some (reply.Gone one)) same
  gone_of (Some (reply.Spoiled how)) is = absurd (cc)
  gone_of (Some reply.Kept) is = absurd (cc)
  gone_of (Some reply.Removed) is = absurd (cc)
  gone_of (Some (reply.PartList parts)) is = absurd (cc)
  gone_of (Some (reply.SuffixList pairs)) is = absurd (cc)
  gone_of (Some (reply.PlaceList places)) is = absurd (cc)
  gone_of (Some reply.DiskFault) is = absurd (cc)
  gone_of (Some (reply.NoSpace need free)) is = absurd (cc)
  gone_of (Some reply.NoMemory) is = absurd (cc)

-- an answer to a message that shows this listing
abbrev Gives : Msg → Option Reply → ListingModel → Type 0
Gives msg answer listing = (given : Reply) × (answer ≡ Some given) × Shows msg given listing

module _ (begun : Begun) (turns : List Turn) (answer : Option Reply) (listing : ListingModel) where
  gives_listed : (msg : Msg) → IsMeant begun turns msg answer (Lists listing) → Gives msg answer listing
  gives_listed (message.Ask place) is = (reply.Held listing, held_of answer listing (sym is), refl)
  gives_listed (message.Fetch place stamp index) is = absurd (never_lists (wanted begun stamp) (facts_in begun turns).archives index answer listing is)
  gives_listed (message.PutFrag place stamp index bytes) is = absurd is
  gives_listed (message.Commit place stamp index) is = absurd is
  gives_listed (message.Delete place stamp) is = absurd is
  gives_listed (message.Remove place stamp index) is = absurd is
  gives_listed message.Parts is = absurd is
  gives_listed (message.Suffixes part) is = absurd is
  gives_listed (message.Places part) is = absurd is

  gives_lacked : (msg : Msg) → IsMeant begun turns msg answer (Lacks listing) → Gives msg answer listing
  gives_lacked (message.Ask place) is = elim (asked_cases answer) [ inl lists ↦ absurd (cc (lists.1)) | inr misses ↦ absurd (cc (misses.1)) ]
  gives_lacked (message.Fetch place stamp index) is = (reply.Gone listing, gone_of begun turns stamp index listing answer is, refl)
  gives_lacked (message.PutFrag place stamp index bytes) is = absurd is
  gives_lacked (message.Commit place stamp index) is = absurd is
  gives_lacked (message.Delete place stamp) is = absurd is
  gives_lacked (message.Remove place stamp index) is = absurd is
  gives_lacked message.Parts is = absurd is
  gives_lacked (message.Suffixes part) is = absurd is
  gives_lacked (message.Places part) is = absurd is

-- ---- the turns of a transcript

-- the answer that a turn hears is in the transcript, and means what it is said to
abbrev pub IsTold : Begun → List Step → Turn → Type 0
IsTold begun past (Sends sent) = Unit {0}
IsTold begun past (Hears sent meaning) = (answer : Option Reply) × Contains past (Closed sent answer) × (before : List Turn) × IsMeant begun before sent.msg answer meaning

told_more : (begun : Begun) (past : List Step) (step : Step) (turn : Turn) → IsTold begun past turn → IsTold begun (step ∷ past) turn
told_more begun past step (Sends sent) is = tt
told_more begun past step (Hears sent meaning) is = (is.0, Contains-cons (Closed sent is.0) step past is.1, is.2, is.3)

pub all_told : (begun : Begun) (past : List Step) (turns : List Turn) → AreTurns begun past turns → All (IsTold begun past) turns
all_told begun [] [] are = All-nil (IsTold begun [])
all_told begun [] (turn ∷ turns) are = absurd are
all_told begun (Gave sent ∷ past) [] are = absurd are
all_told begun (Gave sent ∷ past) (Sends same ∷ turns) are =
    All-cons (IsTold begun (Gave sent ∷ past)) (Sends same) turns tt
    (All-weaker (IsTold begun past) (IsTold begun (Gave sent ∷ past)) (told_more begun past (Gave sent)) turns (all_told begun past turns are.1))
all_told begun (Gave sent ∷ past) (Hears same meaning ∷ turns) are = absurd are
all_told begun (Closed sent answer ∷ past) [] are = absurd are
all_told begun (Closed sent answer ∷ past) (Sends same ∷ turns) are = absurd are
all_told begun (Closed sent answer ∷ past) (Hears same meaning ∷ turns) are =
    All-cons (IsTold begun (Closed sent answer ∷ past)) (Hears same meaning) turns
    (subst (λ (one : Sent). IsTold begun (Closed sent answer ∷ past) (Hears one meaning)) (sym are.0) (answer, here (Closed sent answer) past, turns, are.1))
    (All-weaker (IsTold begun past) (IsTold begun (Closed sent answer ∷ past)) (told_more begun past (Closed sent answer)) turns (all_told begun past turns are.2))

shows_told : (past : List Step) (sent : Sent) (answer : Option Reply) (listing : ListingModel) → Contains past (Closed sent answer) → Gives sent.msg answer listing → IsShown past listing
shows_told past sent answer listing told gives =
    record { sent = sent; given = gives.0; told = subst (λ one. Contains past (Closed sent one)) gives.1 told; shows = gives.2 }

lists_told : (begun : Begun) (past : List Step) (sent : Sent) (listing : ListingModel) → IsTold begun past (Hears sent (Lists listing)) → IsShown past listing
lists_told begun past sent listing is = shows_told past sent is.0 listing is.1 (gives_listed begun is.2 is.0 listing sent.msg is.3)

lacks_told : (begun : Begun) (past : List Step) (sent : Sent) (listing : ListingModel) → IsTold begun past (Hears sent (Lacks listing)) → IsShown past listing
lacks_told begun past sent listing is = shows_told past sent is.0 listing is.1 (gives_lacked begun is.2 is.0 listing sent.msg is.3)

-- what holds of all turns holds of those of the round, and of those before it
module _ (Q : Turn → Type 0) where
  abbrev pub InParts : Round → Type 0
  InParts round = All Q round.turns × All Q round.earlier

  pub parts : (all : ℕ) (turns : List Turn) → All Q turns → InParts (round_of all turns)
  parts all [] each = (All-nil Q, All-nil Q)
  parts all (Sends sent ∷ turns) each = by_first (is_first all sent.msg (round_of all turns)) (parts all turns (All-tail Q (Sends sent) turns each))
    where
      first : Q (Sends sent)
      first = All-head Q (Sends sent) turns each

      by_first : (b : Bool) → InParts (round_of all turns)
          → InParts (if b then record { turns = Sends sent ∷ []; earlier = turns } else record { turns = Sends sent ∷ (round_of all turns).turns; earlier = (round_of all turns).earlier })
      by_first true before = (All-cons Q (Sends sent) [] first (All-nil Q), All-tail Q (Sends sent) turns each)
      by_first false before = (All-cons Q (Sends sent) (round_of all turns).turns first before.0, before.1)
  parts all (Hears sent meaning ∷ turns) each =
      let before = parts all turns (All-tail Q (Hears sent meaning) turns each) in
      (All-cons Q (Hears sent meaning) (round_of all turns).turns (All-head Q (Hears sent meaning) turns each) before.0, before.1)

-- ---- the target

abbrev floors_of : ℕ × ListingModel → List Floor
floors_of one = floors_in one.1

module _ (begun : Begun) (past : List Step) where
  abbrev AtListed : ℕ × ListingModel → Type 0
  AtListed one = IsShown past one.1

  -- what a round lists
  of_answer : (device : ℕ) (msg : Msg) (listing : ListingModel) → IsShown past listing → All AtListed (listed_by device msg (Lists listing))
  of_answer device (message.Ask place) listing is = All-cons AtListed (device, listing) [] is (All-nil AtListed)
  of_answer device (message.Fetch place stamp index) listing is = All-nil AtListed
  of_answer device (message.PutFrag place stamp index bytes) listing is = All-nil AtListed
  of_answer device (message.Commit place stamp index) listing is = All-nil AtListed
  of_answer device (message.Delete place stamp) listing is = All-nil AtListed
  of_answer device (message.Remove place stamp index) listing is = All-nil AtListed
  of_answer device message.Parts listing is = All-nil AtListed
  of_answer device (message.Suffixes part) listing is = All-nil AtListed
  of_answer device (message.Places part) listing is = All-nil AtListed

  of_other : (device : ℕ) (msg : Msg) (meaning : Meaning) → ((listing : ListingModel) → meaning ≡ Lists listing → ⊥) → listed_by device msg meaning ≡ []
  of_other device (message.Ask place) (Lists listing) other = absurd (other listing refl)
  of_other device (message.Ask place) (Lacks listing) other = refl
  of_other device (message.Ask place) (Brings archive) other = refl
  of_other device (message.Ask place) (Misses how) other = refl
  of_other device (message.Fetch place stamp index) meaning other = refl
  of_other device (message.PutFrag place stamp index bytes) meaning other = refl
  of_other device (message.Commit place stamp index) meaning other = refl
  of_other device (message.Delete place stamp) meaning other = refl
  of_other device (message.Remove place stamp index) meaning other = refl
  of_other device message.Parts meaning other = refl
  of_other device (message.Suffixes part) meaning other = refl
  of_other device (message.Places part) meaning other = refl

  of_turn : (device : ℕ) (msg : Msg) (sent : Sent) (meaning : Meaning) → IsTold begun past (Hears sent meaning) → All AtListed (listed_by device msg meaning)
  of_turn device msg sent (Lists listing) is = of_answer device msg listing (lists_told begun past sent listing is)
  of_turn device msg sent (Lacks listing) is = subst (All AtListed) (sym (of_other device msg (Lacks listing) (λ one same. absurd (cc)))) (All-nil AtListed)
  of_turn device msg sent (Brings archive) is = subst (All AtListed) (sym (of_other device msg (Brings archive) (λ one same. absurd (cc)))) (All-nil AtListed)
  of_turn device msg sent (Misses how) is = subst (All AtListed) (sym (of_other device msg (Misses how) (λ one same. absurd (cc)))) (All-nil AtListed)

  lists_shown : (turns : List Turn) → All (IsTold begun past) turns → All AtListed (facts_of turns).lists
  lists_shown [] each = All-nil AtListed
  lists_shown (Sends sent ∷ turns) each = lists_shown turns (All-tail (IsTold begun past) (Sends sent) turns each)
  lists_shown (Hears sent meaning ∷ turns) each =
      All-append AtListed (facts_of turns).lists (listed_by sent.device sent.msg meaning)
      (lists_shown turns (All-tail (IsTold begun past) (Hears sent meaning) turns each)) (of_turn sent.device sent.msg sent meaning (All-head (IsTold begun past) (Hears sent meaning) turns each))

  module _ (to : Floor) where
    -- the floor is that before, or the greatest of a listing
    abbrev BeforeOrShown : Option Floor → Type 0
    BeforeOrShown best = (best ≡ Some to) ⊎ HasFloor past to

    by_listing : (best : Option Floor) (listing : ListingModel) → IsShown past listing → highest_from best (floors_in listing) ≡ Some to → BeforeOrShown best
    by_listing best listing shown is = elim (highest_either best (floors_in listing)) [
      | inl before ↦ inl (sym before ∙ is)
      | inr own ↦ inr (record { listing = listing; shown = shown; greatest = subst (IsHighest (floors_in listing)) (sym own ∙ is) (is_highest (floors_in listing)) })
    ]

    by_turn : (best : Option Floor) (sent : Sent) (meaning : Meaning) → IsTold begun past (Hears sent meaning) → highest_from best (shown_by meaning) ≡ Some to → BeforeOrShown best
    by_turn best sent (Lists listing) told is = by_listing best listing (lists_told begun past sent listing told) is
    by_turn best sent (Lacks listing) told is = by_listing best listing (lacks_told begun past sent listing told) is
    by_turn best sent (Brings archive) told is = inl is
    by_turn best sent (Misses how) told is = inl is

    by_turns : (best : Option Floor) (turns : List Turn) → All (IsTold begun past) turns → highest_from best (floors_shown turns) ≡ Some to → BeforeOrShown best
    by_turns best [] each is = inl is
    by_turns best (Sends sent ∷ turns) each is = by_turns best turns (All-tail (IsTold begun past) (Sends sent) turns each) is
    by_turns best (Hears sent meaning ∷ turns) each is =
        let last = by_turn (highest_from best (floors_shown turns)) sent meaning (All-head (IsTold begun past) (Hears sent meaning) turns each)
        (sym (highest_from-append best (floors_shown turns) (shown_by meaning)) ∙ is) in
        elim last [ inl before ↦ by_turns best turns (All-tail (IsTold begun past) (Hears sent meaning) turns each) before | inr shown ↦ inr shown ]

    by_lists : (best : Option Floor) (lists : List (ℕ × ListingModel)) → All AtListed lists → highest_from best (flat_map floors_of lists) ≡ Some to → BeforeOrShown best
    by_lists best [] each is = inl is
    by_lists best (one ∷ lists) each is =
        let later = by_lists (highest_from best (floors_of one)) lists (All-tail AtListed one lists each) (sym (highest_from-append best (floors_of one) (flat_map floors_of lists)) ∙ is) in
        elim later [ inl before ↦ by_listing best one.1 (All-head AtListed one lists each) before | inr shown ↦ inr shown ]

-- the target of a round is the greatest floor of some listing
pub target_shown : (begun : Begun) (past : List Step) (turns : List Turn) (to : Floor) → AreTurns begun past turns → target_of (from_in begun turns) (facts_in begun turns) ≡ Some to → HasFloor past to
target_shown begun past turns to are is =
    let both = parts (IsTold begun past) (length (all_devices (devices begun))) turns (all_told begun past turns are) in
    elim (by_lists begun past to (from_in begun turns) (facts_in begun turns).lists (lists_shown begun past (round_in begun turns).turns both.0) is) [
      | inl before ↦ elim (by_turns begun past to None (round_in begun turns).earlier both.1 before) [ inl none ↦ absurd (none-some to none) | inr shown ↦ shown ]
      | inr shown ↦ shown
    ]

-- ---- all floors that are shown

module _ (listing : ListingModel) where
  of_ask : (given : Reply) (meaning : Meaning) (place : PlaceModel) → Shows (message.Ask place) given listing → meaning ≡ asked_meaning (Some given) → shown_by meaning ≡ floors_in listing
  of_ask (reply.Held held) meaning place shows is = ap shown_by is ∙ ap floors_in shows
  of_ask reply.Synced meaning place shows is = absurd shows
  of_ask reply.Committed meaning place shows is = absurd shows
  of_ask (reply.Deleted existed) meaning place shows is = absurd shows
  of_ask (reply.Superseded floor) meaning place shows is = absurd shows
  of_ask reply.Missing meaning place shows is = absurd shows
  of_ask (reply.Fragment bytes) meaning place shows is = absurd shows
  of_ask (reply.Gone held) meaning place shows is = absurd shows
  of_ask (reply.Spoiled how) meaning place shows is = absurd shows
  of_ask reply.Kept meaning place shows is = absurd shows
  of_ask reply.Removed meaning place shows is = absurd shows
  of_ask (reply.PartList parts) meaning place shows is = absurd shows
  of_ask (reply.SuffixList pairs) meaning place shows is = absurd shows
  of_ask (reply.PlaceList places) meaning place shows is = absurd shows
  of_ask reply.DiskFault meaning place shows is = absurd shows
  of_ask (reply.NoSpace need free) meaning place shows is = absurd shows
  of_ask reply.NoMemory meaning place shows is = absurd shows

  of_fetch : (begun : Begun) (turns : List Turn) (given : Reply) (meaning : Meaning) (place : PlaceModel) (stamp index : ℕ) → Shows (message.Fetch place stamp index) given listing
      → IsFetched (wanted begun stamp) (facts_in begun turns).archives index (Some given) meaning → shown_by meaning ≡ floors_in listing
  of_fetch begun turns (reply.Gone held) meaning place stamp index shows is = ap shown_by is ∙ ap floors_in shows
  of_fetch begun turns (reply.Held held) meaning place stamp index shows is = absurd shows
  of_fetch begun turns reply.Synced meaning place stamp index shows is = absurd shows
  of_fetch begun turns reply.Committed meaning place stamp index shows is = absurd shows
  of_fetch begun turns (reply.Deleted existed) meaning place stamp index shows is = absurd shows
  of_fetch begun turns (reply.Superseded floor) meaning place stamp index shows is = absurd shows
  of_fetch begun turns reply.Missing meaning place stamp index shows is = absurd shows
  of_fetch begun turns (reply.Fragment bytes) meaning place stamp index shows is = absurd shows
  of_fetch begun turns (reply.Spoiled how) meaning place stamp index shows is = absurd shows
  of_fetch begun turns reply.Kept meaning place stamp index shows is = absurd shows
  of_fetch begun turns reply.Removed meaning place stamp index shows is = absurd shows
  of_fetch begun turns (reply.PartList parts) meaning place stamp index shows is = absurd shows
  of_fetch begun turns (reply.SuffixList pairs) meaning place stamp index shows is = absurd shows
  of_fetch begun turns (reply.PlaceList places) meaning place stamp index shows is = absurd shows
  of_fetch begun turns reply.DiskFault meaning place stamp index shows is = absurd shows
  of_fetch begun turns (reply.NoSpace need free) meaning place stamp index shows is = absurd shows
  of_fetch begun turns reply.NoMemory meaning place stamp index shows is = absurd shows

  floors_meant : (begun : Begun) (turns : List Turn) (msg : Msg) (given : Reply) (meaning : Meaning) → Shows msg given listing → IsMeant begun turns msg (Some given) meaning → shown_by meaning ≡ floors_in listing
  floors_meant begun turns (message.Ask place) given meaning shows is = of_ask given meaning place shows is
  floors_meant begun turns (message.Fetch place stamp index) given meaning shows is = of_fetch begun turns given meaning place stamp index shows is
  floors_meant begun turns (message.PutFrag place stamp index bytes) given meaning shows is = absurd is
  floors_meant begun turns (message.Commit place stamp index) given meaning shows is = absurd is
  floors_meant begun turns (message.Delete place stamp) given meaning shows is = absurd is
  floors_meant begun turns (message.Remove place stamp index) given meaning shows is = absurd is
  floors_meant begun turns message.Parts given meaning shows is = absurd is
  floors_meant begun turns (message.Suffixes part) given meaning shows is = absurd is
  floors_meant begun turns (message.Places part) given meaning shows is = absurd is

-- each floor of a listing that is shown is among those of the turns
pub shown_among : (begun : Begun) (past : List Step) (turns : List Turn) → AreTurns begun past turns → (listing : ListingModel) (sent : Sent) (given : Reply) → Contains past (Closed sent (Some given)) → Shows sent.msg given listing
    → (floor : Floor) → Contains (floors_in listing) floor → Contains (floors_shown turns) floor
shown_among begun [] [] are listing sent given told shows floor has = absurd (none_in (Closed sent (Some given)) told)
shown_among begun [] (turn ∷ turns) are listing sent given told shows floor has = absurd are
shown_among begun (Gave one ∷ past) [] are listing sent given told shows floor has = absurd are
shown_among begun (Gave one ∷ past) (Sends same ∷ turns) are listing sent given told shows floor has = elim (first_or_later (Gave one) past (Closed sent (Some given)) told) [
  | inl first ↦ absurd (cc first)
  | inr later ↦ shown_among begun past turns are.1 listing sent given later shows floor has
]
shown_among begun (Gave one ∷ past) (Hears same meaning ∷ turns) are listing sent given told shows floor has = absurd are
shown_among begun (Closed one answer ∷ past) [] are listing sent given told shows floor has = absurd are
shown_among begun (Closed one answer ∷ past) (Sends same ∷ turns) are listing sent given told shows floor has = absurd are
shown_among begun (Closed one answer ∷ past) (Hears same meaning ∷ turns) are listing sent given told shows floor has = elim (first_or_later (Closed one answer) past (Closed sent (Some given)) told) [
  | inl first ↦
      let sents : one ≡ sent = cc first in
      let answers : answer ≡ Some given = cc first in
      let meant = subst (λ (s : Sent). IsMeant begun turns s.msg (Some given) meaning) sents (subst (λ a. IsMeant begun turns one.msg a meaning) answers are.1) in
      Contains-append_right (floors_shown turns) (shown_by meaning) floor (subst (λ these. Contains these floor) (sym (floors_meant listing begun turns sent.msg given meaning shows meant)) has)
  | inr later ↦ Contains-append_left (floors_shown turns) (shown_by meaning) floor (shown_among begun past turns are.2 listing sent given later shows floor has)
]
