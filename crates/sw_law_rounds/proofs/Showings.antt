-- The floors before the last round of a get were shown before any of its messages was handed out.
use Rattle.std.proofs.Common.{◌≡◌, inl, inr, Contains, List, [], ◌∷◌, Option, Some, refl, sym, subst}
use Rattle.std.specs.List.{All}
use Rattle.std.proofs.lemmas.List.Elements.{All-cons, All-head, All-tail, Contains-append_cases}
use Rattle.sw_hashdir.specs.Listing.{ListingModel}
use Rattle.sw_hashdir.specs.declared.floor.Floor.{Floor}
use Rattle.sw_diskfile.proofs.Lists.{Contains-none}
use Rattle.sw_message.specs.Floors.{floors_in}
use Rattle.sw_message.specs.Transcript.{Closed, IsRun, Step}
use Rattle.sw_message.specs.declared.message.Msg.{Msg}
use Rattle.sw_message.specs.declared.message.Msg.TheVariants as message
use Rattle.sw_message.specs.declared.reply.Reply.{Reply}
use Rattle.sw_message.specs.declared.reply.Reply.TheVariants as reply
use Rattle.sw_message.specs.declared.sent.Sent.{Sent}
use Rattle.sw_get.specs.Causes.{Shows, floors_before}
use Rattle.sw_get.specs.Get.{AreTurns, Begun, Hears, IsBegun, IsMeant, IsNext, Sends, Turn, facts_in, floors_shown, shown_by, wanted}
use Rattle.sw_get.specs.Meaning.{Brings, Lacks, Lists, Meaning, Misses}
use Rattle.sw_get.proofs.Meanings.{asked_cases, never_lists}
use Rattle.sw_get.proofs.Shown.{IsTold, all_told, gone_of, held_of, parts}
use Rattle.sw_get.proofs.Turns.{all}
use Rattle.sw_law_rounds.specs.Asked.{IsSentAfter, WasShown}
use Rattle.sw_law_rounds.proofs.Sendings.{sent_from}

-- an answer to a message shows a listing that has the floor
record ShowsFloor (msg : Msg) (answer : Option Reply) (floor : Floor) : Type 0 where
  given : Reply
  is : answer ≡ Some given
  listing : ListingModel
  shows : Shows msg given listing
  has : Contains (floors_in listing) floor

module _ (begun : Begun) (turns : List Turn) (answer : Option Reply) (floor : Floor) where
  shows_floor : (msg : Msg) (meaning : Meaning) → IsMeant begun turns msg answer meaning → Contains (shown_by meaning) floor → ShowsFloor msg answer floor
  shows_floor msg (Brings archive) is has = absurd (Contains-none floor has)
  shows_floor msg (Misses how) is has = absurd (Contains-none floor has)
  shows_floor (message.Ask place) (Lists listing) is has = record { given = reply.Held listing; is = held_of answer listing (sym is); listing = listing; shows = refl; has = has }
  shows_floor (message.Ask place) (Lacks listing) is has = elim (asked_cases answer) [ inl lists ↦ absurd (cc (lists.1)) | inr misses ↦ absurd (cc (misses.1)) ]
  shows_floor (message.Fetch place stamp index) (Lists listing) is has = absurd (never_lists (wanted begun stamp) (facts_in begun turns).archives index answer listing is)
  shows_floor (message.Fetch place stamp index) (Lacks listing) is has =
      record { given = reply.Gone listing; is = gone_of begun turns stamp index listing answer is; listing = listing; shows = refl; has = has }
  shows_floor other meaning is has = absurd is

module _ (begun : Begun) (past : List Step) (floor : Floor) where
  shown_so : (sent : Sent) (meaning : Meaning) → IsTold begun past (Hears sent meaning) → Contains (shown_by meaning) floor → WasShown past floor
  shown_so sent meaning is has =
      let one = shows_floor begun is.2 is.0 floor sent.msg meaning is.3 has in
      (one.listing, record { sent = sent; given = one.given; told = subst (λ answer. Contains past (Closed sent answer)) one.is is.1; shows = one.shows }, one.has)

  -- the floors that turns show are those of listings that were told
  was_shown : (turns : List Turn) → All (IsTold begun past) turns → Contains (floors_shown turns) floor → WasShown past floor
  was_shown [] each has = absurd (Contains-none floor has)
  was_shown (Sends sent ∷ turns) each has = was_shown turns (All-tail (IsTold begun past) (Sends sent) turns each) has
  was_shown (Hears sent meaning ∷ turns) each has = elim (Contains-append_cases (floors_shown turns) (shown_by meaning) floor has) [
    | inl before ↦ was_shown turns (All-tail (IsTold begun past) (Hears sent meaning) turns each) before
    | inr this ↦ shown_so sent meaning (All-head (IsTold begun past) (Hears sent meaning) turns each) this
  ]

-- before a message of the last round is handed out, the floors before that round had been shown
pub floors_first : (begun : Begun) (past earlier : List Step) (turns : List Turn) (sent : Sent) (floor : Floor) → IsBegun begun → IsRun (IsNext begun) past → AreTurns begun past turns
    → IsSentAfter begun past turns sent earlier → Contains (floors_before begun turns) floor → WasShown earlier floor
floors_first begun past earlier turns sent floor valid run are after has =
    let from = sent_from begun past earlier turns sent run are after in
    let told = all_told begun earlier from.before from.are in
    let both = parts (IsTold begun earlier) (all begun turns) (Sends sent ∷ from.before) (All-cons (IsTold begun earlier) (Sends sent) from.before tt told) in
    was_shown begun earlier floor _ both.1 (subst (λ these. Contains (floors_shown these) floor) from.earlier_is has)
