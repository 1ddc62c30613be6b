-- A fragment that was claimed as a get's last round began is listed in it, by the device that claimed it or by the primary of its index.
use Rattle.std.proofs.Common.{◌≡◌, ◌⊎◌, inl, inr, ℕ, ◌+◌, ◌<◌, ◌≤◌, true, false, not, Contains, List, ◌∷◌, length, Some, refl, sym, ap, subst, arith}
use Rattle.std.proofs.lemmas.List.Elements.{Contains-append_right}
use Rattle.sw_hashdir.specs.Listing.{ListingModel}
use Rattle.sw_hashpath.specs.Place.{IsPlace, PlaceModel}
use Rattle.sw_diskfile.proofs.Lists.{Contains-later, keeps}
use Rattle.sw_ring.specs.Cluster.{ClusterModel, column_of, ids_of}
use Rattle.sw_ring.specs.Ring.{is_among}
use Rattle.sw_ring.proofs.Among.{Contains-from_among}
use Rattle.sw_message.specs.Message.{IsMember, is_primary, place_in}
use Rattle.sw_message.specs.Transcript.{Closed, Gave, IsRun, Step, given}
use Rattle.sw_message.specs.Warrant.{IsHome, IsPrimaryOf, ShowsAbove, ShowsDurable}
use Rattle.sw_message.specs.declared.message.Msg.{Msg}
use Rattle.sw_message.specs.declared.message.Msg.TheVariants as message
use Rattle.sw_message.specs.declared.reply.Reply.{Reply}
use Rattle.sw_message.specs.declared.reply.Reply.TheVariants as reply
use Rattle.sw_message.specs.declared.sent.Sent.{Sent}
use Rattle.sw_get.specs.Causes.{AllAnswered}
use Rattle.sw_get.specs.Get as gets
use Rattle.sw_get.specs.Meaning.{Lists as MeansLists}
use Rattle.sw_get.proofs.Runs.{numbers}
use Rattle.sw_get.proofs.Turns.{now}
use Rattle.sw_law_claim.specs.Claim.{ADurableEntry, Claims, IsListedIn, IsOfIndex, What}
use Rattle.sw_law_owed.proofs.Primaries.{at_primary}
use Rattle.sw_law_homes.specs.Homes.{IsUntouched}
use Rattle.sw_law_homes.proofs.Devices.{no_handoff, one_device, primary_at, primary_known}
use Rattle.sw_law_homes.proofs.Heard.{Lists}
use Rattle.sw_law_rounds.specs.Asked.{IsSentAfter}
use Rattle.sw_law_rounds.specs.Missed.{HasMissed}
use Rattle.sw_law_rounds.proofs.Handed.{gave-at, in_whole}
use Rattle.sw_law_rounds.proofs.Handoffs.{handoffs_first}
use Rattle.sw_law_rounds.proofs.LastRound.{HasListed, has-listed, listed-by}
use Rattle.sw_law_rounds.proofs.Rounds.{heard-sent}
use Rattle.sw_law_rounds.proofs.Sendings.{sent_from}
use Rattle.sw_view.specs.View.{DrawnPut, View}
use Rattle.sw_view.specs.declared.event.Event.{Event}
use Rattle.sw_view.specs.declared.event.Event.TheVariants.{Handled, Replaced}
use Rattle.sw_view.proofs.Growth.{continues_has}
use Rattle.sw_law_view.specs.Duties.{IsReplacedSince}
use Rattle.sw_law_view.specs.Replies.{HandedOn, IsListedStill, Listed, WasReplaced}
use Rattle.sw_law_view.proofs.Listings.{listings_still}
use Rattle.sw_law_reading.specs.Reading.{AreOut, IsCall}
use Rattle.sw_law_reading.proofs.Chains.{AreViews, closed-below}

-- A get over a growing view, in whose last round every device answered or was given up, and what is out since a put's mark.
pub record IsRead (begun : gets.Begun) (put : DrawnPut) (out : List ℕ) (past : List Step) (turns : List gets.Turn) : Type 0 where
  pub valid : gets.IsBegun begun
  pub is_place : IsPlace begun.cluster.part_power (gets.place_of begun)
  pub run : IsRun (gets.IsNext begun) past
  pub are : gets.AreTurns begun past turns
  pub answered : AllAnswered begun turns
  pub before : View
  pub after : View
  pub known : Contains before.puts put
  pub chain : AreViews begun before past after
  pub out_of : AreOut after begun past put.mark out

module _ (begun : gets.Begun) (put : DrawnPut) (out : List ℕ) (past : List Step) (turns : List gets.Turn) (read : IsRead begun put out past turns) where
  abbrev cluster : ClusterModel
  cluster = begun.cluster

  abbrev place : PlaceModel
  place = gets.place_of begun

  abbrev pub view : ℕ → View
  view = read.chain.views

  abbrev calls : ℕ
  calls = length (given past)

  -- what was handled by a view was so by a later one
  pub handled_still : (i j device : ℕ) → i ≤ j → j ≤ calls → (event : Event) → Contains ((view i).history device) event → Contains ((view j).history device) event
  handled_still i j device below within event has = continues_has ((view i).history device) ((view j).history device) ((read.chain.grows i j below within).histories device) event has

  -- a disk that was replaced since a stamp that is not before the put's is out
  pub is_out : (i device stamp : ℕ) → i ≤ calls → put.booked.stamp ≤ stamp → IsReplacedSince (view i) device stamp → Contains out device
  is_out i device stamp within least (loss, has, puts, deletes) =
      let known = (read.chain.grows 0 i (omega arith) within).puts put (subst (λ (one : View). Contains one.puts put) (sym read.chain.start) read.known) in
      let late = subst (λ (one : View). Contains (one.history device) (Replaced loss)) read.chain.last (handled_still i calls device within (omega arith) (Replaced loss) has) in
      read.out_of.replaced device loss late (puts put known least)

  -- ---- listings

  -- a device that is not out listed its folder in the round
  pub record IsAsked (device : ℕ) : Type 0 where
    pub ticket : ℕ
    pub listing : ListingModel
    pub within : ticket < calls
    pub call : IsCall cluster (view ticket) device (message.Ask place) (Some (reply.Held listing)) (view (ticket + 1))
    pub told : Contains past (Closed (gets.ask_message begun ticket device) (Some (reply.Held listing)))
    pub sent : Contains (now begun turns) (gets.Sends (gets.ask_message begun ticket device))
    pub among : Contains (gets.facts_in begun turns).lists (device, listing)

  abbrev asked_of : (device : ℕ) → HasListed begun past turns device → IsAsked device
  asked_of device one =
      let is = read.chain.calls (gets.ask_message begun one.ticket device) (Some (reply.Held one.listing)) one.told in
      record {
        ticket = one.ticket;
        listing = one.listing;
        within = is.0;
        call = is.1;
        told = one.told;
        sent = heard-sent begun read.valid past read.run turns read.are (gets.ask_message begun one.ticket device) (MeansLists one.listing) one.heard;
        among = one.among;
      }

  not_missed : (device : ℕ) → (Contains out device → ⊥) → HasMissed begun past device → ⊥
  not_missed device clear = λ missed. clear (read.out_of.missed device missed)

  pub asked : (device : ℕ) → IsMember cluster device → (Contains out device → ⊥) → IsAsked device
  asked device member clear = asked_of device (has-listed begun past turns read.are device (not_missed device clear) read.answered member)

  -- a handoff did so before a primary was asked
  pub asked_before : (handoff primary : ℕ) → IsMember cluster handoff → is_primary cluster handoff place ≡ false → is_primary cluster primary place ≡ true → (Contains out handoff → ⊥) → (second : IsAsked primary)
      → (first : IsAsked handoff) × (first.ticket < second.ticket)
  asked_before handoff primary member off on clear second =
      let question = gets.ask_message begun second.ticket primary in
      let split = gave-at begun past turns read.are question (in_whole begun turns _ second.sent) in
      let after : IsSentAfter begun past turns question split.1 = record { later = split.0; place = split.2; in_round = second.sent } in
      let is_handoff = keeps (λ id. not (is_among (column_of cluster place.part) id)) (ids_of cluster) handoff (Contains-from_among (ids_of cluster) handoff member) (ap not off) in
      let had = handoffs_first begun past split.1 turns second.ticket primary handoff read.valid read.run read.are after (Contains-from_among (gets.devices begun).primaries primary on) is_handoff in
      let from = sent_from begun past split.1 turns question read.run read.are after in
      let one = listed-by begun past turns read.are handoff (not_missed handoff clear) split.1 had.ticket had.answer had.told had.heard in
      let still : Contains past (Closed (gets.ask_message begun one.ticket handoff) (Some (reply.Held one.listing))) =
      let heard = Closed (gets.ask_message begun one.ticket handoff) (Some (reply.Held one.listing)) in
      subst (λ steps. Contains steps heard) (sym split.2) (Contains-append_right split.0 (Gave question ∷ split.1) heard (Contains-later (Gave question) split.1 heard one.told)) in
      let early = closed-below begun split.1 from.run.1 _ _ one.told in
      let number = numbers begun split.1 question from.run.0 in
      (asked_of handoff (record { ticket = one.ticket; listing = one.listing; told = still; heard = one.heard; among = one.among }), omega (arith, early, number))

  -- ---- what is listed

  -- what a device had claimed by some ticket
  pub record HadClaimed (s device stamp : ℕ) (what : What) : Type 0 where
    pub msg : Msg
    pub given_so : Reply
    pub has : Contains ((view s).history device) (Handled msg given_so)
    pub there : place_in msg ≡ Some place
    pub claims : Claims (is_primary cluster device place) msg given_so (record { stamp = stamp; what = what })

  -- it lists still, or its disk was replaced, or the entry was handed on
  still_listed : (s device stamp : ℕ) (what : What) → HadClaimed s device stamp what → (one : IsAsked device) → s ≤ one.ticket
      → IsListedStill cluster (view (one.ticket + 1)) device place (record { stamp = stamp; what = what }) one.listing
  still_listed s device stamp what had one below =
      let latest = one.call.adds in
      listings_still cluster (view (one.ticket + 1)) one.call.sound device place (record { stamp = stamp; what = what }) had.msg had.given_so latest.0 (message.Ask place) (reply.Held one.listing) one.listing latest.2 refl refl
      (continues_has ((view one.ticket).history device) latest.0 latest.1 (Handled had.msg had.given_so) (handled_still s one.ticket device below (omega (arith, one.within)) (Handled had.msg had.given_so) had.has)) had.there had.claims

  -- a listing of the round, of a device that is not out, bears it
  pub record IsBorneIn (stamp : ℕ) (what : What) : Type 0 where
    pub device : ℕ
    pub clear : Contains out device → ⊥
    pub one : IsAsked device
    pub lists : Lists one.listing stamp what

  lists_of : (device : ℕ) (listing : ListingModel) (stamp : ℕ) (what : What) → IsListedIn (is_primary cluster device place) (record { stamp = stamp; what = what }) listing → Lists listing stamp what
  lists_of device listing stamp what (inl is) = inl is
  lists_of device listing stamp what (inr is) = inr (is.1, is.2)

  module _ (stamp : ℕ) (least : put.booked.stamp ≤ stamp) (index : ℕ) (what : What) (of : (other : ℕ) → IsOfIndex other what → index ≡ other)
      (weaker : (listing : ListingModel) → Lists listing stamp (ADurableEntry index) → Lists listing stamp what) where
    -- by the primary of the index
    by_primary : (s primary : ℕ) → IsPrimaryOf cluster place index primary → (Contains out primary → ⊥) → HadClaimed s primary stamp (ADurableEntry index) → (one : IsAsked primary) → s ≤ one.ticket → IsBorneIn stamp what
    by_primary s primary is clear had one below = elim (still_listed s primary stamp (ADurableEntry index) had one below) [
      | WasReplaced replaced ↦ absurd (clear (is_out (one.ticket + 1) primary stamp (omega (arith, one.within)) least replaced))
      | Listed listed ↦ record { device = primary; clear = clear; one = one; lists = weaker one.listing (lists_of primary one.listing stamp (ADurableEntry index) listed) }
      | HandedOn other device msg given_so off of_it prim has there shows ↦ absurd (no_handoff cluster place index primary off is)
    ]

    module _ (s device : ℕ) (had : HadClaimed s device stamp what) (round : (sent : Sent) → Contains (now begun turns) (gets.Sends sent) → s ≤ sent.ticket)
        (untouched : IsUntouched cluster place out (record { index = index; device = device })) where
      clear_here : Contains out device → ⊥
      clear_here has = untouched device has (inl refl)

      pub at_home : IsHome cluster place (record { index = index; device = device }) → IsBorneIn stamp what
      at_home (inl is) =
          let one = asked device (primary_known cluster place read.valid.rules read.is_place index device is) clear_here in
          elim (still_listed s device stamp what had one (round _ one.sent)) [
            | WasReplaced replaced ↦ absurd (clear_here (is_out (one.ticket + 1) device stamp (omega (arith, one.within)) least replaced))
            | Listed listed ↦ record { device = device; clear = clear_here; one = one; lists = lists_of device one.listing stamp what listed }
            | HandedOn other primary msg given_so off of_it prim has there shows ↦ absurd (no_handoff cluster place index device off is)
          ]
      at_home (inr (member, off, below)) =
          let primary = primary_at cluster place read.valid.rules read.is_place index below in
          let clear : Contains out primary.0 → ⊥ = λ has. untouched primary.0 has (inr primary.1) in
          let second = asked primary.0 (primary_known cluster place read.valid.rules read.is_place index primary.0 primary.1) clear in
          let both = asked_before device primary.0 member off (at_primary cluster place index primary.0 primary.1) clear_here second in
          let first = both.0 in
          elim (still_listed s device stamp what had first (round _ first.sent)) [
            | WasReplaced replaced ↦ absurd (clear_here (is_out (first.ticket + 1) device stamp (omega (arith, first.within)) least replaced))
            | Listed listed ↦ record { device = device; clear = clear_here; one = first; lists = lists_of device first.listing stamp what listed }
            | HandedOn other found msg given_so off_so of_it prim has there shows ↦
                let same : index ≡ other = of other of_it in
                let prim_here : IsPrimaryOf cluster place index found = subst (λ n. IsPrimaryOf cluster place n found) (sym same) prim in
                let devices : found ≡ primary.0 = one_device cluster place index found primary.0 prim_here primary.1 in
                let shows_here = subst (λ n. ShowsDurable stamp n msg given_so ⊎ ShowsAbove stamp given_so) (sym same) shows in
                by_primary (first.ticket + 1) primary.0 primary.1 clear
                (record {
                  msg = msg;
                  given_so = given_so;
                  has = subst (λ d. Contains ((view (first.ticket + 1)).history d) (Handled msg given_so)) devices has;
                  there = there;
                  claims = inr (at_primary cluster place index primary.0 primary.1, (index, refl, shows_here));
                }) second (omega (arith, both.1))
          ]
