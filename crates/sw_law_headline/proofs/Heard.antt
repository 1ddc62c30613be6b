-- What is heard in the last round of a get: every device but those that are out lists what it has, handoffs before primaries.
use Rattle.std.proofs.Common.{◌≡◌, ⊎_elim, ℕ, ◌<◌, ◌≤◌, Bool, true, false, not, Contains, List, [], ◌∷◌, ◌++◌, filter, refl, sym, ap, subst, arith}
use Rattle.std.proofs.lemmas.Bool.{cases_Bool, not-true}
use Rattle.std.proofs.lemmas.List.Elements.{All-contains, Contains-append_cases, Contains-append_left, Contains-append_right, Contains-push, Contains-push_cases}
use Rattle.sw_hashdir.specs.Listing.{ListingModel}
use Rattle.sw_diskfile.proofs.Lists.{Contains-cases, Contains-first, Contains-later, Contains-none, kept, keeps}
use Rattle.sw_ring.specs.Cluster.{ClusterModel, column_of, ids_of}
use Rattle.sw_ring.specs.Ring.{is_among}
use Rattle.sw_ring.proofs.Among.{Contains-from_among, among-from_Contains, not_among}
use Rattle.sw_message.specs.Message.{IsMember, is_primary}
use Rattle.sw_message.specs.Transcript.{Gave, Step}
use Rattle.sw_message.specs.declared.reply.Reply.TheVariants as reply
use Rattle.sw_message.specs.declared.sent.Sent.{Sent}
use Rattle.sw_quorum.proofs.Places.{part_small}
use Rattle.sw_get.specs.Causes.{AllAnswered, IsShown}
use Rattle.sw_get.specs.Get.{AreTurns, Begun, Sends, Turn, ask_message, devices, facts_in, place_of}
use Rattle.sw_get.specs.Meaning.{Lists}
use Rattle.sw_get.proofs.Turns.{now}
use Rattle.sw_law_scene.specs.Scene.{Message}
use Rattle.sw_core.specs.World.{Operating, World}
use Rattle.sw_law_rounds.specs.Timed.{IsTimed}
use Rattle.sw_law_rounds.specs.Asked.{IsSentAfter}
use Rattle.sw_law_homes.specs.Homes.{AreHeard, IsHeardBefore, IsMadeOf, Shown}
use Rattle.sw_law_rounds.specs.Missed.{HasMissed}
use Rattle.sw_law_headline.specs.Headline.{AreOut}
use Rattle.sw_law_rounds.proofs.Counting.{Collected, collected}
use Rattle.sw_law_headline.proofs.Gets.{IsGot}
use Rattle.sw_law_rounds.proofs.LastRound.{HasListed, has-listed, listed-by}
use Rattle.sw_law_rounds.proofs.Handoffs.{handoffs_first}
use Rattle.sw_law_rounds.proofs.Handed.{gave-at, in_whole}
use Rattle.sw_law_rounds.proofs.Rounds.{heard-sent}
use Rattle.sw_law_rounds.proofs.Timing.{WasMadeBy, told-made, timed-before}

module _ (world : World) (number : ℕ) (operation : Operating) (begun : Begun) (got : IsGot world.scene number operation begun) (turns : List Turn) where
  abbrev past : List Step
  past = operation.past

  abbrev messages : List Message
  messages = world.scene.messages

  abbrev asked_at : ℕ → ℕ
  asked_at = got.timely.asked_at

  -- a listing of the last round, made at a step or later
  pub record IsListing (since : ℕ) (shown : Shown) : Type 0 where
    pub made : IsMadeOf world.scene (place_of begun) shown
    pub in_time : since ≤ shown.at
    pub among : Contains (facts_in begun turns).lists (shown.device, shown.listing)
    pub told : IsShown operation.past shown.listing

  -- what one hears who hears them
  pub record IsHearing (start since : ℕ) (out : List ℕ) : Type 0 where
    pub heard : List Shown
    pub are : AreHeard world.scene (place_of begun) start since out heard
    pub listings : (shown : Shown) → Contains heard shown → IsListing since shown

  -- a listing of a device, as it was told and made
  abbrev shown_of : (device at : ℕ) → ListingModel → Shown
  shown_of device at listing = record { device = device; at = at; listing = listing }

  is-listing : (since device : ℕ) (listed : HasListed begun past turns device) (by : ℕ) (made : WasMadeBy messages number asked_at (ask_message begun listed.ticket device) (reply.Held listed.listing) by)
      → since ≤ made.0 → IsListing since (shown_of device made.0 listed.listing)
  is-listing since device listed by made in_time =
      let sent = ask_message begun listed.ticket device in
      record {
        made = record { reply = reply.Held listed.listing; msg = sent.msg; was_made = (number, sent, made.3, refl, refl); there = refl; shows = refl };
        in_time = in_time;
        among = listed.among;
        told = record { sent = sent; given = reply.Held listed.listing; told = listed.told; shows = refl };
      }

  module _ (are : AreTurns begun operation.past turns) (answered : AllAnswered begun turns) (start since : ℕ) (in_time : (sent : Sent) → Contains (now begun turns) (Sends sent) → since ≤ got.timely.asked_at sent.ticket) (out : List ℕ)
      (are_out : AreOut world begun operation.past start out) where
    -- ---- devices that are not out

    abbrev is_in : ℕ → Bool
    is_in device = not (is_among out device)

    not_out : (device : ℕ) → is_in device ≡ true → Contains out device → ⊥
    not_out device is = not_among out device (not-true (is_among out device) is)

    in_or_out : (device : ℕ) → (Contains out device → ⊥) → is_in device ≡ true
    in_or_out device not_so = ⊎_elim
        (λ is. absurd (not_so (Contains-from_among out device is)))
        (λ none. ap not none)
        (cases_Bool (is_among out device))

    not_missed : (device : ℕ) → is_in device ≡ true → HasMissed begun past device → ⊥
    not_missed device is missed = not_out device is (are_out.missed device missed)

    abbrev members : List ℕ
    members = filter is_in (ids_of begun.cluster)

    abbrev handoffs : List ℕ
    handoffs = filter is_in (devices begun).handoffs

    abbrev primaries : List ℕ
    primaries = filter is_in (devices begun).primaries

    -- the step of an answer to a question of the round
    since-asked : (device : ℕ) (steps : List Step) (listed : HasListed begun steps turns device) (at : ℕ) → asked_at listed.ticket < at → since ≤ at
    since-asked device steps listed at later =
        let sent = ask_message begun listed.ticket device in
        omega (arith, in_time sent (heard-sent begun got.valid past got.run turns are sent (Lists listed.listing) listed.heard), later)

    -- ---- each device

    abbrev IsThere : ℕ → List Shown → Type 0
    IsThere device heard = (shown : Shown) × Contains heard shown × (shown.device ≡ device)

    there_still : (device : ℕ) (few many : List Shown) → ((shown : Shown) → Contains few shown → Contains many shown) → IsThere device few → IsThere device many
    there_still device few many more is = (is.0, more is.0 is.1, is.2)

    only : (since : ℕ) (shown : Shown) → IsListing since shown → (item : Shown) → Contains (shown ∷ []) item → IsListing since item
    only since shown is item has = ⊎_elim (λ same. subst (IsListing since) same is) (λ none. absurd (Contains-none item none)) (Contains-cases shown [] item has)

    listed_of : (device : ℕ) → is_in device ≡ true → IsMember begun.cluster device → HasListed begun past turns device
    listed_of device is member = has-listed begun past turns are device (not_missed device is) answered member

    singles : Collected (IsListing since) IsThere members
    singles = collected (IsListing since) IsThere there_still members (λ device has.
        let both = kept is_in (ids_of begun.cluster) device has in
        let listed = listed_of device both.1 (among-from_Contains (ids_of begun.cluster) device both.0) in
        let made = told-made messages number asked_at past world.scene.now got.timely.timed (ask_message begun listed.ticket device) (reply.Held listed.listing) listed.told in
        let shown = shown_of device made.0 listed.listing in
        (shown ∷ [], only since shown (is-listing since device listed world.scene.now made (since-asked device past listed made.0 made.1)), (shown, Contains-first shown [], refl {a = device})))

    -- ---- handoffs before a primary

    abbrev IsThereBy : (by : ℕ) → ℕ → List Shown → Type 0
    IsThereBy by device heard = (shown : Shown) × Contains heard shown × (shown.device ≡ device) × (shown.at ≤ by)

    by_still : (by device : ℕ) (few many : List Shown) → ((shown : Shown) → Contains few shown → Contains many shown) → IsThereBy by device few → IsThereBy by device many
    by_still by device few many more is = (is.0, more is.0 is.1, is.2, is.3)

    module _ (primary : ℕ) (has : Contains primaries primary) where
      itself : Contains (devices begun).primaries primary × (is_in primary ≡ true)
      itself = kept is_in (devices begun).primaries primary has

      listed : HasListed begun past turns primary
      listed = listed_of primary itself.1
          (All-contains (IsMember begun.cluster) (devices begun).primaries primary (got.valid.rules.known (place_of begun).part (part_small begun.cluster begun.name)) itself.0)

      abbrev question : Sent
      question = ask_message begun listed.ticket primary

      asked_in : Contains (now begun turns) (Sends question)
      asked_in = heard-sent begun got.valid past got.run turns are question (Lists listed.listing) listed.heard

      split : (later earlier : List Step) × (past ≡ later ++ Gave question ∷ earlier)
      split = gave-at begun past turns are question (in_whole begun turns _ asked_in)

      abbrev earlier : List Step
      earlier = split.1

      asked_after : IsSentAfter begun past turns question earlier
      asked_after = record { later = split.0; place = split.2; in_round = asked_in }

      -- what was told before the question was made by then
      timed : IsTimed messages number asked_at earlier (asked_at listed.ticket)
      timed = timed-before messages number asked_at split.0 question earlier world.scene.now (subst (λ steps. IsTimed messages number asked_at steps world.scene.now) split.2 got.timely.timed)

      told_still : (step : Step) → Contains earlier step → Contains past step
      told_still step there = subst (λ steps. Contains steps step) (sym split.2) (Contains-append_right split.0 (Gave question ∷ earlier) step (Contains-later (Gave question) earlier step there))

      firsts : Collected (IsListing since) (IsThereBy (asked_at listed.ticket)) handoffs
      firsts = collected (IsListing since) (IsThereBy (asked_at listed.ticket)) (by_still (asked_at listed.ticket)) handoffs (λ device there.
          let both = kept is_in (devices begun).handoffs device there in
          let had = handoffs_first begun past earlier turns listed.ticket primary device got.valid got.run are asked_after itself.0 both.0 in
          let one = listed-by begun past turns are device (not_missed device both.1) earlier had.ticket had.answer had.told had.heard in
          let again : HasListed begun past turns device = record { ticket = one.ticket; listing = one.listing; told = told_still _ one.told; heard = one.heard; among = one.among } in
          let made = told-made messages number asked_at earlier (asked_at listed.ticket) timed (ask_message begun one.ticket device) (reply.Held one.listing) one.told in
          let shown = shown_of device made.0 one.listing in
          (shown ∷ [], only since shown (is-listing since device again (asked_at listed.ticket) made (since-asked device earlier one made.0 made.1)), (shown, Contains-first shown [], refl {a = device}, made.2)))

      made_last : WasMadeBy messages number asked_at question (reply.Held listed.listing) world.scene.now
      made_last = told-made messages number asked_at past world.scene.now got.timely.timed question (reply.Held listed.listing) listed.told

      abbrev second : Shown
      second = shown_of primary made_last.0 listed.listing

      abbrev both_heard : List Shown
      both_heard = firsts.items ++ second ∷ []

      all_listings : (item : Shown) → Contains both_heard item → IsListing since item
      all_listings item there = ⊎_elim
          (λ first. firsts.good item first)
          (λ same. subst (IsListing since) same (is-listing since primary listed world.scene.now made_last (since-asked primary past listed made_last.0 made_last.1)))
          (Contains-push_cases firsts.items second item there)

      in_order : (handoff : ℕ) → Contains handoffs handoff → IsHeardBefore both_heard handoff primary
      in_order handoff there =
          let first = firsts.each handoff there in
          record {
            first = first.0;
            second = second;
            has_first = Contains-append_left firsts.items (second ∷ []) first.0 first.1;
            has_second = Contains-push firsts.items second;
            first_is = first.2;
            second_is = refl;
            order = omega (arith, first.3, made_last.1);
          }

    abbrev AreInOrder : ℕ → List Shown → Type 0
    AreInOrder primary heard = (handoff : ℕ) → Contains handoffs handoff → IsHeardBefore heard handoff primary

    before_still : (few many : List Shown) → ((shown : Shown) → Contains few shown → Contains many shown) → (handoff primary : ℕ) → IsHeardBefore few handoff primary → IsHeardBefore many handoff primary
    before_still few many more handoff primary is = record {
      first = is.first;
      second = is.second;
      has_first = more is.first is.has_first;
      has_second = more is.second is.has_second;
      first_is = is.first_is;
      second_is = is.second_is;
      order = is.order;
    }

    orders : Collected (IsListing since) AreInOrder primaries
    orders = collected (IsListing since) AreInOrder (λ primary few many more are_so handoff there. before_still few many more handoff primary (are_so handoff there)) primaries
        (λ primary has. (both_heard primary has, all_listings primary has, in_order primary has))

    -- ---- all that is heard

    abbrev all_heard : List Shown
    all_heard = singles.items ++ orders.items

    listings : (shown : Shown) → Contains all_heard shown → IsListing since shown
    listings shown has = ⊎_elim (singles.good shown) (orders.good shown) (Contains-append_cases singles.items orders.items shown has)

    own_cluster : (P : ClusterModel → Type 0) → P world.scene.cluster → P begun.cluster
    own_cluster P is = subst P (sym got.cluster) is

    -- one who hears the answers of the last round hears so
    pub is-hearing : IsHearing start since out
    is-hearing = record {
      heard = all_heard;
      listings = listings;
      are = record {
        made = λ shown has. (listings shown has).made;
        not_before = λ shown has. (listings shown has).in_time;
        each = λ device member in_it.
            let has = keeps is_in (ids_of begun.cluster) device (Contains-from_among (ids_of begun.cluster) device (own_cluster (λ (cluster : ClusterModel). IsMember cluster device) member)) (in_or_out device in_it) in
            there_still device singles.items all_heard (λ shown there. Contains-append_left singles.items orders.items shown there) (singles.each device has);
        order = λ handoff primary member also first_in second_in off on.
            let is_off = own_cluster (λ (cluster : ClusterModel). is_primary cluster handoff (place_of begun) ≡ false) off in
            let is_on = own_cluster (λ (cluster : ClusterModel). is_primary cluster primary (place_of begun) ≡ true) on in
            let known = Contains-from_among (ids_of begun.cluster) handoff (own_cluster (λ (cluster : ClusterModel). IsMember cluster handoff) member) in
            let has = keeps (λ id. not (is_among (column_of begun.cluster (place_of begun).part) id)) (ids_of begun.cluster) handoff known (ap not is_off) in
            let first = keeps is_in (devices begun).handoffs handoff has (in_or_out handoff first_in) in
            let second = keeps is_in (devices begun).primaries primary (Contains-from_among (devices begun).primaries primary is_on) (in_or_out primary second_in) in
            before_still orders.items all_heard (λ shown there. Contains-append_right singles.items orders.items shown there) handoff primary (orders.each primary second handoff first);
        lost = are_out.lost;
      };
    }
