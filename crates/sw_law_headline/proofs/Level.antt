-- A round of a get whose target had been shown before it has the archives of that: with few devices out they are not wanting.
use Rattle.std.proofs.Common.{◌≡◌, ◌≢◌, inl, inr, ⊎_elim, ℕ, ◌+◌, ◌<◌, ◌≤◌, Bool, true, AllPairs, Contains, List, [], ◌∷◌, length, Some, refl, sym, ap, subst, ◌∙◌, arith}
use Rattle.std.specs.List.{All}
use Rattle.std.proofs.lemmas.List.{length-map}
use Rattle.std.proofs.lemmas.List.Elements.{All-contains, All-get_or, Contains-append_right}
use Rattle.sw_hashdir.specs.Directory.{StandsAbove}
use Rattle.sw_hashdir.specs.Listing.{ListingModel}
use Rattle.sw_hashdir.specs.declared.floor.Floor.{Floor}
use Rattle.sw_hashpath.specs.Place.{IsPlace, PlaceModel}
use Rattle.sw_diskfile.proofs.Lists.{Contains-first, Contains-later, Contains-map, Contains-none, mapped}
use Rattle.sw_ring.specs.Cluster.{ClusterModel}
use Rattle.sw_message.specs.Floors.{durable_at, floors_in}
use Rattle.sw_message.specs.Message.{IsMember, place_in}
use Rattle.sw_message.specs.Transcript.{Closed, Gave}
use Rattle.sw_message.specs.declared.target.Target.{Target}
use Rattle.sw_gather.proofs.Lists.{in_flat}
use Rattle.sw_gather.proofs.Sources.{indices_apart, indices_of}
use Rattle.sw_quorum.proofs.Places.{part_small}
use Rattle.sw_get.specs.Causes.{AllAnswered, AreShort, AreUsedUp, AreWanting, IsLevel, IsLoss, ListsAt, WasLost, floors_before, floors_listed}
use Rattle.sw_get.specs.Get.{AreTurns, Begun, Hears, Turn, devices, facts_in, fetch_message, lacking, place_of}
use Rattle.sw_get.specs.Meaning.{Brings, Lacks, Lists, Meaning, Misses}
use Rattle.sw_get.proofs.Members.{primaries_some}
use Rattle.sw_get.proofs.Turns.{now}
use Rattle.sw_law_scene.specs.Scene.{StartedPut}
use Rattle.sw_core.specs.Event.{Event, IsRun}
use Rattle.sw_core.specs.World.{Operating, World}
use Rattle.sw_core.proofs.Happening.{run-sound}
use Rattle.sw_law_owed.specs.Promise.{KeepsPromises}
use Rattle.sw_law_owed.specs.Decided.{KeepsStamps, WasDecided}
use Rattle.sw_law_rounds.specs.Timed.{IsTimed}
use Rattle.sw_law_rounds.specs.Asked.{IsSentAfter}
use Rattle.sw_law_homes.specs.Homes.{IsListed, Shown}
use Rattle.sw_law_headline.specs.Headline.{AreOut}
use Rattle.sw_law_rounds.proofs.Counting.{at_most}
use Rattle.sw_law_headline.proofs.Gets.{IsGot}
use Rattle.sw_law_headline.proofs.Growing.{run-below}
use Rattle.sw_law_headline.proofs.Heard.{IsHearing, is-hearing}
use Rattle.sw_law_rounds.proofs.LastRound.{in_heard}
use Rattle.sw_law_rounds.proofs.Showings.{floors_first}
use Rattle.sw_law_homes.proofs.DecidedHeard.{decided as hears_decided}
use Rattle.sw_law_rounds.proofs.Handed.{in_whole, told-here}
use Rattle.sw_law_rounds.proofs.Openings.{IsSentFirst, first-sent}
use Rattle.sw_law_owed.proofs.Grown.{decided_still, same_scene}
use Rattle.sw_law_rounds.proofs.Listed.{durable_entry, has_listing}
use Rattle.sw_law_headline.proofs.Stamps.{listing_by}
use Rattle.sw_law_rounds.proofs.Timing.{timed-before, told-made}

module _ (cluster : ClusterModel) (events : List Event) (world : World) (run : IsRun cluster events world) (promises : KeepsPromises world.scene) (stamps : KeepsStamps world.scene) (number : ℕ) (operation : Operating) (begun : Begun)
    (got : IsGot world.scene number operation begun) (is_place : IsPlace world.scene.cluster.part_power (place_of begun)) (turns : List Turn) (are : AreTurns begun operation.past turns) (answered : AllAnswered begun turns)
    (start : ℕ) (out : List ℕ) (are_out : AreOut world begun operation.past start out) (stamp : ℕ) (level : IsLevel begun turns stamp)
    (starts : (put : StartedPut) → Contains world.scene.book put → put.booked.stamp ≡ stamp → start ≤ put.start) where
  abbrev place : PlaceModel
  place = place_of begun

  abbrev asked_at : ℕ → ℕ
  asked_at = got.timely.asked_at

  -- ---- the first message of the round

  opening : IsSentFirst asked_at operation.past (now begun turns)
  opening =
      let primaries = (devices begun).primaries in
      let some = primaries_some begun got.valid in
      let member = All-get_or (IsMember begun.cluster) primaries 0 0 some (got.valid.rules.known place.part (part_small begun.cluster begun.name)) in
      let one = answered.each _ member in
      first-sent world.scene.messages number asked_at begun operation.past world.scene.now got.timely.timed turns are _ one.sent

  -- the step at which it was made
  abbrev since : ℕ
  since = asked_at opening.sent.ticket

  hearing : IsHearing world number operation begun got turns start since out
  hearing = is-hearing world number operation begun got turns are answered start since opening.least out are_out

  -- ---- the target was decided before

  was_decided : WasDecided world.scene place stamp since
  was_decided =
      let after : IsSentAfter begun operation.past turns opening.sent opening.earlier = record { later = opening.later; place = opening.place; in_round = opening.in_round } in
      let was = floors_first begun operation.past opening.earlier turns opening.sent (durable_at stamp) got.valid got.run are after level.before in
      let shown = was.1 in
      let timed = timed-before world.scene.messages number asked_at opening.later opening.sent opening.earlier world.scene.now
      (subst (λ steps. IsTimed world.scene.messages number asked_at steps world.scene.now) opening.place got.timely.timed) in
      let made = told-made world.scene.messages number asked_at opening.earlier since timed shown.sent shown.given shown.told in
      let told = subst (λ steps. Contains steps (Closed shown.sent (Some shown.given))) (sym opening.place)
      (Contains-append_right opening.later (Gave opening.sent ∷ opening.earlier) _ (Contains-later (Gave opening.sent) opening.earlier _ shown.told)) in
      let by = listing_by world.scene stamps place was.0 (record { at = made.0; device = shown.sent.device; msg = shown.sent.msg; reply = shown.given }) (number, shown.sent, made.3, refl, refl)
      (told-here begun operation.past got.run shown.sent (Some shown.given) told) (has_listing shown.sent.msg shown.given was.0 shown.shows) in
      let entry = durable_entry was.0 stamp was.2 in
      decided_still world.scene world.scene (same_scene world.scene) made.0 since made.2 place stamp ((by.entries (record { stamp = stamp; index = entry.0; durable = true }) entry.1).decided refl)

  -- nothing above it is heard
  none_above : (shown : Shown) (floor : Floor) → Contains hearing.heard shown → Contains (floors_in shown.listing) floor → StandsAbove floor stamp → ⊥
  none_above shown floor has there above =
      let among = in_flat (λ (one : ℕ × ListingModel). floors_in one.1) (facts_in begun turns).lists (shown.device, shown.listing) floor (hearing.listings shown has).among there in
      level.target.1 floor (Contains-append_right (floors_before begun turns) (floors_listed begun turns) floor among)
      (⊎_elim (λ less. inl less) (λ same. inr (same.0, same.1, refl)) above)

  -- ---- what is listed at it

  listed-below : (shown : Shown) → Contains hearing.heard shown → (index : ℕ) (durable : Bool) → Contains shown.listing.entries (record { stamp = stamp; index = index; durable = durable })
      → index < begun.cluster.policy.k + begun.cluster.policy.m
  listed-below shown has index durable entry =
      let made = (hearing.listings shown has).made in
      let was = made.was_made in
      let below = run-below cluster events world run shown.at was.0 was.1 made.reply was.2 place shown.listing (ap place_in was.4 ∙ made.there) made.shows (record { stamp = stamp; index = index; durable = durable }) entry in
      subst (λ (one : ClusterModel). index < one.policy.k + one.policy.m) (sym (got.cluster ∙ (run-sound cluster events world run).same_cluster)) below

  lists-at : (target : Target) → IsListed out hearing.heard stamp target → ListsAt begun.cluster.policy (facts_in begun turns).lists stamp target
  lists-at target (in_it, (shown, has, same, durable, entry)) = record {
    below = listed-below shown has target.index durable entry;
    listing = shown.listing;
    listed = subst (λ device. Contains (facts_in begun turns).lists (device, shown.listing)) same (hearing.listings shown has).among;
    durable = durable;
    entry = entry;
  }

  module _ (room : length out + begun.cluster.policy.k ≤ begun.cluster.policy.q) where
    -- k of its fragments, of different indices
    decided : (targets : List Target) × (world.scene.cluster.policy.k ≤ length targets) × AllPairs (λ one other. one.index ≢ other.index) targets × All (IsListed out hearing.heard stamp) targets
    decided =
        hears_decided world.scene place start since stamp out hearing.heard got.sound promises stamps is_place hearing.are starts was_decided none_above
        (subst (λ (one : ClusterModel). length out + one.policy.k ≤ one.policy.q) got.cluster room)

    abbrev targets : List Target
    targets = decided.0

    enough : begun.cluster.policy.k ≤ length targets
    enough = subst (λ (one : ClusterModel). one.policy.k ≤ length targets) (sym got.cluster) decided.1

    is_listed : (target : Target) → Contains targets target → IsListed out hearing.heard stamp target
    is_listed target has = All-contains (IsListed out hearing.heard stamp) targets target decided.3 has

    -- where their indices are all among some, these are as many
    as-many : (indices : List ℕ) → ((target : Target) → Contains targets target → Contains indices target.index) → begun.cluster.policy.k ≤ length indices
    as-many indices all =
        let fits = at_most (indices_of targets) indices (indices_apart targets decided.2) (λ index has.
        let from = mapped (λ (target : Target). target.index) targets index has in subst (Contains indices) from.2 (all from.0 from.1)) in
        omega (arith, fits, enough, length-map targets (λ (target : Target). target.index))

    -- so k indices are listed
    not-short : AreShort begun turns stamp → ⊥
    not-short short =
        let fits = as-many short.indices (λ target has. (short.are.listed target.index).1 (target.device, lists-at target (is_listed target has))) in
        omega (arith, fits, short.few)

    -- none of their archives is lost where none is gone
    module _ (none_gone : (facts_in begun turns).gone ≡ []) (target : Target) (in_it : Contains out target.device → ⊥) where
      not-lost-by : (ticket : ℕ) (meaning : Meaning) → Contains (now begun turns) (Hears (fetch_message begun ticket stamp target) meaning) → IsLoss meaning → ⊥
      not-lost-by ticket (Lacks listing) heard loss =
          Contains-none target (subst (λ these. Contains these target) none_gone (in_heard lacking (now begun turns) (fetch_message begun ticket stamp target) (Lacks listing) target heard (Contains-first target [])))
      not-lost-by ticket (Misses how) heard loss = in_it (are_out.missed target.device (turns, are, how, (fetch_message begun ticket stamp target, in_whole begun turns _ heard, refl)))
      not-lost-by ticket (Lists listing) heard loss = loss
      not-lost-by ticket (Brings archive) heard loss = loss

      not-lost : WasLost begun (now begun turns) stamp target → ⊥
      not-lost lost = not-lost-by lost.ticket lost.meaning lost.heard lost.loss

    -- so k archives were brought
    not-used-up : AreUsedUp begun turns stamp → (facts_in begun turns).gone ≡ [] → ⊥
    not-used-up used none_gone =
        let sources = (facts_in begun turns).sources in
        let fits = as-many (indices_of sources) (λ target has.
        let listed = is_listed target has in
        ⊎_elim
        (λ lost. absurd (not-lost none_gone target listed.0 lost))
        (λ brought. subst (Contains (indices_of sources)) brought.2 (Contains-map (λ (source : Target). source.index) sources brought.0 brought.1))
        (used.spent target (lists-at target listed))) in
        omega (arith, fits, used.few, length-map sources (λ (source : Target). source.index))

    -- the archives are not wanting
    pub not-wanting : AreWanting begun turns stamp → ⊥
    not-wanting (inl short) = not-short short
    not-wanting (inr (used, none_gone)) = not-used-up used none_gone
