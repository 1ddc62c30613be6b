-- Listings that devices of a sound view show later.
use Rattle.std.proofs.Common.{◌≡◌, ℕ, false, Contains, List, ◌∷◌, Some, refl, sym, subst}
use Rattle.sw_hashdir.specs.Listing.{ListingModel}
use Rattle.sw_hashpath.specs.Place.{IsPlace, PlaceModel}
use Rattle.sw_diskfile.proofs.Lists.{Contains-first, Contains-later}
use Rattle.sw_ring.specs.Cluster.{ClusterModel}
use Rattle.sw_message.specs.Learnt.{Learnt}
use Rattle.sw_message.specs.Message.{is_primary, place_in}
use Rattle.sw_message.specs.Step.{Folders}
use Rattle.sw_message.specs.Warrant.{HasListing}
use Rattle.sw_message.specs.declared.message.Msg.{Msg}
use Rattle.sw_message.specs.declared.reply.Reply.{Reply}
use Rattle.sw_law_claim.specs.Claim.{AsksAway, Claim, Claims}
use Rattle.sw_law_claim.proofs.Steps.{step_lists}
use Rattle.sw_law_scene.specs.Devices.{IsDeviceStep}
use Rattle.sw_law_scene.specs.Disks.{Sure}
use Rattle.sw_view.specs.History.{Replays}
use Rattle.sw_view.specs.View.{IsFirm, IsSoundView, View, known_to}
use Rattle.sw_view.specs.declared.event.Event.{Event}
use Rattle.sw_view.specs.declared.event.Event.TheVariants.{Handled}
use Rattle.sw_law_view.specs.Replies.{HandedOn, IsListedStill, KeepsListings, Listed, WasReplaced}
use Rattle.sw_law_view.proofs.Duties.{handled_place, replaced_since}
use Rattle.sw_law_view.proofs.Fates.{Away, Bears, Fate, IsLostIn, Lost, fate, lost_later}
use Rattle.sw_law_view.proofs.Removals.{asked_away}

module _ (cluster : ClusterModel) (view : View) (sound : IsSoundView cluster view) (device : ℕ) (place : PlaceModel) (claim : Claim) (listing : ListingModel) where
  abbrev learnt : Learnt
  learnt = known_to cluster view

  abbrev IsStill : Type 0
  IsStill = IsListedStill cluster view device place claim listing

  -- the entry was removed
  handed_on : (msg : Msg) → is_primary cluster device place ≡ false → AsksAway place claim msg → IsFirm cluster learnt msg → IsStill
  handed_on msg handoff asks firm =
      let away = asked_away cluster view place claim msg asks firm in
      let was = away.2 in
      HandedOn away.0 was.primary was.msg was.given handoff away.1 was.of was.has was.there was.shows

  module _ (past : List Event) (question : Msg) (answer : Reply) (latest : view.history device ≡ Handled question answer ∷ past) (there : place_in question ≡ Some place) (shows : HasListing answer listing) where
    abbrev asked : Event
    asked = Handled question answer

    in_view : (event : Event) → Contains past event → Contains (view.history device) event
    in_view event has = subst (λ events. Contains events event) (sym latest) (Contains-later asked past event has)

    is_place : IsPlace cluster.part_power place
    is_place = handled_place cluster view sound device question answer place (subst (λ events. Contains events asked) (sym latest) (Contains-first asked past)) there

    -- by what became of the claim before
    by_fate : (found folders : Folders) → Replays cluster device past (Sure found) → IsDeviceStep cluster device question answer found folders → Fate cluster learnt sound.stamped device place is_place claim past → IsStill
    by_fate found folders replays step (Bears borne) =
        Listed (step_lists cluster device step.room question found folders answer claim place there step.step listing shows (borne (Sure found) replays found refl))
    by_fate found folders replays step (Lost lost) =
        let late = lost_later cluster learnt sound.stamped device place is_place claim asked past lost in
        WasReplaced (replaced_since cluster view sound device place is_place claim (subst (IsLostIn cluster learnt sound.stamped device place is_place claim) (sym latest) late))
    by_fate found folders replays step (Away msg away firm) = handed_on msg away.0 away.1 firm

    pub still : (msg : Msg) (given : Reply) → Contains past (Handled msg given) → place_in msg ≡ Some place → Claims (is_primary cluster device place) msg given claim → IsStill
    still msg given has about claims =
        let replay = sound.closed.replayed device in
        let is = subst (λ events. Replays cluster device events replay.0) latest replay.1 in
        by_fate is.0 is.1 is.2 is.3
        (fate cluster learnt sound.stamped device place is_place claim msg given about claims past (Sure is.0) (λ event among. sound.closed.fair device event (in_view event among)) is.2 has)

pub listings_still : (cluster : ClusterModel) (view : View) → IsSoundView cluster view → KeepsListings cluster view
listings_still cluster view sound device place claim msg given past question answer listing latest there shows has about claims =
    still cluster view sound device place claim listing past question answer latest there shows msg given has about claims
