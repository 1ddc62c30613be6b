-- A request that is warranted by what is known stores, makes durable and buries only what is by a step.
use Rattle.std.proofs.Common.{◌≡◌, ⊎_elim, ℕ, ◌≤◌, ◌<◌, true, Contains, List, [], ◌∷◌, length, Some, refl, ap, subst, ◌∙◌, arith}
use Rattle.std.specs.List.{All}
use Rattle.std.proofs.lemmas.List.Elements.{All-head, All-weaker}
use Rattle.sw_hashdir.specs.Listing.{ListingModel}
use Rattle.sw_hashpath.specs.Place.{PlaceModel}
use Rattle.sw_diskfile.proofs.Lists.{mapped}
use Rattle.sw_ring.specs.Cluster.{place_of_name}
use Rattle.sw_message.specs.Learnt.{Booked, Heard, Marked}
use Rattle.sw_message.specs.Message.{place_in}
use Rattle.sw_message.specs.Warrant.{HasListing, HeardAt, IsDecided, IsOfDelete, IsOfPut, IsSynced, IsWarranted}
use Rattle.sw_message.specs.declared.message.Msg.{Msg}
use Rattle.sw_message.specs.declared.message.Msg.TheVariants as message
use Rattle.sw_message.specs.declared.reply.Reply.{Reply}
use Rattle.sw_message.specs.declared.reply.Reply.TheVariants as reply
use Rattle.sw_message.specs.declared.target.Target.{Target}
use Rattle.sw_quorum.proofs.Quorums.{quorums}
use Rattle.sw_law_scene.specs.Scene.{Request, Scene, StartedDelete, StartedPut, known_to}
use Rattle.sw_law_scene.specs.Sound.{IsSoundScene}
use Rattle.sw_law_owed.specs.Promise.{Made, WasMade}
use Rattle.sw_law_owed.proofs.Replies.{known_made, made_of}
use Rattle.sw_law_owed.specs.Decided.{IsEntryBy, IsListingBy, IsMessageBy, IsReplyBy, WasDeleted, WasPut, WasStored}
use Rattle.sw_law_owed.proofs.Grown.{deleted_still, entry_still, same_scene}

-- a listing in a reply is by the reply's step
pub listing_of : (scene : Scene) (place : PlaceModel) (by : ℕ) (answer : Reply) (listing : ListingModel) → HasListing answer listing → IsReplyBy scene place by answer → IsListingBy scene place by listing
listing_of scene place by (reply.Held shown) listing same is = subst (IsListingBy scene place by) same is
listing_of scene place by (reply.Gone shown) listing same is = subst (IsListingBy scene place by) same is
listing_of scene place by other listing none is = absurd none

-- of some there is one
first_of : (P : Target → Type 0) (targets : List Target) → 1 ≤ length targets → All P targets → (target : Target) × P target
first_of P [] some all = absurd (omega (arith, some))
first_of P (target ∷ targets) some all = (target, All-head P target targets all)

-- all puts and deletes of a scene were started by a step, and all replies made before it, and these are by their own
module _ (scene : Scene) (sound : IsSoundScene scene) (by : ℕ) (puts : (put : StartedPut) → Contains scene.book put → put.start ≤ by) (deletes : (delete : StartedDelete) → Contains scene.marks delete → delete.start ≤ by)
    (before : (made : Made) → WasMade scene made → made.at < by) (shown : (made : Made) (place : PlaceModel) → WasMade scene made → place_in made.msg ≡ Some place → IsReplyBy scene place made.at made.reply) where
  module _ (place : PlaceModel) (stamp : ℕ) where
    -- ---- puts and deletes

    -- a put that is known was started
    was_put : (index : ℕ) (bytes : List ℕ) → IsOfPut scene.cluster (known_to scene).book place stamp index bytes → WasPut scene place stamp by
    was_put index bytes is =
        let from = mapped (λ (put : StartedPut). put.booked) scene.book is.booked is.known in
        (from.0, from.1, ap (λ (booked : Booked). booked.stamp) from.2 ∙ is.stamp_is, ap (λ (booked : Booked). place_of_name scene.cluster booked.name) from.2 ∙ is.place_is, puts from.0 from.1)

    -- so was a delete
    was_deleted : IsOfDelete scene.cluster (known_to scene).marks place stamp → WasDeleted scene place stamp by
    was_deleted (marked, known, same, placed) =
        let from = mapped (λ (delete : StartedDelete). delete.marked) scene.marks marked known in
        (from.0, from.1, ap (λ (one : Marked). one.stamp) from.2 ∙ same, ap (λ (one : Marked). place_of_name scene.cluster one.name) from.2 ∙ placed, deletes from.0 from.1)

    -- ---- what was stored

    -- what a device stored was put
    stored_put : (target : Target) → IsSynced (known_to scene).heard place stamp target → WasPut scene place stamp by
    stored_put target (bytes, known) =
        let from = known_made scene _ known in
        let made = from.1 in
        let asked = sound.asked from.0 made.0 made.1 reply.Synced made.2 in
        was_put target.index bytes (subst (IsWarranted scene.cluster (known_to scene)) made.4 (sound.messages (Request asked.0 made.0 made.1) asked.2).1)

    -- it stored it before
    was_stored : (target : Target) → IsSynced (known_to scene).heard place stamp target → WasStored scene place stamp by target
    was_stored target (bytes, known) =
        let from = known_made scene _ known in
        let made = made_of _ from.0 in
        (made, from.1, before made from.1, refl, bytes, refl, refl)

    -- ---- what is decided

    decided : IsDecided scene.cluster (known_to scene).heard place stamp → IsEntryBy scene place stamp true by
    decided is =
        let quorum = quorums scene.cluster.policy sound.rules.policy in
        let first = first_of (IsSynced (known_to scene).heard place stamp) is.targets (omega (arith, quorum.some_commits, quorum.committed, is.enough)) is.synced in
        record {
          put = stored_put first.0 first.1;
          decided = λ durable. record {
            targets = is.targets;
            enough = is.enough;
            apart = record { indices = is.indices; devices = is.devices; homes = is.homes };
            stored = All-weaker (IsSynced (known_to scene).heard place stamp) (WasStored scene place stamp by) was_stored is.targets is.synced;
          };
        }

    -- ---- what is shown

    -- the listing in a reply of the place is by a step before
    heard_by : (heard : Heard) → Contains (known_to scene).heard heard → place_in heard.msg ≡ Some place → (listing : ListingModel) → HasListing heard.reply listing
        → (at : ℕ) × (at < by) × IsListingBy scene place at listing
    heard_by heard known there listing has =
        let from = known_made scene heard known in
        (from.0, before (made_of heard from.0) from.1, listing_of scene place from.0 heard.reply listing has (shown (made_of heard from.0) place from.1 there))

    -- so is an entry that it shows durable
    shown_durable : HeardAt (known_to scene) place (λ heard. (listing : ListingModel) × HasListing heard.reply listing × (other : ℕ) × Contains listing.entries (record { stamp = stamp; index = other; durable = true }))
        → IsEntryBy scene place stamp true by
    shown_durable at =
        let from = heard_by at.heard at.known at.same_place at.shows.0 at.shows.1 in
        entry_still scene scene (same_scene scene) from.0 by (omega (arith, from.1)) place stamp true (from.2.entries _ at.shows.3)

    -- and a tombstone
    shown_deleted : HeardAt (known_to scene) place (λ heard. (listing : ListingModel) × HasListing heard.reply listing × Contains listing.tombstones stamp) → WasDeleted scene place stamp by
    shown_deleted at =
        let from = heard_by at.heard at.known at.same_place at.shows.0 at.shows.1 in
        deleted_still scene scene (same_scene scene) from.0 by (omega (arith, from.1)) place stamp (from.2.tombstones stamp at.shows.2)

  -- what a warranted message says is by the step
  pub message_by : (msg : Msg) → IsWarranted scene.cluster (known_to scene) msg → IsMessageBy scene by msg
  message_by (message.PutFrag place stamp index bytes) is = was_put place stamp index bytes is
  message_by (message.Commit place stamp index) is = ⊎_elim (decided place stamp) (shown_durable place stamp) is
  message_by (message.Delete place stamp) is = ⊎_elim (was_deleted place stamp) (shown_deleted place stamp) is
  message_by other is = tt
