-- A device that handles a message lists entries of indices below the total alone, since each archive in its files is that of a put.
use Rattle.std.proofs.Common.{◌≡◌, ℕ, ◌+◌, ◌<◌, Contains, Option, Some, subst}
use Rattle.std.proofs.lemmas.List.Elements.{All-contains}
use Rattle.sw_hashdir.specs.Listing.{IsListingOf, ListingModel}
use Rattle.sw_hashdir.specs.declared.entry.Entry.{Entry}
use Rattle.sw_hashpath.specs.Place.{IsPlace, PlaceModel, folder_of}
use Rattle.sw_hashpath.specs.declared.file_name.FileName.TheVariants.{Data}
use Rattle.sw_diskfile.proofs.Lists.{mapped}
use Rattle.sw_hashdir.proofs.Laws.{entry_there}
use Rattle.sw_ring.specs.Cluster.{ClusterModel}
use Rattle.sw_message.specs.Message.{IsPlaceOf, place_in}
use Rattle.sw_message.specs.Step.{IsPlaceStep, IsStepAt}
use Rattle.sw_message.specs.Warrant.{HasListing}
use Rattle.sw_message.specs.declared.reply.Reply.{Reply}
use Rattle.sw_message.specs.declared.sent.Sent.{Sent}
use Rattle.sw_law_claim.specs.Claim.{ATombstone, Claim}
use Rattle.sw_law_claim.proofs.Rows.{FineAt, handled-fine}
use Rattle.sw_law_scene.specs.Filed.{IsFiled}
use Rattle.sw_law_scene.specs.Moves.{Handles}
use Rattle.sw_law_scene.specs.Scene.{Request, Scene, disk_of, known_to}
use Rattle.sw_law_scene.specs.Sound.{IsSoundScene}
use Rattle.sw_law_scene.proofs.Held.{found-filed}

-- the index of each entry that a reply about a place lists is below the total
abbrev pub IsBelow : ClusterModel → Sent → Reply → Type 0
IsBelow cluster sent reply = (place : PlaceModel) (listing : ListingModel) → place_in sent.msg ≡ Some place → HasListing reply listing → (entry : Entry) → Contains listing.entries entry → entry.index < cluster.policy.k + cluster.policy.m

module _ (scene : Scene) (sound : IsSoundScene scene) (at operation : ℕ) (sent : Sent) (request : Contains scene.messages (Request at operation sent)) (after : Scene) (is : Handles scene operation sent after) where
  module _ (place : PlaceModel) (there : place_in sent.msg ≡ Some place) where
    right : IsPlace scene.cluster.part_power place
    right = subst (IsPlaceOf scene.cluster) there (sound.messages (Request at operation sent) request).0

    stepped : IsPlaceStep scene.cluster sent.device is.step.room sent.msg place is.found is.folders is.reply
    stepped = subst (λ (about : Option PlaceModel). IsStepAt scene.cluster sent.device is.step.room sent.msg about is.found is.folders is.reply) there is.step.step

    -- a listing is that of the names that were found
    listed : (listing : ListingModel) → HasListing is.reply listing → IsListingOf stepped.found.names listing
    listed listing has =
        let claim : Claim = record { stamp = 0; what = ATombstone } in
        let fine = subst (FineAt scene.cluster sent.device is.step.room is.found claim sent.msg stepped.found stepped.handling) there
        (handled-fine scene.cluster sent.device is.step.room is.found claim stepped.found stepped.handling sent.msg stepped.handled) in
        (fine stepped.is_found).2 listing (subst (λ (r : Reply). HasListing r listing) stepped.replied has)

  -- so each entry is that of a file, and this an archive of a put
  pub handled-below : IsBelow scene.cluster sent is.reply
  handled-below place listing there has entry among =
      let step = stepped place there in
      let spelt = (step.is_found.directory (Data entry.stamp entry.index entry.durable)).0
      (entry_there step.found.names entry.stamp entry.index entry.durable (((listed place there listing has).entries entry).0 among)) in
      let file = mapped _ (is.found (folder_of place)) _ spelt.1 in
      let filed = found-filed scene.cluster (known_to scene) sent.device (disk_of scene sent.device) is.found is.finds (sound.filed sent.device) place (right place there) in
      (All-contains (IsFiled scene.cluster (known_to scene).book place) (is.found (folder_of place)) file.0 filed file.1 entry.stamp entry.index entry.durable spelt.0 file.2).index_below
