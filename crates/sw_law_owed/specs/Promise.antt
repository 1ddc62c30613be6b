-- What every scene of a run keeps: what a reply claimed of its device's folder is borne still, unless the disk was lost since, or the
-- entry was handed on to its primary.
use Rattle.std.specs.Prelude.{◌≡◌, ◌⊎◌, ◌<◌, ℕ, false, Contains, Some}
use Rattle.sw_hashdir.specs.Listing.{ListingModel}
use Rattle.sw_hashpath.specs.Place.{PlaceModel, folder_of}
use Rattle.sw_message.specs.Message.{is_primary, place_in}
use Rattle.sw_message.specs.Step.{Folders}
use Rattle.sw_message.specs.Warrant.{HasListing, IsPrimaryOf, ShowsAbove, ShowsDurable}
use Rattle.sw_message.specs.declared.message.Msg.{Msg}
use Rattle.sw_message.specs.declared.reply.Reply.{Reply}
use Rattle.sw_message.specs.declared.sent.Sent.{Sent}
use Rattle.sw_law_claim.specs.Claim.{Claim, Claims, IsBorneBy, IsListedIn, IsOfIndex}
use Rattle.sw_law_scene.specs.Disks.{IsSide}
use Rattle.sw_law_scene.specs.Scene.{Answer, IsLostSince, Scene, disk_of}

-- ---- replies

-- a reply: the step at which it was made, the device that made it, and the message that it answers
pub record Made : Type 0 where
  pub at : ℕ
  pub device : ℕ
  pub msg : Msg
  pub reply : Reply

-- it was made
abbrev pub WasMade : Scene → Made → Type 0
WasMade scene made =
    (operation : ℕ) × (sent : Sent) × Contains scene.messages (Answer made.at operation sent made.reply) × (sent.device ≡ made.device) × (sent.msg ≡ made.msg)

-- a reply that was made claims this of its device's folder of a place
pub record IsClaimed (scene : Scene) (made : Made) (place : PlaceModel) (claim : Claim) : Type 0 where
  pub was_made : WasMade scene made
  pub there : place_in made.msg ≡ Some place
  pub claims : Claims (is_primary scene.cluster made.device place) made.msg made.reply claim

-- ---- what is borne

-- of whatever the disk of a device may hold this is true
abbrev pub OnDisk : Scene → (device : ℕ) → (Folders → Type 0) → Type 0
OnDisk scene device P = (side : Folders) → IsSide (disk_of scene device) side → P side

-- a device's folder of a place bears a claim
abbrev pub BearsAt : Scene → (device : ℕ) → PlaceModel → Claim → Type 0
BearsAt scene device place claim = OnDisk scene device (λ folders. IsBorneBy (is_primary scene.cluster device place) claim (folders (folder_of place)))

-- ---- what is handed on

-- before a step the primary of an index showed its entry durable, or a floor above its stamp
pub record WasShown (scene : Scene) (place : PlaceModel) (stamp index step : ℕ) : Type 0 where
  pub made : Made
  pub was_made : WasMade scene made
  pub before : made.at < step
  pub primary : IsPrimaryOf scene.cluster place index made.device
  pub there : place_in made.msg ≡ Some place
  pub shows : ShowsDurable stamp index made.msg made.reply ⊎ ShowsAbove stamp made.reply

-- a handoff's duty for an entry went to the primary of its index
pub record WasHandedOn (scene : Scene) (device : ℕ) (place : PlaceModel) (claim : Claim) (step : ℕ) : Type 0 where
  pub index : ℕ
  pub handoff : is_primary scene.cluster device place ≡ false
  pub entry : IsOfIndex index claim.what
  pub shown : WasShown scene place claim.stamp index step

-- ---- what is kept

-- what a reply claimed is borne still, or the disk was lost since that reply, or the duty was handed on
pub data IsKept (scene : Scene) (made : Made) (place : PlaceModel) (claim : Claim) : Type 0 where
  Lost : IsLostSince scene made.device made.at → IsKept scene made place claim
  Borne : BearsAt scene made.device place claim → IsKept scene made place claim
  HandedOn : WasHandedOn scene made.device place claim scene.now → IsKept scene made place claim

-- likewise a listing that the device showed later bears it
pub data IsListedStill (scene : Scene) (made later : Made) (place : PlaceModel) (claim : Claim) (listing : ListingModel) : Type 0 where
  LostSince : IsLostSince scene made.device made.at → IsListedStill scene made later place claim listing
  Listed : IsListedIn (is_primary scene.cluster made.device place) claim listing → IsListedStill scene made later place claim listing
  HandedOnBefore : WasHandedOn scene made.device place claim later.at → IsListedStill scene made later place claim listing

-- of each reply ever made all claims are kept, and every later listing of its device bears them
pub record KeepsPromises (scene : Scene) : Type 0 where
  pub kept : (made : Made) (place : PlaceModel) (claim : Claim) → IsClaimed scene made place claim → IsKept scene made place claim
  pub listed : (made later : Made) (place : PlaceModel) (claim : Claim) (listing : ListingModel) → IsClaimed scene made place claim → WasMade scene later → made.at < later.at → later.device ≡ made.device
      → place_in later.msg ≡ Some place → HasListing later.reply listing → IsListedStill scene made later place claim listing
