-- What a view says of the replies in its histories: what they show is known, and what a device claimed a later listing bears.
use Rattle.std.specs.Prelude.{◌≡◌, ◌⊎◌, ◌<◌, ◌+◌, ℕ, true, false, List, ◌∷◌, Contains, Some}
use Rattle.sw_hashdir.specs.Listing.{ListingModel}
use Rattle.sw_hashdir.specs.declared.entry.Entry.{Entry}
use Rattle.sw_hashpath.specs.Place.{PlaceModel}
use Rattle.sw_ring.specs.Cluster.{ClusterModel, place_of_name}
use Rattle.sw_message.specs.Learnt.{Booked, IsGenuine, Learnt}
use Rattle.sw_message.specs.Message.{is_primary, place_in}
use Rattle.sw_message.specs.Warrant.{HasListing, IsDecided, IsOfDelete, IsPrimaryOf, IsWarranted, ShowsAbove, ShowsDurable}
use Rattle.sw_message.specs.declared.message.Msg.{Msg}
use Rattle.sw_message.specs.declared.reply.Reply.{Reply}
use Rattle.sw_law_claim.specs.Claim.{Claim, Claims, IsListedIn, IsOfIndex}
use Rattle.sw_view.specs.View.{IsFirm, View, known_to}
use Rattle.sw_view.specs.declared.event.Event.{Event}
use Rattle.sw_view.specs.declared.event.Event.TheVariants.{Handled}
use Rattle.sw_law_view.specs.Duties.{IsReplacedSince}

-- ---- what is shown

-- a put of the stamp, at the place of its name, is known
abbrev pub IsPutAt : ClusterModel → Learnt → PlaceModel → (stamp : ℕ) → Type 0
IsPutAt cluster learnt place stamp = (booked : Booked) × Contains learnt.book booked × (booked.stamp ≡ stamp) × (place_of_name cluster booked.name ≡ place)

-- What a listing shows is of puts and deletes that are known, and what it shows durable is decided by replies that are.
pub record IsListingOf (cluster : ClusterModel) (learnt : Learnt) (place : PlaceModel) (listing : ListingModel) : Type 0 where
  pub entries : (entry : Entry) → Contains listing.entries entry → IsPutAt cluster learnt place entry.stamp × (entry.index < cluster.policy.k + cluster.policy.m) × (entry.durable ≡ true → IsDecided cluster learnt.heard place entry.stamp)
  pub tombstones : (stamp : ℕ) → Contains listing.tombstones stamp → IsOfDelete cluster learnt.marks place stamp

-- What a view says of all replies in its histories, and of all messages that they warrant.
pub record KeepsReplies (cluster : ClusterModel) (view : View) : Type 0 where
  pub listings : (place : PlaceModel) (device : ℕ) (msg : Msg) (given : Reply) (listing : ListingModel) → Contains (view.history device) (Handled msg given) → place_in msg ≡ Some place → HasListing given listing
      → IsListingOf cluster (known_to cluster view) place listing
  -- each archive is that of a put that is known
  pub genuine : (device : ℕ) (msg : Msg) (given : Reply) → Contains (view.history device) (Handled msg given) → IsGenuine cluster (known_to cluster view) given
  -- a warrant by a listing is one by replies
  pub firm : (msg : Msg) → IsWarranted cluster (known_to cluster view) msg → IsFirm cluster (known_to cluster view) msg

-- ---- later listings

-- A device claimed something, and later listed its folder as the latest event that is known of it: the listing bears the claim, or the disk
-- was replaced, or the entry was handed on.
pub data IsListedStill (cluster : ClusterModel) (view : View) (device : ℕ) (place : PlaceModel) (claim : Claim) (listing : ListingModel) : Type 0 where
  WasReplaced : IsReplacedSince view device claim.stamp → IsListedStill cluster view device place claim listing
  Listed : IsListedIn (is_primary cluster device place) claim listing → IsListedStill cluster view device place claim listing
  -- the entry was removed from a handoff, and in the view the primary of its index has shown it durable, or a floor above
  HandedOn : (index primary : ℕ) (msg : Msg) (given : Reply) → is_primary cluster device place ≡ false → IsOfIndex index claim.what → IsPrimaryOf cluster place index primary
      → Contains (view.history primary) (Handled msg given) → place_in msg ≡ Some place → ShowsDurable claim.stamp index msg given ⊎ ShowsAbove claim.stamp given → IsListedStill cluster view device place claim listing

-- so it is of whatever a device claimed before
abbrev pub KeepsListings : ClusterModel → View → Type 0
KeepsListings cluster view =
    (device : ℕ) (place : PlaceModel) (claim : Claim) (msg : Msg) (given : Reply) (past : List Event) (question : Msg) (answer : Reply) (listing : ListingModel)
    → view.history device ≡ Handled question answer ∷ past → place_in question ≡ Some place → HasListing answer listing
    → Contains past (Handled msg given) → place_in msg ≡ Some place → Claims (is_primary cluster device place) msg given claim → IsListedStill cluster view device place claim listing
