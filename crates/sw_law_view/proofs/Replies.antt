-- What a sound view says of its replies, and of the messages that they warrant.
use Rattle.std.proofs.Common.{◌≡◌, ⊎_elim, ℕ, Contains, Some, refl, subst}
use Rattle.sw_hashdir.specs.Listing.{ListingModel}
use Rattle.sw_hashpath.specs.Place.{PlaceModel}
use Rattle.sw_ring.specs.Cluster.{ClusterModel, ids_of}
use Rattle.sw_message.specs.Learnt.{Heard, Learnt}
use Rattle.sw_message.specs.Message.{place_in}
use Rattle.sw_message.specs.Warrant.{HasListing, IsWarranted}
use Rattle.sw_message.specs.declared.message.Msg.{Msg}
use Rattle.sw_message.specs.declared.message.Msg.TheVariants as message
use Rattle.sw_message.specs.declared.reply.Reply.{Reply}
use Rattle.sw_law_owed.specs.Decided.{IsListingBy}
use Rattle.sw_law_owed.proofs.Requests.{listing_of}
use Rattle.sw_view.specs.View.{IsFirm, IsSoundView, View, known_to}
use Rattle.sw_view.specs.declared.event.Event.TheVariants.{Handled}
use Rattle.sw_view.proofs.Known.{from_known}
use Rattle.sw_law_view.specs.Replies.{IsListingOf, KeepsReplies}
use Rattle.sw_law_view.proofs.Files.{below, genuine, reply_by}
use Rattle.sw_law_view.proofs.Timeless.{decided_out, deleted_out, put_out, scene_of}

module _ (cluster : ClusterModel) (view : View) (sound : IsSoundView cluster view) where
  abbrev learnt : Learnt
  learnt = known_to cluster view

  pub listings : (place : PlaceModel) (device : ℕ) (msg : Msg) (given : Reply) (listing : ListingModel) → Contains (view.history device) (Handled msg given) → place_in msg ≡ Some place → HasListing given listing
      → IsListingOf cluster learnt place listing
  listings place device msg given listing has there shows =
      let by : IsListingBy (scene_of cluster learnt) place 1 listing = listing_of (scene_of cluster learnt) place 1 given listing shows (reply_by cluster view sound device msg given has place there) in
      record {
        entries = λ entry among.
            let is = by.entries entry among in
            (put_out cluster learnt place entry.stamp is.put, below cluster view sound device msg given has place listing there shows entry among, λ durable. decided_out cluster learnt place entry.stamp (is.decided durable));
        tombstones = λ stamp among. deleted_out cluster learnt place stamp (by.tombstones stamp among);
      }

  -- a listing that is known
  known_listing : (place : PlaceModel) (heard : Heard) (listing : ListingModel) → Contains learnt.heard heard → place_in heard.msg ≡ Some place → HasListing heard.reply listing → IsListingOf cluster learnt place listing
  known_listing place heard listing known there shows = ⊎_elim
      (λ has. listings place heard.device heard.msg heard.reply listing has there shows)
      (λ failed. absurd (subst (λ (r : Reply). HasListing r listing) failed.1 shows))
      (from_known (ids_of cluster) view heard known)

  pub firm : (msg : Msg) → IsWarranted cluster learnt msg → IsFirm cluster learnt msg
  firm (message.PutFrag place stamp index bytes) is = is
  firm (message.Commit place stamp index) is = ⊎_elim
      (λ decided. decided)
      (λ at. ((known_listing place at.heard at.shows.0 at.known at.same_place at.shows.1).entries (record { stamp = stamp; index = at.shows.2; durable = _ }) at.shows.3).2 refl)
      is
  firm (message.Delete place stamp) is = ⊎_elim
      (λ deleted. deleted)
      (λ at. (known_listing place at.heard at.shows.0 at.known at.same_place at.shows.1).tombstones stamp at.shows.2)
      is
  firm (message.Ask place) is = is
  firm (message.Fetch place stamp index) is = is
  firm (message.Remove place stamp index) is = is
  firm message.Parts is = is
  firm (message.Suffixes part) is = is
  firm (message.Places part) is = is

  pub replies : KeepsReplies cluster view
  replies = record { listings = listings; genuine = λ device msg given has. genuine cluster view sound device msg given has; firm = firm }
