-- What scenes keep of stamps, of what is shown: listings are of puts and deletes, and these started in the order of their stamps.
use Rattle.std.proofs.Common.{◌≡◌, ℕ, ◌≤◌, Contains, Some, sym, ap, true≢false}
use Rattle.sw_hashdir.specs.Listing.{ListingModel}
use Rattle.sw_hashpath.specs.Place.{PlaceModel}
use Rattle.sw_message.specs.Message.{place_in}
use Rattle.sw_message.specs.Warrant.{HasListing}
use Rattle.sw_law_scene.specs.Scene.{Scene, StartedPut}
use Rattle.sw_law_owed.specs.Decided.{Draw, IsListingBy, KeepsStamps, WasDeleted}
use Rattle.sw_law_owed.specs.Promise.{Made, WasMade}
use Rattle.sw_law_owed.proofs.Dates.{put_from}
use Rattle.sw_law_owed.proofs.Draws.{delete_draw, delete_drawn, put_draw, put_drawn}
use Rattle.sw_law_owed.proofs.Requests.{listing_of}

-- ---- listings that are shown

-- a listing in a reply that was made is of puts and deletes that were started by then
pub listing_by : (scene : Scene) → KeepsStamps scene → (place : PlaceModel) (listing : ListingModel) (made : Made) → WasMade scene made → place_in made.msg ≡ Some place → HasListing made.reply listing → IsListingBy scene place made.at listing
listing_by scene stamps place listing made was_made there has = listing_of scene place made.at made.reply listing has (stamps.replies made place was_made there)

-- ---- the order of stamps

module _ (scene : Scene) (stamps : KeepsStamps scene) (put : StartedPut) (started : Contains scene.book put) where
  -- a put of the same or a greater stamp did not start earlier
  pub starts_later : (other : StartedPut) → Contains scene.book other → put.booked.stamp ≤ other.booked.stamp → put.start ≤ other.start
  starts_later other has below = put_from scene stamps put started (put_draw other) (put_drawn scene other has) below

  -- and no delete has its stamp
  pub no_delete : (place : PlaceModel) (by : ℕ) → WasDeleted scene place put.booked.stamp by → ⊥
  no_delete place by (delete, has, same, placed, in_time) =
      let one = stamps.rise.same (put_draw put) (delete_draw delete) (put_drawn scene put started) (delete_drawn scene delete has) (sym same) in
      true≢false (sym (ap (λ (draw : Draw). draw.is_delete) one))
