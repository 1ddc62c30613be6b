-- What shows an entry of a stamp durable, or a floor above the stamp, was made when the stamp's put or delete had started.
use Rattle.std.proofs.Common.{◌≡◌, ◌⊎◌, inl, inr, ⊎_elim, ℕ, ◌≤◌, ◌<◌, true, Contains, Some, ap, subst, arith}
use Rattle.std.proofs.lemmas.Bool.{cases_eq}
use Rattle.sw_hashdir.specs.Directory.{StandsAbove}
use Rattle.sw_hashdir.specs.Listing.{ListingModel}
use Rattle.sw_hashdir.specs.declared.floor.Floor.{Floor}
use Rattle.sw_hashdir.specs.declared.floor.FloorKind.{FloorKind}
use Rattle.sw_hashdir.specs.declared.floor.FloorKind.TheVariants as kind
use Rattle.sw_hashpath.specs.Place.{PlaceModel}
use Rattle.sw_message.specs.Message.{place_in}
use Rattle.sw_message.specs.Warrant.{ListsFloor, ShowsAbove, ShowsDurable}
use Rattle.sw_message.specs.declared.message.Msg.{Msg}
use Rattle.sw_message.specs.declared.message.Msg.TheVariants as message
use Rattle.sw_message.specs.declared.reply.Reply.{Reply}
use Rattle.sw_message.specs.declared.reply.Reply.TheVariants as reply
use Rattle.sw_law_scene.specs.Scene.{Scene, StartedDelete, StartedPut}
use Rattle.sw_law_scene.specs.Sound.{IsSoundScene}
use Rattle.sw_law_owed.specs.Promise.{Made, WasMade}
use Rattle.sw_law_owed.specs.Decided.{Draw, IsFloorBy, IsListingBy, IsMessageBy, IsReplyBy, KeepsStamps, WasDeleted, WasPut, draws_of}
use Rattle.sw_law_owed.proofs.Draws.{delete_draw, delete_drawn, put_draw, put_drawn}
use Rattle.sw_law_owed.proofs.Requests.{listing_of}

-- a floor's stamp is no less than one that it stands above
pub stands_least : (floor : Floor) (stamp : ℕ) → StandsAbove floor stamp → stamp ≤ floor.stamp
stands_least floor stamp (inl more) = omega (arith, more)
stands_least floor stamp (inr level) = omega (arith, level.0)

-- the stamp and those above it were drawn at a step or later
abbrev pub IsFrom : Scene → (stamp start : ℕ) → Type 0
IsFrom scene stamp start = (draw : Draw) → Contains (draws_of scene) draw → stamp ≤ draw.stamp → start ≤ draw.start

module _ (scene : Scene) where
  -- ---- from which step on

  module _ (stamps : KeepsStamps scene) where
    -- none of at least a stamp that was drawn was drawn earlier
    drawn_from : (one : Draw) → Contains (draws_of scene) one → IsFrom scene one.stamp one.start
    drawn_from one has = λ draw also least. ⊎_elim
        (λ same. omega (arith, ap (λ (d : Draw). d.start) (stamps.rise.same one draw has also same)))
        (λ differ. omega (arith, stamps.rise.rise one draw has also (omega (arith, least, differ))))
        (cases_eq one.stamp draw.stamp)

    -- so none of at least the stamp of a put was
    pub put_from : (put : StartedPut) → Contains scene.book put → IsFrom scene put.booked.stamp put.start
    put_from put has = drawn_from (put_draw put) (put_drawn scene put has)

    -- nor of at least that of a delete
    pub delete_from : (delete : StartedDelete) → Contains scene.marks delete → IsFrom scene delete.marked.stamp delete.start
    delete_from delete has = drawn_from (delete_draw delete) (delete_drawn scene delete has)

  -- ---- what was made

  -- a reply answers an earlier request, which is of what was started by then
  pub asked_by : IsSoundScene scene → KeepsStamps scene → (made : Made) → WasMade scene made → (asked : ℕ) × (asked < made.at) × IsMessageBy scene asked made.msg
  asked_by sound stamps made (operation, sent, there, device, msg) =
      let asked = sound.asked made.at operation sent made.reply there in
      (asked.0, asked.1, subst (IsMessageBy scene asked.0) msg (stamps.requests asked.0 operation sent asked.2))

  module _ (stamp start : ℕ) (from : IsFrom scene stamp start) where
    -- a put of the stamp, or of one above, was started no earlier
    pub from_put : (place : PlaceModel) (other by : ℕ) → stamp ≤ other → WasPut scene place other by → start ≤ by
    from_put place other by least (put, has, same, at_place, before) = omega (arith, before, from (put_draw put) (put_drawn scene put has) (omega (arith, least, same)))

    -- nor was a delete
    pub from_delete : (place : PlaceModel) (other by : ℕ) → stamp ≤ other → WasDeleted scene place other by → start ≤ by
    from_delete place other by least (delete, has, same, at_place, before) = omega (arith, before, from (delete_draw delete) (delete_drawn scene delete has) (omega (arith, least, same)))

    module _ (place : PlaceModel) (at : ℕ) where
      floor_by : (other : ℕ) (which : FloorKind) → stamp ≤ other → IsFloorBy scene place at other which → start ≤ at
      floor_by other kind.Durable least by = from_put place other at least by.put
      floor_by other kind.Tombstone least by = from_delete place other at least by

      lists_by : (listing : ListingModel) → IsListingBy scene place at listing → (floor : Floor) → ListsFloor listing stamp floor → start ≤ at
      lists_by listing by floor (stands, inl durable) = from_put place floor.stamp at (stands_least floor stamp stands) (by.entries (record { stamp = floor.stamp; index = durable.1; durable = true }) durable.2).put
      lists_by listing by floor (stands, inr tombstone) = from_delete place floor.stamp at (stands_least floor stamp stands) (by.tombstones floor.stamp tombstone.1)

      above_by : (given : Reply) → IsReplyBy scene place at given → ShowsAbove stamp given → start ≤ at
      above_by (reply.Superseded floor) by stands = floor_by floor.stamp floor.kind (stands_least floor stamp stands) by
      above_by other by (listing, has, floor, lists) = lists_by listing (listing_of scene place at other listing has by) floor lists

      -- an entry that is durable
      durable_by : (index asked : ℕ) (msg : Msg) (given : Reply) → asked < at → IsMessageBy scene asked msg → IsReplyBy scene place at given → ShowsDurable stamp index msg given → start ≤ at
      durable_by index asked (message.Commit there other which) reply.Committed before asks by shows = omega (arith, before, from_put there other asked (omega (arith, shows.0)) asks.put)
      durable_by index asked msg given before asks by shows =
          from_put place stamp at (omega arith) ((listing_of scene place at given shows.0 shows.1 by).entries (record { stamp = stamp; index = index; durable = true }) shows.2).put

    -- what shows an entry durable, or a floor above, was made no earlier
    pub dated : IsSoundScene scene → KeepsStamps scene → (place : PlaceModel) (index : ℕ) (made : Made) → WasMade scene made → place_in made.msg ≡ Some place
        → ShowsDurable stamp index made.msg made.reply ⊎ ShowsAbove stamp made.reply → start ≤ made.at
    dated sound stamps place index made was_made there shows =
        let asked = asked_by sound stamps made was_made in
        let by = stamps.replies made place was_made there in
        ⊎_elim (durable_by place made.at index asked.0 made.msg made.reply asked.1 asked.2 by) (above_by place made.at made.reply by) shows
