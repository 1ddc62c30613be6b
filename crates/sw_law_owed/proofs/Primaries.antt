-- The primary of an index is a primary of the place.
use Rattle.std.proofs.Common.{◌≡◌, ℕ, true}
use Rattle.std.proofs.lemmas.Option.{get_or_from_slice_get, slice_get_within}
use Rattle.sw_hashpath.specs.Place.{PlaceModel}
use Rattle.sw_ring.specs.Cluster.{ClusterModel, column_of}
use Rattle.sw_ring.proofs.Among.{among-from_Contains}
use Rattle.sw_message.specs.Message.{is_primary}
use Rattle.sw_message.specs.Warrant.{IsPrimaryOf}

pub at_primary : (cluster : ClusterModel) (place : PlaceModel) (index device : ℕ) → IsPrimaryOf cluster place index device → is_primary cluster device place ≡ true
at_primary cluster place index device is =
    let column = column_of cluster place.part in
    among-from_Contains column device (index, slice_get_within column index device is, get_or_from_slice_get column index device device is)
