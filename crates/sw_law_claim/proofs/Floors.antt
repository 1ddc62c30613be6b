-- The names of floors.
use Rattle.std.proofs.Common.{ℕ, true, Contains, List, refl}
use Rattle.sw_hashpath.specs.declared.file_name.FileName.{FileName}
use Rattle.sw_hashpath.specs.declared.file_name.FileName.TheVariants.{Data, Tombstone}
use Rattle.sw_hashdir.specs.Directory.{HasFloorAt}
use Rattle.sw_hashdir.specs.declared.floor.FloorKind.{FloorKind}
use Rattle.sw_hashdir.specs.declared.floor.FloorKind.TheVariants as kind
use Rattle.sw_law_claim.specs.Claim.{ShowsFloor}

-- some name shows a floor that there is
pub floor_name : (names : List FileName) (stamp : ℕ) (k : FloorKind) → HasFloorAt names stamp k → (name : FileName) × Contains names name × ShowsFloor name (record { stamp = stamp; kind = k })
floor_name names stamp kind.Durable has = (Data stamp has.0 true, has.1, refl)
floor_name names stamp kind.Tombstone has = (Tombstone stamp, has, refl)
