-- Claims: what a reply says of its device's folder of a place, and what a folder has to have for that.
use Rattle.std.specs.Prelude.{◌≡◌, ◌⊎◌, ℕ, Bool, true, false, List, Contains}
use Rattle.sw_disk.specs.Answers.{names_of}
use Rattle.sw_disk.specs.Folder.{File}
use Rattle.sw_hashpath.specs.FileName.{IsFileName, file_name_text}
use Rattle.sw_hashpath.specs.Place.{PlaceModel}
use Rattle.sw_hashpath.specs.declared.file_name.FileName.{FileName}
use Rattle.sw_hashpath.specs.declared.file_name.FileName.TheVariants.{Data, Tombstone}
use Rattle.sw_hashdir.specs.Directory.{StandsAbove}
use Rattle.sw_hashdir.specs.Listing.{ListingModel}
use Rattle.sw_hashdir.specs.declared.floor.Floor.{Floor}
use Rattle.sw_hashdir.specs.declared.floor.FloorKind.TheVariants as kind
use Rattle.sw_message.specs.Warrant.{ListsFloor, ShowsAbove, ShowsDurable}
use Rattle.sw_message.specs.declared.message.Msg.{Msg}
use Rattle.sw_message.specs.declared.message.Msg.TheVariants as message
use Rattle.sw_message.specs.declared.reply.Reply.{Reply}
use Rattle.sw_message.specs.declared.reply.Reply.TheVariants as reply

-- what is claimed to be there
pub data What : Type 0 where
  AnEntry : (index : ℕ) → What
  ADurableEntry : (index : ℕ) → What
  ATombstone : What

pub record Claim : Type 0 where
  pub stamp : ℕ
  pub what : What

-- ---- folders

-- the name is that of what is claimed
abbrev pub IsWhat : (stamp : ℕ) → What → FileName → Type 0
IsWhat stamp (AnEntry index) name = (durable : Bool) × (name ≡ Data stamp index durable)
IsWhat stamp (ADurableEntry index) name = name ≡ Data stamp index true
IsWhat stamp ATombstone name = name ≡ Tombstone stamp

-- the floor that a name shows by itself
abbrev pub ShowsFloor : FileName → Floor → Type 0
ShowsFloor (Data stamp index true) floor = floor ≡ record { stamp = stamp; kind = kind.Durable }
ShowsFloor (Data stamp index false) floor = ⊥
ShowsFloor (Tombstone stamp) floor = floor ≡ record { stamp = stamp; kind = kind.Tombstone }

-- a name bears a claim: it is that of what is claimed, or, at a primary, it shows a floor that stands above the stamp
abbrev pub IsBearing : (is_primary : Bool) → Claim → FileName → Type 0
IsBearing is_primary claim name = IsWhat claim.stamp claim.what name ⊎ ((is_primary ≡ true) × (floor : Floor) × ShowsFloor name floor × StandsAbove floor claim.stamp)

-- a folder bears it, where one of its files does by its name
pub record IsBorneBy (is_primary : Bool) (claim : Claim) (files : List File) : Type 0 where
  pub name : FileName
  pub spelt : IsFileName name
  pub there : Contains (names_of files) (file_name_text name)
  pub bearing : IsBearing is_primary claim name

-- ---- replies

-- what the reply to a change of a folder claims
abbrev pub ClaimsChange : Msg → Reply → Claim → Type 0
ClaimsChange (message.PutFrag place stamp index bytes) reply.Synced claim = claim ≡ record { stamp = stamp; what = AnEntry index }
ClaimsChange (message.Commit place stamp index) reply.Committed claim = claim ≡ record { stamp = stamp; what = ADurableEntry index }
ClaimsChange (message.Delete place stamp) (reply.Deleted existed) claim = claim ≡ record { stamp = stamp; what = ATombstone }
ClaimsChange msg reply claim = ⊥

-- a reply of a primary that shows an entry durable, or a floor above its stamp, claims the durable entry
abbrev pub ClaimsShown : Msg → Reply → Claim → Type 0
ClaimsShown msg reply claim = (index : ℕ) × (claim.what ≡ ADurableEntry index) × (ShowsDurable claim.stamp index msg reply ⊎ ShowsAbove claim.stamp reply)

-- what a reply to a message claims of its device's folder of the message's place
abbrev pub Claims : (is_primary : Bool) → Msg → Reply → Claim → Type 0
Claims is_primary msg reply claim = ClaimsChange msg reply claim ⊎ ((is_primary ≡ true) × ClaimsShown msg reply claim)

-- ---- listings

abbrev pub ListsWhat : ListingModel → (stamp : ℕ) → What → Type 0
ListsWhat listing stamp (AnEntry index) = (durable : Bool) × Contains listing.entries (record { stamp = stamp; index = index; durable = durable })
ListsWhat listing stamp (ADurableEntry index) = Contains listing.entries (record { stamp = stamp; index = index; durable = true })
ListsWhat listing stamp ATombstone = Contains listing.tombstones stamp

-- a listing bears a claim
abbrev pub IsListedIn : (is_primary : Bool) → Claim → ListingModel → Type 0
IsListedIn is_primary claim listing = ListsWhat listing claim.stamp claim.what ⊎ ((is_primary ≡ true) × (floor : Floor) × ListsFloor listing claim.stamp floor)

-- ---- what takes away

abbrev pub IsOfIndex : ℕ → What → Type 0
IsOfIndex index (AnEntry other) = other ≡ index
IsOfIndex index (ADurableEntry other) = other ≡ index
IsOfIndex index ATombstone = ⊥

-- the message asks for the removal of the claimed entry from the folder of a place
abbrev pub AsksAway : PlaceModel → Claim → Msg → Type 0
AsksAway place claim (message.Remove at stamp index) = (at ≡ place) × (claim.stamp ≡ stamp) × IsOfIndex index claim.what
AsksAway place claim msg = ⊥
