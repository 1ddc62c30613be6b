-- How a node answers the messages that are about no place: of its folders, and of the floors in them.
use Rattle.std.specs.Prelude.{◌≡◌, ◌↔◌, ℕ, ◌<◌, List, [], ◌∷◌, Contains}
use Rattle.std.specs.List.{AllPairs}
use Rattle.std.specs.Cmp.Lexicographic.{slice_cmp}
use Rattle.std.specs.Ordering.{nat_cmp}
use Rattle.std.specs.declared.cmp.Ordering.TheVariants.{Less}
use Rattle.sw_disk.specs.Calls.{Call, ListFolders}
use Rattle.sw_hashpath.specs.Place.{IsPlace, PlaceModel, folder_of}
use Rattle.sw_hashdir.specs.declared.floor.Floor.{Floor}
use Rattle.sw_suffix.specs.Table.{AreHashes, Hashed}
use Rattle.sw_message.specs.declared.message.Msg.{Msg}
use Rattle.sw_message.specs.declared.message.Msg.TheVariants as message
use Rattle.sw_message.specs.declared.reply.Reply.{Reply}
use Rattle.sw_message.specs.declared.reply.Reply.TheVariants.{PartList, PlaceList, SuffixList}

-- the partitions of places whose folders have a file, ascending
pub record AreParts (power : ℕ) (HasAFile : List ℕ → Type 0) (parts : List ℕ) : Type 0 where
  pub all : (part : ℕ) → Contains parts part ↔ ((place : PlaceModel) × IsPlace power place × HasAFile (folder_of place) × (place.part ≡ part))
  pub ascend : AllPairs (λ a b. a < b) parts

-- the places of a partition whose folders have a file, ascending by hash
pub record ArePlaces (power part : ℕ) (HasAFile : List ℕ → Type 0) (places : List PlaceModel) : Type 0 where
  pub all : (place : PlaceModel) → Contains places place ↔ (IsPlace power place × HasAFile (folder_of place) × (place.part ≡ part))
  pub ascend : AllPairs (λ a b. slice_cmp nat_cmp a.hash b.hash ≡ Less) places

-- the answers, by which folders have a file, and by the floors that there are
abbrev pub IsSurveyed : ℕ → (List ℕ → Type 0) → (List (PlaceModel × Floor) → Type 0) → Msg → Reply → Type 0
IsSurveyed power HasAFile AreFloors message.Parts reply = (parts : List ℕ) × AreParts power HasAFile parts × (reply ≡ PartList parts)
IsSurveyed power HasAFile AreFloors (message.Suffixes part) reply =
    (floors : List (PlaceModel × Floor)) × AreFloors floors × (hashes : List Hashed) × AreHashes part floors hashes × (reply ≡ SuffixList hashes)
IsSurveyed power HasAFile AreFloors (message.Places part) reply = (places : List PlaceModel) × ArePlaces power part HasAFile places × (reply ≡ PlaceList places)
IsSurveyed power HasAFile AreFloors (message.PutFrag place stamp index bytes) reply = ⊥
IsSurveyed power HasAFile AreFloors (message.Commit place stamp index) reply = ⊥
IsSurveyed power HasAFile AreFloors (message.Delete place stamp) reply = ⊥
IsSurveyed power HasAFile AreFloors (message.Ask place) reply = ⊥
IsSurveyed power HasAFile AreFloors (message.Fetch place stamp index) reply = ⊥
IsSurveyed power HasAFile AreFloors (message.Remove place stamp index) reply = ⊥

-- the device calls: the floors are known without one
abbrev pub survey_calls : Msg → List Call
survey_calls (message.Suffixes part) = []
survey_calls message = ListFolders ∷ []
