-- The step of a node: its device's folders after a message, and its reply.
use Rattle.std.specs.Prelude.{◌≡◌, ◌≢◌, ◌↔◌, ℕ, List, [], Contains, Option, Some, None}
use Rattle.std.specs.List.{AllPairs}
use Rattle.sw_disk.specs.Answers.{names_of}
use Rattle.sw_disk.specs.Folder.{Content, Change, File, all_changed, content_at}
use Rattle.sw_hashpath.specs.FileName.{file_name_text}
use Rattle.sw_hashpath.specs.Place.{IsPlace, PlaceModel, folder_of}
use Rattle.sw_hashpath.specs.declared.file_name.FileName.{FileName}
use Rattle.sw_hashdir.specs.Directory.{IsDirectory, IsFloor}
use Rattle.sw_hashdir.specs.declared.floor.Floor.{Floor}
use Rattle.sw_suffix.specs.Table.{IsBefore}
use Rattle.sw_ring.specs.Cluster.{ClusterModel}
use Rattle.sw_message.specs.Message.{place_in}
use Rattle.sw_message.specs.Survey.{IsSurveyed}
use Rattle.sw_message.specs.Table.{Found, Handling, IsHandled}
use Rattle.sw_message.specs.declared.message.Msg.{Msg}
use Rattle.sw_message.specs.declared.reply.Reply.{Reply}

-- the files in a device's folders, by the folder's name
abbrev pub Folders : Type 0
Folders = List ℕ → List File

-- what is found in a folder with these files
pub record IsFound (files : List File) (room : ℕ) (found : Found) : Type 0 where
  pub directory : IsDirectory (names_of files) found.names
  pub bytes : (name : FileName) (content : Content) → content_at (file_name_text name) files ≡ Some content → found.bytes name ≡ content.bytes
  pub room_is : found.room ≡ room

-- these changes were made in one folder, and the others are as they were
pub record AreChanged (name : List ℕ) (changes : List Change) (before after : Folders) : Type 0 where
  pub changed : after name ≡ all_changed changes (before name)
  pub others : (other : List ℕ) → other ≢ name → after other ≡ before other

-- the floors of all places that have one, in the order of their suffixes
pub record AreFloors (power : ℕ) (folders : Folders) (floors : List (PlaceModel × Floor)) : Type 0 where
  pub all : (place : PlaceModel) (floor : Floor) → Contains floors (place, floor) ↔ (IsPlace power place
      × (names : List FileName) × IsDirectory (names_of (folders (folder_of place))) names × IsFloor names (Some floor))
  pub ordered : AllPairs IsBefore floors

-- a message about a place changes its folder, by the table
pub record IsPlaceStep (cluster : ClusterModel) (device room : ℕ) (message : Msg) (place : PlaceModel) (before after : Folders) (reply : Reply) : Type 0 where
  pub found : Found
  pub is_found : IsFound (before (folder_of place)) room found
  pub handling : Handling
  pub handled : IsHandled cluster device found message handling
  pub replied : reply ≡ handling.reply
  pub changed : AreChanged (folder_of place) handling.changes before after

-- any other message changes none
pub record IsSurveyStep (cluster : ClusterModel) (message : Msg) (before after : Folders) (reply : Reply) : Type 0 where
  pub surveyed : IsSurveyed cluster.part_power (λ folder. before folder ≢ []) (AreFloors cluster.part_power before) message reply
  pub same : (name : List ℕ) → after name ≡ before name

abbrev pub IsStepAt : ClusterModel → (device room : ℕ) → Msg → Option PlaceModel → (before after : Folders) → Reply → Type 0
IsStepAt cluster device room message None before after reply = IsSurveyStep cluster message before after reply
IsStepAt cluster device room message (Some place) before after reply = IsPlaceStep cluster device room message place before after reply

-- the step of a device of the cluster, on whose disk so many bytes are free
abbrev pub IsNodeStep : ClusterModel → (device room : ℕ) → Msg → (before after : Folders) → Reply → Type 0
IsNodeStep cluster device room message before after reply = IsStepAt cluster device room message (place_in message) before after reply
