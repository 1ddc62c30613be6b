-- How a message is handled: the device calls that were done, by the table, and what a refusal or a crash leaves.
use Rattle.std.specs.Prelude.{◌≡◌, ◌⊎◌, ◌↔◌, ℕ, ◌≤◌, List, [], ◌∷◌, Contains, take, Option, Some, None, Result, Ok, Err, ⊤, Bool}
use Rattle.std.specs.List.{All, AllPairs}
use Rattle.sw_types.specs.Stamp.{greatest_stamp}
use Rattle.sw_disk.specs.Calls.{Call, ListNames, ReadFile}
use Rattle.sw_disk.specs.Folder.{File, files_of}
use Rattle.sw_disk.specs.Answers.{IsBusy}
use Rattle.sw_disk.specs.Runs.{IfTold, Past, Runs, Seen}
use Rattle.sw_disk.specs.State.{State, free_of}
use Rattle.sw_disk.specs.declared.refusal.DiskRefusal.{DiskRefusal}
use Rattle.sw_disk.specs.declared.refusal.DiskRefusal.TheVariants as refusal
use Rattle.sw_hashpath.specs.FileName.{file_name_text}
use Rattle.sw_hashpath.specs.declared.file_name.FileName.{FileName}
use Rattle.sw_hashpath.specs.declared.file_name.FileName.TheVariants.{Data}
use Rattle.sw_hashpath.specs.Place.{IsPlace, PlaceModel, folder_of}
use Rattle.sw_hashdir.specs.Directory.{HasEntryAt}
use Rattle.sw_hashdir.specs.declared.floor.Floor.{Floor}
use Rattle.sw_suffix.specs.Table.{IsBefore}
use Rattle.sw_diskfile.specs.Names.{IsDirectoryOf, RunsUnlessMemory}
use Rattle.sw_diskfile.specs.Normal.{IsNormalForm}
use Rattle.sw_ring.specs.Cluster.{ClusterModel}
use Rattle.sw_message.specs.Message.{is_primary, place_in}
use Rattle.sw_message.specs.Step.{Folders, IsFound, IsNodeStep}
use Rattle.sw_message.specs.Survey.{IsSurveyed, survey_calls}
use Rattle.sw_message.specs.Table.{Found, Handling, IsHandled}
use Rattle.sw_message.specs.declared.message.Msg.{Msg}
use Rattle.sw_message.specs.declared.message.Msg.TheVariants as message
use Rattle.sw_message.specs.declared.reply.Reply.{Reply}
use Rattle.sw_message.specs.declared.reply.Reply.TheVariants.{DiskFault, NoMemory, NoSpace}

-- the reply to a message whose handling was refused
abbrev pub refused_reply : DiskRefusal → Reply
refused_reply refusal.Failed = DiskFault
refused_reply (refusal.Full need free) = NoSpace need free
refused_reply refusal.NoMemory = NoMemory

abbrev pub reply_of : Result Reply DiskRefusal → Reply
reply_of (Ok reply) = reply
reply_of (Err reason) = refused_reply reason

-- an answer of the table that is no refusal of the disk's
abbrev pub IsAnswer : Reply → Type 0
IsAnswer DiskFault = ⊥
IsAnswer NoMemory = ⊥
IsAnswer (NoSpace need free) = ⊥
IsAnswer other = ⊤

-- the stamp of a tombstone is one that there is
abbrev pub IsStamped : Msg → Type 0
IsStamped (message.Delete place stamp) = stamp ≤ greatest_stamp
IsStamped other = ⊤

-- ---- device calls

-- The calls of a handling run. A failure stops them, the first of them behind the look where the bytes would not fit. A full disk, with
-- the reply of the table, and want of memory, where the table's reply is another one than a full disk, do so at the look or at the call
-- behind it, before any that changes something is done.
abbrev pub RunsHandling : {D : Type 0} → (D → Seen) → (D → Past) → Handling → Result Reply DiskRefusal → D → D → Type 0
RunsHandling seen left_since handling (Ok reply) old new = IsAnswer reply × (handling.reply ≡ reply) × Runs seen left_since handling.calls None old new
RunsHandling seen left_since handling (Err refusal.Failed) old new =
    Runs seen left_since handling.calls (Some refusal.Failed) old new × (IsAnswer handling.reply ⊎ Runs seen left_since (take 2 handling.calls) (Some refusal.Failed) old new)
RunsHandling seen left_since handling (Err (refusal.Full need free)) old new =
    (handling.reply ≡ NoSpace need free) × Runs seen left_since (take 2 handling.calls) (Some (refusal.Full need free)) old new
RunsHandling seen left_since handling (Err refusal.NoMemory) old new =
    IsAnswer handling.reply × Runs seen left_since (take 2 handling.calls) (Some refusal.NoMemory) old new

-- the last of these calls was refused, or memory was wanted before or behind it
abbrev pub StopsAt : {D : Type 0} → (D → Seen) → (D → Past) → List Call → Result Reply DiskRefusal → D → D → Type 0
StopsAt seen left_since calls (Ok reply) old new = ⊥
StopsAt seen left_since calls (Err refusal.Failed) old new = Runs seen left_since calls (Some refusal.Failed) old new
StopsAt seen left_since calls (Err (refusal.Full need free)) old new = ⊥
StopsAt seen left_since calls (Err refusal.NoMemory) old new = RunsUnlessMemory seen left_since calls (Some refusal.NoMemory) old new

-- the first call was
abbrev pub StopsEarly : {D : Type 0} → (D → Seen) → (D → Past) → Call → Result Reply DiskRefusal → D → D → Type 0
StopsEarly seen left_since first result old new = StopsAt seen left_since (first ∷ []) result old new

-- an entry that was found was to be read, whatever its bytes are
abbrev pub StopsReading : {D : Type 0} → (D → Seen) → (D → Past) → Msg → Result Reply DiskRefusal → D → D → Type 0
StopsReading seen left_since (message.Fetch place stamp index) result old new =
    (names : List FileName) × IfTold (seen old).told (λ state. IsDirectoryOf (state.folder (folder_of place)) names) × (durable : Bool) × HasEntryAt names stamp index durable
    × StopsAt seen left_since (ListNames (folder_of place) ∷ ReadFile (folder_of place) (file_name_text (Data stamp index durable)) ∷ []) result old new
StopsReading seen left_since other result old new = ⊥

-- the folder was looked at, where it tells with what it holds, and a row of the table was done
pub record Follows {D : Type 0} (seen : D → Seen) (left_since : D → Past) (folder : List ℕ) (Row : Found → Handling → Type 0) (result : Result Reply DiskRefusal) (old new : D) : Type 0 where
  pub found : Found
  pub is_found : IfTold (seen old).told (λ state. IsFound (files_of (state.folder folder)) (free_of state) found)
  pub handling : Handling
  pub row : Row found handling
  pub runs : RunsHandling seen left_since handling result old new

-- a message about a place is handled by its rows of the table
abbrev pub Handles : {D : Type 0} → (D → Seen) → (D → Past) → List ℕ → (Found → Handling → Type 0) → Result Reply DiskRefusal → D → D → Type 0
Handles seen left_since folder Row result old new = StopsEarly seen left_since (ListNames folder) result old new ⊎ Follows seen left_since folder Row result old new

-- the folders that the disk listed, where the message asks for them
abbrev pub AreListed : Msg → List (List ℕ) → State → Type 0
AreListed (message.Suffixes part) listed state = ⊤
AreListed message listed state = (folder : List ℕ) → Contains listed folder ↔ IsBusy (state.folder folder)

-- these are the floors that are kept, each that of a place, in their order
abbrev pub AreKept : ℕ → (floors others : List (PlaceModel × Floor)) → Type 0
AreKept power floors others = (others ≡ floors) × AllPairs IsBefore others × All (λ floor. IsPlace power floor.0) others

-- any other message is answered by the folders that the disk listed, or by the floors that are kept
pub record Surveys {D : Type 0} (seen : D → Seen) (left_since : D → Past) (power : ℕ) (floors : List (PlaceModel × Floor)) (message : Msg) (reply : Reply) (old new : D) : Type 0 where
  pub listed : List (List ℕ)
  pub are_listed : IfTold (seen old).told (AreListed message listed)
  pub surveyed : IsSurveyed power (Contains listed) (AreKept power floors) message reply
  pub runs : Runs seen left_since (survey_calls message) None old new

-- these calls were stopped; where there are none memory was wanted, and the disk is the same
abbrev pub StopsSurvey : {D : Type 0} → (D → Seen) → (D → Past) → List Call → DiskRefusal → D → D → Type 0
StopsSurvey seen left_since [] reason old new = (reason ≡ refusal.NoMemory) × (new ≡ old)
StopsSurvey seen left_since (call ∷ calls) reason old new = StopsAt seen left_since (call ∷ calls) (Err reason) old new

abbrev pub HandlesSurvey : {D : Type 0} → (D → Seen) → (D → Past) → ℕ → List (PlaceModel × Floor) → Msg → Result Reply DiskRefusal → D → D → Type 0
HandlesSurvey seen left_since power floors message (Ok reply) old new = Surveys seen left_since power floors message reply old new
HandlesSurvey seen left_since power floors message (Err reason) old new = StopsSurvey seen left_since (survey_calls message) reason old new

abbrev pub HandlesAt : {D : Type 0} → (D → Seen) → (D → Past) → ClusterModel → ℕ → List (PlaceModel × Floor) → Msg → Option PlaceModel → Result Reply DiskRefusal → D → D → Type 0
HandlesAt seen left_since cluster device floors message None result old new = HandlesSurvey seen left_since cluster.part_power floors message result old new
HandlesAt seen left_since cluster device floors message (Some place) result old new =
    Handles seen left_since (folder_of place) (λ found. IsHandled cluster device found message) result old new ⊎ StopsReading seen left_since message result old new

-- how a disk's node handles a message
abbrev pub IsAnswered : {D : Type 0} → (D → Seen) → (D → Past) → ClusterModel → ℕ → List (PlaceModel × Floor) → Msg → Result Reply DiskRefusal → D → D → Type 0
IsAnswered seen left_since cluster device floors message result old new = HandlesAt seen left_since cluster device floors message (place_in message) result old new

-- ---- what is left

-- the files in all folders of a disk
abbrev pub folders_of : State → Folders
folders_of state name = files_of (state.folder name)

-- Brought to normal form, these files are those of the folder before the step, or after it; and each of them is a file of the folder
-- before, or of what a step of this message leaves there.
pub record IsBeforeOrAfter (cluster : ClusterModel) (device room : ℕ) (message : Msg) (place : PlaceModel) (before : Folders) (files : List File) : Type 0 where
  pub normal : IsNormalForm (is_primary cluster device place) files (before (folder_of place))
      ⊎ ((after : Folders) × (reply : Reply) × IsNodeStep cluster device room message before after reply × IsNormalForm (is_primary cluster device place) files (after (folder_of place)))
  pub each : (file : File) → Contains files file → Contains (before (folder_of place)) file
      ⊎ ((after : Folders) × (reply : Reply) × IsNodeStep cluster device room message before after reply × Contains (after (folder_of place)) file)
