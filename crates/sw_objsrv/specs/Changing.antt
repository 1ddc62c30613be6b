-- What is done behind the look at a folder, by its row of the table.
use Rattle.std.specs.Prelude.{◌≡◌, ◌≢◌, ◌⊎◌, ℕ, ◌≤◌, Bool, true, false, List, [], ◌++◌, Contains, length, take, Option, Some, None, Result, Ok, Err, String, string_bytes}
use Rattle.std.specs.List.{All}
use Rattle.std.specs.declared.alloc.Global.{Global}
use Rattle.sw_disk.specs.Answers.{texts_of}
use Rattle.sw_disk.specs.Calls.{Call}
use Rattle.sw_disk.specs.Folder.{Change}
use Rattle.sw_disk.specs.Runs.{IfTold, IsUntouched, Past, Runs, Seen, refusal_of}
use Rattle.sw_disk.specs.declared.refusal.DiskRefusal.{DiskRefusal}
use Rattle.sw_disk.specs.declared.refusal.DiskRefusal.TheVariants.{Failed, Full, NoMemory}
use Rattle.sw_disk.specs.State.{State}
use Rattle.sw_hashpath.specs.FileName.{file_name_text}
use Rattle.sw_hashpath.specs.Place.{PlaceModel}
use Rattle.sw_hashpath.specs.declared.file_name.FileName.{FileName}
use Rattle.sw_hashpath.specs.declared.file_name.FileName.TheVariants.{Data, Tombstone}
use Rattle.sw_hashdir.specs.Directory.{HasEntryAt, IsFloor}
use Rattle.sw_hashdir.specs.Obsolete.{IsObsolete}
use Rattle.sw_hashdir.specs.declared.entry.Entry.{Entry}
use Rattle.sw_hashdir.specs.declared.floor.Floor.{Floor}
use Rattle.sw_suffix.specs.Table.{floor_at}
use Rattle.sw_diskfile.specs.Calls.{commit_calls, drop_calls, purge_calls, store_calls}
use Rattle.sw_message.specs.Table.{ArePurged, Found, Handling, answers, answers_after, durable_text, plain_text, tombstone_text}
use Rattle.sw_message.specs.declared.reply.Reply.{Reply}
use Rattle.sw_objsrv.specs.Folder.{IsInOrder}
use Rattle.sw_objsrv.specs.Handling.{IsAnswer}
use Rattle.sw_objsrv.specs.declared.floor_change.FloorChange.{FloorChange}

-- ---- the floor of a table

-- a place gets this floor without memory
abbrev pub TakesNoMemory : PlaceModel → Option Floor → List (PlaceModel × Floor) → Type 0
TakesNoMemory place floor floors = (floor ≡ None) ⊎ (floor_at place floors ≢ None)

-- and so it does both the one before a change and the one after
abbrev pub IsReserved : PlaceModel → FloorChange → List (PlaceModel × Floor) → Type 0
IsReserved place change floors = TakesNoMemory place change.before floors × TakesNoMemory place change.after floors

-- ---- making a file

-- the name may be made: a durable one where only its plain one is there, or a tombstone that is not there
abbrev pub IsNew : List FileName → FileName → Type 0
IsNew names (Data stamp index true) = HasEntryAt names stamp index false
IsNew names (Data stamp index false) = ⊥
IsNew names (Tombstone stamp) = Contains names (Tombstone stamp) → ⊥

abbrev pub make_calls : List ℕ → FileName → List Call
make_calls folder (Data stamp index durable) = commit_calls folder (plain_text stamp index) (durable_text stamp index)
make_calls folder (Tombstone stamp) = store_calls folder (tombstone_text stamp) []

-- the floor once a file of this name was made, and the texts of what is obsolete then
pub record IsPlanned (is_primary : Bool) (made : FileName) (names : List FileName) (floor : Option Floor) (obsolete : List (String Global)) : Type 0 where
  pub purged : ArePurged is_primary made names (texts_of obsolete)
  pub floor_is : IsFloor purged.later floor
  pub short : All (λ text. length (string_bytes text) ≤ 96) obsolete

-- if memory is wanted, that is before the first of these calls is done
abbrev pub WantsMemoryFirst : {D : Type 0} → (D → Seen) → (D → Past) → List Call → Option DiskRefusal → D → D → Type 0
WantsMemoryFirst seen left_since calls refusal old new = refusal ≡ Some NoMemory → Runs seen left_since (take 1 calls) (Some NoMemory) old new

-- memory was wanted before the first call, or a file is made and what that makes obsolete is removed
abbrev pub MakesAndPurges : {D : Type 0} → (D → Seen) → (D → Past) → List ℕ → Bool → FileName → List FileName → Option DiskRefusal → D → D → Type 0
MakesAndPurges seen left_since folder is_primary made names refusal old new =
    ((refusal ≡ Some NoMemory) × IsUntouched seen left_since old new)
    ⊎ ((obsolete : List (List ℕ)) × ArePurged is_primary made names obsolete × Runs seen left_since (make_calls folder made ++ purge_calls folder obsolete) refusal old new
    × WantsMemoryFirst seen left_since (make_calls folder made) refusal old new)

-- ---- removing a file

-- memory was wanted before the first call, or the file of an entry is removed
abbrev pub Drops : {D : Type 0} → (D → Seen) → (D → Past) → List ℕ → Entry → Option DiskRefusal → D → D → Type 0
Drops seen left_since folder entry refusal old new =
    ((refusal ≡ Some NoMemory) × IsUntouched seen left_since old new)
    ⊎ (Runs seen left_since (drop_calls folder (file_name_text (Data entry.stamp entry.index entry.durable))) refusal old new
    × WantsMemoryFirst seen left_since (drop_calls folder (file_name_text (Data entry.stamp entry.index entry.durable))) refusal old new)

-- a folder with these names that is in order at a handoff stays so, and has this floor then
abbrev pub LeavesOrder : List ℕ → List FileName → Option Floor → (old new : Option State) → Type 0
LeavesOrder folder names floor old new =
    IfTold old (λ before. (name : FileName) → IsObsolete false names name → ⊥) → IfTold new (λ after. IsInOrder false floor (after.folder folder))

-- ---- rows

-- it is answered with no call behind the look at a folder with these names
abbrev pub IsAtOnce : List ℕ → (Found → Handling → Type 0) → List FileName → Reply → Type 0
IsAtOnce folder Row names reply = IsAnswer reply × ((bytes : FileName → List ℕ) (room : ℕ) → Row (record { names = names; bytes = bytes; room = room }) (answers folder reply))

abbrev pub RunsAfterLook : {D : Type 0} → (D → Seen) → (D → Past) → Reply → List Call → Result Reply DiskRefusal → D → D → Type 0
RunsAfterLook seen left_since reply calls (Ok given) old new = IsAnswer given × (reply ≡ given) × Runs seen left_since calls None old new
RunsAfterLook seen left_since reply calls (Err (Full need free)) old new = ⊥
RunsAfterLook seen left_since reply calls (Err Failed) old new = IsAnswer reply × Runs seen left_since calls (Some Failed) old new
RunsAfterLook seen left_since reply calls (Err NoMemory) old new = IsAnswer reply × Runs seen left_since (take 1 calls) (Some NoMemory) old new

-- of a folder with these names
pub record FollowsLook {D : Type 0} (seen : D → Seen) (left_since : D → Past) (folder : List ℕ) (Row : Found → Handling → Type 0) (names : List FileName) (result : Result Reply DiskRefusal) (old new : D) : Type 0 where
  pub reply : Reply
  pub calls : List Call
  pub changes : List Change
  pub row : (bytes : FileName → List ℕ) (room : ℕ) → Row (record { names = names; bytes = bytes; room = room }) (answers_after folder calls changes reply)
  pub runs : RunsAfterLook seen left_since reply calls result old new

-- memory was wanted before the next call, or a row of the table is done whose refusals are not of a full disk
abbrev pub HandlesAfterLook : {D : Type 0} → (D → Seen) → (D → Past) → List ℕ → (Found → Handling → Type 0) → List FileName → Result Reply DiskRefusal → D → D → Type 0
HandlesAfterLook seen left_since folder Row names result old new =
    ((refusal_of result ≡ Some NoMemory) × IsUntouched seen left_since old new) ⊎ FollowsLook seen left_since folder Row names result old new
