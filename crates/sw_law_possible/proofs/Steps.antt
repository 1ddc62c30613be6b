-- Each message that may be sent has an answer: some step of a device that handles it.
use Rattle.std.proofs.Common.{ℕ, Bool, List, cond, refl}
use Rattle.std.proofs.lemmas.Bool.{cond-false, cond-true}
use Rattle.sw_disk.specs.Folder.{File, all_changed, same_name}
use Rattle.sw_disk.proofs.Images.{same_name-refl}
use Rattle.sw_hashpath.specs.Place.{IsPlace, PlaceModel, folder_of}
use Rattle.sw_hashpath.specs.declared.file_name.FileName.TheVariants.{Data}
use Rattle.sw_hashdir.specs.Directory.{HasEntryAt}
use Rattle.sw_diskfile.proofs.Directories.{other_name}
use Rattle.sw_ring.specs.Cluster.{ClusterModel}
use Rattle.sw_message.specs.Learnt.{IsSoundBook, Learnt}
use Rattle.sw_message.specs.Message.{is_primary}
use Rattle.sw_message.specs.Spoil.{IsArchiveOf}
use Rattle.sw_message.specs.Step.{Folders, IsNodeStep, IsPlaceStep}
use Rattle.sw_message.specs.Table.{Handling, IsHandled}
use Rattle.sw_message.specs.declared.message.Msg.{Msg}
use Rattle.sw_message.specs.declared.message.Msg.TheVariants as message
use Rattle.sw_message.specs.declared.reply.Reply.{Reply}
use Rattle.sw_message.specs.declared.reply.Reply.TheVariants as reply
use Rattle.sw_law_scene.specs.Devices.{IsDeviceStep, capacity_of}
use Rattle.sw_law_scene.specs.Disks.{AreOfPlaces}
use Rattle.sw_law_scene.specs.Filed.{FoldersFiled}
use Rattle.sw_law_scene.specs.Sound.{MayBeSent}
use Rattle.sw_law_scene.proofs.Genuine.{read_of_put}
use Rattle.sw_law_possible.proofs.Disks.{free_of}
use Rattle.sw_law_possible.proofs.Rows.{archive_of, ask_row, commit_row, delete_row, fetch_row, found_in, put_row, remove_row}
use Rattle.sw_law_possible.proofs.Surveys.{floors_are, hashes_are, parts_are, places_are}

module _ (cluster : ClusterModel) (device room : ℕ) (before : Folders) where
  -- the folder of a place with other files
  abbrev with_folder : List ℕ → List File → Folders
  with_folder folder files name = cond (same_name name folder) files (before name)

  -- a message has a step
  abbrev HasStep : Msg → Type 0
  HasStep msg = (answer : Reply) × (after : Folders) × IsNodeStep cluster device room msg before after answer

  module _ (place : PlaceModel) where
    -- its row changes the folder of its place
    by_row : (msg : Msg) (handling : Handling) → IsHandled cluster device (found_in (before (folder_of place)) room).0 msg handling
        → IsPlaceStep cluster device room msg place before (with_folder (folder_of place) (all_changed handling.changes (before (folder_of place)))) handling.reply
    by_row msg handling handled =
        let folder = folder_of place in
        let files = all_changed handling.changes (before folder) in
        record {
          found = (found_in (before folder) room).0;
          is_found = (found_in (before folder) room).1;
          handling = handling;
          handled = handled;
          replied = refl;
          changed = record {
            changed = cond-true (same_name folder folder) files (before folder) (same_name-refl folder);
            others = λ other apart. cond-false (same_name other folder) files (before other) (other_name other folder apart);
          };
        }

  module _ (learnt : Learnt) (sound : IsSoundBook cluster.policy learnt.book) (filed : FoldersFiled cluster learnt.book before) where
    -- what is read of an entry is its archive
    read : (place : PlaceModel) → IsPlace cluster.part_power place → (stamp index : ℕ) (durable : Bool) → HasEntryAt (found_in (before (folder_of place)) room).0.names stamp index durable
        → IsArchiveOf cluster place stamp index ((found_in (before (folder_of place)) room).0.bytes (Data stamp index durable))
    read place right stamp index durable has =
        let found = found_in (before (folder_of place)) room in
        archive_of cluster learnt.book sound place stamp index (found.0.bytes (Data stamp index durable))
        (read_of_put cluster learnt sound place (before (folder_of place)) (filed place right) room found.0 found.1 stamp index durable has)

    -- each message that may be sent has one
    pub has_step : (msg : Msg) → MayBeSent cluster learnt msg → HasStep msg
    has_step (message.PutFrag place stamp index bytes) may =
        let row = put_row cluster place (found_in (before (folder_of place)) room).0 stamp index bytes (archive_of cluster learnt.book sound place stamp index bytes may.1) in
        (row.0.reply, _, by_row place (message.PutFrag place stamp index bytes) row.0 row.1)
    has_step (message.Commit place stamp index) may =
        let row = commit_row cluster place (found_in (before (folder_of place)) room).0 (is_primary cluster device place) stamp index in
        (row.0.reply, _, by_row place (message.Commit place stamp index) row.0 row.1)
    has_step (message.Delete place stamp) may =
        let row = delete_row cluster place (found_in (before (folder_of place)) room).0 (is_primary cluster device place) stamp in
        (row.0.reply, _, by_row place (message.Delete place stamp) row.0 row.1)
    has_step (message.Ask place) may =
        let row = ask_row cluster place (found_in (before (folder_of place)) room).0 in
        (row.0.reply, _, by_row place (message.Ask place) row.0 row.1)
    has_step (message.Fetch place stamp index) may =
        let row = fetch_row cluster place (found_in (before (folder_of place)) room).0 stamp index (read place may.0 stamp index) in
        (row.0.reply, _, by_row place (message.Fetch place stamp index) row.0 row.1)
    has_step (message.Remove place stamp index) may =
        let row = remove_row cluster place (found_in (before (folder_of place)) room).0 (is_primary cluster device place) stamp index in
        (row.0.reply, _, by_row place (message.Remove place stamp index) row.0 row.1)
    has_step message.Parts may =
        let parts = parts_are cluster.part_power before in (reply.PartList parts.0, before, record { surveyed = (parts.0, parts.1, refl); same = λ name. refl })
    has_step (message.Suffixes part) may =
        let floors = floors_are cluster.part_power before in
        let hashes = hashes_are part floors.0 in
        (reply.SuffixList hashes.0, before, record { surveyed = (floors.0, floors.1, hashes.0, hashes.1, refl); same = λ name. refl })
    has_step (message.Places part) may =
        let places = places_are cluster.part_power before part in (reply.PlaceList places.0, before, record { surveyed = (places.0, places.1, refl); same = λ name. refl })

-- with the room that the device's capacity leaves
pub device_step : (cluster : ClusterModel) (learnt : Learnt) (device : ℕ) (msg : Msg) (before : Folders) → IsSoundBook cluster.policy learnt.book → FoldersFiled cluster learnt.book before → AreOfPlaces cluster before → MayBeSent cluster learnt msg
    → (answer : Reply) × (after : Folders) × IsDeviceStep cluster device msg answer before after
device_step cluster learnt device msg before sound filed of_places may =
    let free = free_of cluster (capacity_of cluster device) before of_places in
    let step = has_step cluster device free.0 before learnt sound filed msg may in
    (step.0, step.1, record { room = free.0; free = free.1; step = step.2 })
