-- A device that has no file stores a fragment.
use Rattle.std.proofs.Common.{ℕ, ◌≤◌, true, cond, List, [], ◌∷◌, length, refl, ap, arith}
use Rattle.std.proofs.lemmas.Option.{none-some}
use Rattle.sw_disk.specs.Folder.{File, same_name}
use Rattle.sw_disk.proofs.Images.{same_name-refl}
use Rattle.sw_hashpath.specs.Place.{PlaceModel, folder_of}
use Rattle.sw_hashdir.specs.Directory.{HasFloorAt}
use Rattle.sw_hashdir.specs.declared.floor.FloorKind.{FloorKind}
use Rattle.sw_hashdir.specs.declared.floor.FloorKind.TheVariants.{Durable, Tombstone}
use Rattle.sw_diskfile.specs.Calls.{store_calls}
use Rattle.sw_diskfile.specs.Changes.{new_file}
use Rattle.sw_diskfile.proofs.Directories.{other_name}
use Rattle.sw_diskfile.proofs.Lists.{Contains-none}
use Rattle.sw_ring.specs.Cluster.{ClusterModel}
use Rattle.sw_message.specs.Spoil.{IsArchiveOf}
use Rattle.sw_message.specs.Step.{Folders}
use Rattle.sw_message.specs.Table.{Found, PutFragStored, answers_after, plain_text}
use Rattle.sw_message.specs.declared.message.Msg.TheVariants as message
use Rattle.sw_message.specs.declared.reply.Reply.TheVariants as reply
use Rattle.sw_law_scene.specs.Devices.{IsDeviceStep, IsFree, capacity_of, no_folders}

-- one folder has one file, and no other folder has any
abbrev pub only_file : (folder : List ℕ) → File → Folders
only_file folder file other = cond (same_name other folder) (file ∷ []) []

-- where there is no name there is no floor
no_floor_at : (stamp : ℕ) (kind : FloorKind) → HasFloorAt [] stamp kind → ⊥
no_floor_at stamp Durable has = Contains-none _ has.1
no_floor_at stamp Tombstone has = Contains-none _ has

-- the capacity is free
pub all_free : (capacity : ℕ) → IsFree capacity no_folders capacity
all_free capacity = record { names = []; distinct = λ i j d less within. absurd (omega (arith, within)); others = λ name none. refl; room_is = omega arith }

module _ (cluster : ClusterModel) (device : ℕ) (place : PlaceModel) (stamp index : ℕ) (bytes : List ℕ) where
  -- what is on the device then
  abbrev pub stored_file : File
  stored_file = record { name = plain_text stamp index; content = record { bytes = bytes; synced = true } }

  abbrev pub stored_folders : Folders
  stored_folders = only_file (folder_of place) stored_file

  abbrev nothing_found : Found
  nothing_found = record { names = []; bytes = λ name. []; room = capacity_of cluster device }

  -- it stores an archive for which it has room
  pub stores_it : IsArchiveOf cluster place stamp index bytes → length bytes ≤ capacity_of cluster device
      → IsDeviceStep cluster device (message.PutFrag place stamp index bytes) reply.Synced no_folders stored_folders
  stores_it archive fits = record {
    room = capacity_of cluster device;
    free = all_free (capacity_of cluster device);
    step = record {
      found = nothing_found;
      is_found = record {
        directory = λ name. ((λ has. absurd (Contains-none name has)), (λ has. absurd (Contains-none _ has.1)));
        bytes = λ name content is. absurd (none-some content is);
        room_is = refl;
      };
      handling = answers_after (folder_of place) (store_calls (folder_of place) (plain_text stamp index) bytes) (new_file (plain_text stamp index) bytes ∷ []) reply.Synced;
      handled = PutFragStored archive (λ floor covered. no_floor_at floor.stamp floor.kind covered.0.0) (λ durable has. Contains-none _ has) fits refl;
      replied = refl;
      changed = record {
        changed = ap (λ is_same. cond is_same (stored_file ∷ []) []) (same_name-refl (folder_of place));
        others = λ other apart. ap (λ is_same. cond is_same (stored_file ∷ []) []) (other_name other (folder_of place) apart);
      };
    };
  }
