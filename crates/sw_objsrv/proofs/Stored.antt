-- An archive that is stored where it is not there and no floor stands above it.
use Rattle.std.proofs.Common.{◌≡◌, ◌≢◌, ◌⊎◌, ⊎_elim, inl, inr, ℕ, ◌<◌, ◌≤◌, Bool, false, List, [], ◌∷◌, length, Option, None, Some, Ok, Err, refl, sym, ap, ◌∙◌, arith}
use Rattle.std.proofs.lemmas.Bool.{cases_lt}
use Rattle.sw_disk.specs.Answers.{IsFull, names_of}
use Rattle.sw_disk.specs.Calls.{Call, ListNames, WriteTmp}
use Rattle.sw_disk.specs.Folder.{Folder, files_of}
use Rattle.sw_disk.specs.Runs.{IfTold, IsTelling, IsUntouched, Past, Runs, Seen}
use Rattle.sw_disk.specs.State.{State, free_of}
use Rattle.sw_disk.specs.declared.refusal.DiskRefusal.{DiskRefusal}
use Rattle.sw_disk.specs.declared.refusal.DiskRefusal.TheVariants.{Failed, Full, NoMemory}
use Rattle.sw_disk.proofs.Chains.{runs_more}
use Rattle.sw_hashpath.specs.Place.{PlaceModel, folder_of}
use Rattle.sw_hashpath.specs.declared.file_name.FileName.{FileName}
use Rattle.sw_hashpath.specs.declared.file_name.FileName.TheVariants.{Data}
use Rattle.sw_hashdir.specs.declared.floor.Floor.{Floor}
use Rattle.sw_diskfile.specs.Calls.{store_calls}
use Rattle.sw_diskfile.specs.Changes.{IfBothTold, IsMadeStable, new_file}
use Rattle.sw_diskfile.specs.Names.{IsDirectoryOf, MakesName, RunsUnlessMemory}
use Rattle.sw_diskfile.proofs.Obsoletes.{floor_same, obsolete_same, one_directory}
use Rattle.sw_diskfile.proofs.Tidied.{look_done}
use Rattle.sw_ring.specs.Cluster.{ClusterModel}
use Rattle.sw_message.specs.Spoil.{IsArchiveOf}
use Rattle.sw_message.specs.Table.{Found, HandlesPutFrag, Handling, IsUncovered, LacksEntry, PutFragFull, PutFragStored, answers_after, plain_text}
use Rattle.sw_message.specs.declared.reply.Reply.TheVariants.{NoSpace, Synced}
use Rattle.sw_objsrv.specs.Folder.{IsInOrder, StaysInOrder}
use Rattle.sw_objsrv.specs.Handling.{Follows, Handles}
use Rattle.sw_objsrv.proofs.AfterLook.{room_before, wants_memory}
use Rattle.sw_objsrv.proofs.Found.{found_in, is_found, room_at}
use Rattle.sw_objsrv.proofs.Room.{AreWithin}
use Rattle.sw_objsrv.proofs.RowForms.{stored_floor, stored_none, with_made}
use Rattle.sw_objsrv.proofs.Told.{both_told, told_after, told_both}

module _ (stamp index : ℕ) (names : List FileName) (uncovered : IsUncovered names stamp) (lacks : LacksEntry names stamp index) where
  -- the folder stays in order, with the same floor
  order_stored : (primary : Bool) (floor : Option Floor) (before after : Folder) → IsDirectoryOf before names → MakesName (Data stamp index false) before after → IsMadeStable before after → IsInOrder primary floor before → IsInOrder primary floor after
  order_stored primary floor before after directory makes stable order =
      let texts = names_of (files_of before) in
      let made = with_made stamp index names in
      let later = Data stamp index false ∷ names in
      record {
        nothing_pending = stable.0;
        names = later;
        directory = makes names later directory made;
        none_obsolete = stored_none stamp index names later made primary lacks uncovered
            (λ name obsolete. order.none_obsolete name (obsolete_same names order.names (one_directory texts names order.names directory order.directory) primary name obsolete));
        floor_is = stored_floor stamp index names later made floor (floor_same order.names names (one_directory texts order.names names order.directory directory) floor order.floor_is);
      }

  pub stays_stored : {D : Type 0} (seen : D → Seen) (tells : Bool) (folder : List ℕ) (a b : D) → IsTelling tells (seen a).told → IsTelling tells (seen b).told → IfTold (seen a).told (λ s. IsDirectoryOf (s.folder folder) names)
      → IfBothTold (seen a) (seen b) folder (MakesName (Data stamp index false)) → IfBothTold (seen a) (seen b) folder IsMadeStable → (primary : Bool) (floor : Option Floor) → StaysInOrder primary folder floor floor (seen a).told (seen b).told
  stays_stored seen tells folder a b tell_a tell_b directory makes stable primary floor order =
      let Has = λ (s : State). IsInOrder primary floor (s.folder folder) × IsDirectoryOf (s.folder folder) names in
      let Makes = λ (s t : State). MakesName (Data stamp index false) (s.folder folder) (t.folder folder) in
      let Stable = λ (s t : State). IsMadeStable (s.folder folder) (t.folder folder) in
      told_after tells (seen a).told (seen b).told tell_a tell_b (λ s t. Has s × Makes s t × Stable s t) (λ t. IsInOrder primary floor (t.folder folder))
      (both_told (seen a).told (seen b).told Has Makes Stable (told_both (seen a).told (λ s. IsInOrder primary floor (s.folder folder)) (λ s. IsDirectoryOf (s.folder folder) names) order directory) makes stable)
      (λ s t all. order_stored primary floor (s.folder folder) (t.folder folder) all.0.1 all.1 all.2 all.0.0)

  -- ---- the rows of the table

  module _ (cluster : ClusterModel) (place : PlaceModel) (bytes : List ℕ) (asked : IsArchiveOf cluster place stamp index bytes) where
    abbrev Row : Found → Handling → Type 0
    Row = HandlesPutFrag cluster place stamp index bytes

    abbrev stores : List Call
    stores = store_calls (folder_of place) (plain_text stamp index) bytes

    abbrev done : Handling
    done = answers_after (folder_of place) stores (new_file (plain_text stamp index) bytes ∷ []) Synced

    abbrev full : ℕ → Handling
    full room = answers_after (folder_of place) stores [] (NoSpace (length bytes) room)

    module _ {D : Type 0} (seen : D → Seen) (left_since : D → Past) (a b c : D) (directory : IfTold (seen a).told (λ s. IsDirectoryOf (s.folder (folder_of place)) names)) (within : IfTold (seen a).told AreWithin)
        (looked : RunsUnlessMemory seen left_since (ListNames (folder_of place) ∷ []) None a b) where
      look : Runs seen left_since (ListNames (folder_of place) ∷ []) None a b
      look = look_done seen left_since (folder_of place) a b looked

      more : (calls : List Call) (refusal : Option DiskRefusal) → Runs seen left_since calls refusal b c → Runs seen left_since (ListNames (folder_of place) ∷ calls) refusal a c
      more calls refusal run = runs_more seen left_since (ListNames (folder_of place) ∷ []) calls refusal a b c look run

      abbrev found : ℕ → Found
      found room = found_in (seen a).told (folder_of place) names [] room

      -- a fact of the room that was found, by what is told behind the look
      room_is : (P : ℕ → Type 0) (room : ℕ) → P room → IfTold (seen b).told (λ s. P (free_of s)) → P (found room).room
      room_is P room else told = room_at P (seen a).told room else (room_before seen left_since (folder_of place) a b look P within told)

      done_row : (room : ℕ) → length bytes ≤ (found room).room → Row (found room) done
      done_row room enough = PutFragStored asked uncovered lacks enough refl

      full_row : (room : ℕ) → (found room).room < length bytes → Row (found room) (full (found room).room)
      full_row room less = PutFragFull asked uncovered lacks less refl

      pub stored : IfTold (seen b).told (λ s. length bytes ≤ free_of s) → Runs seen left_since stores None b c → Follows seen left_since (folder_of place) Row (Ok Synced) a c
      stored fits run = record {
        found = found (length bytes);
        is_found = is_found (seen a).told (folder_of place) names [] (length bytes) directory;
        handling = done;
        row = done_row (length bytes) (room_is (λ room. length bytes ≤ room) (length bytes) (omega arith) fits);
        runs = (tt, refl, more stores None run);
      }

      pub stored_refused : (reason : DiskRefusal) → ((need free : ℕ) → reason ≡ Full need free → IsFull need free (length bytes) (seen b).told)
          → IfTold (seen b).told (λ s. free_of s < length bytes → Runs seen left_since (WriteTmp bytes ∷ []) (Some reason) b c) → Runs seen left_since stores (Some reason) b c
          → (reason ≢ Failed → Runs seen left_since (WriteTmp bytes ∷ []) (Some reason) b c) → (reason ≡ NoMemory → IsUntouched seen left_since b c ⊎ IfTold (seen b).told (λ s. length bytes ≤ free_of s))
          → Handles seen left_since (folder_of place) Row (Err reason) a c
      stored_refused Failed is_full overfull run early memory =
          let room = length bytes in
          elim (cases_lt (found room).room (length bytes)) [
            | inl less ↦ inr (record {
              found = found room;
              is_found = is_found (seen a).told (folder_of place) names [] room directory;
              handling = full (found room).room;
              row = full_row room less;
              runs = (more stores (Some Failed) run, inr (more (WriteTmp bytes ∷ []) (Some Failed) (room_is (λ n. n < length bytes → Runs seen left_since (WriteTmp bytes ∷ []) (Some Failed) b c) room (λ same. absurd (omega (arith, same))) overfull less)));
            })
            | inr enough ↦ inr (record {
              found = found room;
              is_found = is_found (seen a).told (folder_of place) names [] room directory;
              handling = done;
              row = done_row room enough;
              runs = (more stores (Some Failed) run, inl tt);
            })
          ]
      stored_refused (Full need free) is_full overfull run early memory =
          let full_is = is_full need free refl in
          let room : free ≡ (found free).room = room_is (λ n. free ≡ n) free refl full_is.free_is in
          let less : (found free).room < length bytes = omega (arith, room, full_is.less, full_is.needed) in
          inr (record {
            found = found free;
            is_found = is_found (seen a).told (folder_of place) names [] free directory;
            handling = full (found free).room;
            row = full_row free less;
            runs = (ap (λ n. NoSpace n (found free).room) (sym full_is.needed) ∙ ap (λ n. NoSpace need n) (sym room), more (WriteTmp bytes ∷ []) (Some (Full need free)) (early (λ is. cc)));
          })
      stored_refused NoMemory is_full overfull run early memory = ⊎_elim
          (λ same. inl (wants_memory seen left_since (folder_of place) (Err NoMemory) a b c looked refl same))
          (λ fits. inr (record {
            found = found (length bytes);
            is_found = is_found (seen a).told (folder_of place) names [] (length bytes) directory;
            handling = done;
            row = done_row (length bytes) (room_is (λ room. length bytes ≤ room) (length bytes) (omega arith) fits);
            runs = (tt, more (WriteTmp bytes ∷ []) (Some NoMemory) (early (λ is. cc)));
          }))
          (memory refl)
