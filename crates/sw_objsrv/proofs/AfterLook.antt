-- A look at a folder: what it tells of the disk before it, and handlings of a message that begin with it.
use Rattle.std.proofs.Common.{ℕ, List, [], ◌∷◌, Option, None, Some, refl, subst, ◌≡◌, inl, inr, Bool, ◌++◌, Result, Ok, Err, IfErr, IfOk, sym, ◌↔◌, ⊎_elim, true, false, Contains, map, take, IsSome}
use Rattle.std.specs.Prelude.{⊤}
use Rattle.sw_disk.specs.Calls.{Call, ListNames, Step, calls_in}
use Rattle.sw_disk.specs.Folder.{File, files_of, Content, content_at, Remove, Rename}
use Rattle.sw_disk.specs.Runs.{IfTold, Past, Runs, Seen, StopsTold, IsTelling, IsUntouched, refusal_of}
use Rattle.sw_disk.specs.State.{State, free_of, run}
use Rattle.sw_disk.proofs.Chains.{steps_of, runs_after, runs_more, runs_none, told_map}
use Rattle.sw_disk.proofs.Settling.{AreQuiet, files_kept}
use Rattle.sw_diskfile.proofs.Kept.{always, quiet_keeps}
use Rattle.sw_objsrv.proofs.Found.{bytes_in, found_in, is_found, room_in}
use Rattle.sw_objsrv.proofs.InOrder.{order_kept}
use Rattle.sw_objsrv.proofs.Keeping.{keeps_twice}
use Rattle.sw_objsrv.proofs.Room.{AreWithin, free_kept}
use Rattle.sw_objsrv.proofs.Told.{has_told, told_after}
use Rattle.sw_disk.specs.Answers.{IsNotFull, names_of, HasFile, LacksFile}
use Rattle.sw_disk.specs.declared.refusal.DiskRefusal.{DiskRefusal}
use Rattle.sw_disk.specs.declared.refusal.DiskRefusal.TheVariants.{Failed, Full, NoMemory}
use Rattle.sw_hashpath.specs.FileName.{file_name_text, IsFileName}
use Rattle.sw_hashpath.specs.declared.file_name.FileName.{FileName}
use Rattle.sw_hashdir.specs.Directory.{IsDirectory, HasEntry, HasEntryAt}
use Rattle.sw_hashdir.specs.declared.floor.Floor.{Floor}
use Rattle.sw_diskfile.specs.Changes.{IsAsBefore, Keeps, new_file}
use Rattle.sw_diskfile.specs.Names.{IsDirectoryOf, RunsUnlessMemory, MakesName}
use Rattle.sw_diskfile.proofs.Tidied.{look_done}
use Rattle.sw_message.specs.Table.{Allows, CommitRenamed, DeleteWritten, Found, HandlesCommit, HandlesDelete, HandlesRemove, Handling, HasDurableFloor, RemoveDropped, answers_after, durable_text, plain_text, tombstone_text}
use Rattle.sw_message.specs.declared.reply.Reply.{Reply}
use Rattle.sw_objsrv.specs.Changing.{HandlesAfterLook, IsAtOnce, RunsAfterLook, Drops, MakesAndPurges, WantsMemoryFirst}
use Rattle.sw_objsrv.specs.Folder.{IsInOrder, StaysInOrder}
use Rattle.sw_objsrv.specs.Handling.{Handles, IsAnswer, RunsHandling, StopsEarly}
use Rattle.sw_hashpath.specs.Place.{PlaceModel, folder_of}
use Rattle.sw_hashpath.specs.declared.file_name.FileName.TheVariants.{Data, Tombstone}
use Rattle.sw_hashdir.specs.declared.entry.Entry.{Entry}
use Rattle.sw_diskfile.specs.Calls.{commit_calls, drop_calls, purge_calls, store_calls}
use Rattle.sw_message.specs.declared.reply.Reply.TheVariants.{Committed, Deleted, Removed}
use Rattle.sw_hashdir.specs.Obsolete.{IsAfter}
use Rattle.sw_diskfile.proofs.Directories.{has_content, has_name}

-- ---- the directory that a look gave

none_there : (content : Option Content) → (IsSome content → ⊥) → content ≡ None
none_there None never = refl
none_there (Some content) never = absurd (never refl)

module _ (told : Option State) (folder : List ℕ) (names : List FileName) (is : IfTold told (λ s. IsDirectoryOf (s.folder folder) names)) (name : FileName) where
  pub has_file : Contains names name → IfTold told (λ s. HasFile s folder (file_name_text name))
  has_file has = told_map told (λ s. IsDirectoryOf (s.folder folder) names) (λ s. HasFile s folder (file_name_text name)) is
      (λ s directory. has_content (files_of (s.folder folder)) (file_name_text name) ((directory name).0 has).1)

  pub lacks_file : IsFileName name → (Contains names name → ⊥) → IfTold told (λ s. LacksFile s folder (file_name_text name))
  lacks_file is_name lacks = told_map told (λ s. IsDirectoryOf (s.folder folder) names) (λ s. LacksFile s folder (file_name_text name)) is
      (λ s directory. none_there (content_at (file_name_text name) (files_of (s.folder folder)))
      (λ some. lacks ((directory name).1 (is_name, has_name (files_of (s.folder folder)) (file_name_text name) some))))

-- the directory once a file was made
pub directory_made : (tells : Bool) (a b : Option State) → IsTelling tells a → IsTelling tells b → (folder : List ℕ) (made : FileName) (names later : List FileName) → IfTold a (λ s. IsDirectoryOf (s.folder folder) names)
    → IfTold a (λ s. IfTold b (λ t. MakesName made (s.folder folder) (t.folder folder))) → IsAfter made names later → IfTold b (λ t. IsDirectoryOf (t.folder folder) later)
directory_made tells a b first second folder made names later is makes after =
    told_after tells a b first second (λ s t. IsDirectoryOf (s.folder folder) names × MakesName made (s.folder folder) (t.folder folder)) (λ t. IsDirectoryOf (t.folder folder) later)
    (has_told a b (λ s. IsDirectoryOf (s.folder folder) names) (λ s t. MakesName made (s.folder folder) (t.folder folder)) is makes) (λ s t both. both.1 names later both.0 after)

-- ---- before the look

-- where all calls were done
back_told : (steps : List Step) (rest : List Call) (Has P Q : State → Type 0) (a b : Option State) → ((state : State) → Has state → Q (run steps state) → P state) → StopsTold steps rest None a b → IfTold a Has → IfTold b Q → IfTold a P
back_told steps rest Has P Q None b back stops had has = tt
back_told steps rest Has P Q (Some a) b back stops had has = back a had (subst Q (stops.2.whole refl) (subst (λ (o : Option State). IfTold o Q) stops.1 has))

module _ {D : Type 0} (seen : D → Seen) (left_since : D → Past) (folder : List ℕ) (a b : D) (looked : Runs seen left_since (ListNames folder ∷ []) None a b) where
  quiet : AreQuiet (calls_in looked.steps)
  quiet = subst AreQuiet (steps_of seen left_since (ListNames folder ∷ []) a b looked) tt

  -- of the files in a folder
  pub files_before : (name : List ℕ) (P : List File → Type 0) → IfTold (seen b).told (λ s. P (files_of (s.folder name))) → IfTold (seen a).told (λ s. P (files_of (s.folder name)))
  files_before name P has =
      back_told looked.steps looked.rest (λ s. ⊤) (λ s. P (files_of (s.folder name))) (λ s. P (files_of (s.folder name))) (seen a).told (seen b).told
      (λ state _ is. subst P (files_kept looked.steps state name quiet) is) looked.told (always (seen a).told) has

  -- of how many bytes are free
  pub room_before : (P : ℕ → Type 0) → IfTold (seen a).told AreWithin → IfTold (seen b).told (λ s. P (free_of s)) → IfTold (seen a).told (λ s. P (free_of s))
  room_before P within has =
      back_told looked.steps looked.rest AreWithin (λ s. P (free_of s)) (λ s. P (free_of s)) (seen a).told (seen b).told (λ state had is. subst P (free_kept looked.steps state quiet had) is) looked.told within has

-- ---- calls

module _ {D : Type 0} (seen : D → Seen) (left_since : D → Past) (folder : List ℕ) where
  abbrev Looks : Option DiskRefusal → D → D → Type 0
  Looks refusal a b = RunsUnlessMemory seen left_since (ListNames folder ∷ []) refusal a b

  -- memory was wanted behind it
  pub wants_memory : (result : Result Reply DiskRefusal) (a b c : D) → Looks None a b → refusal_of result ≡ Some NoMemory → IsUntouched seen left_since b c → StopsEarly seen left_since (ListNames folder) result a c
  wants_memory (Ok reply) a b c looked is same = absurd (cc)
  wants_memory (Err Failed) a b c looked is same = absurd (cc)
  wants_memory (Err (Full need free)) a b c looked is same = absurd (cc)
  wants_memory (Err NoMemory) a b c looked is same = inr (
    refl,
    runs_more seen left_since (ListNames folder ∷ []) [] None a b c (look_done seen left_since folder a b looked) (runs_after seen left_since [] None b c c same (runs_none seen left_since c)),
  )

  -- its calls were done, or those before one that was refused
  runs_row : (handling_reply : Reply) (calls : List Call) (result : Result Reply DiskRefusal) (handling : Handling) (a b c : D) → handling.reply ≡ handling_reply → handling.calls ≡ ListNames folder ∷ calls
      → Looks None a b → RunsAfterLook seen left_since handling_reply calls result b c → RunsHandling seen left_since handling result a c
  runs_row reply calls (Ok given) handling a b c replies is looked runs = (
    runs.0,
    subst (λ (r : Reply). r ≡ given) (sym replies) runs.1,
    subst (λ (l : List Call). Runs seen left_since l None a c) (sym is) (runs_more seen left_since (ListNames folder ∷ []) calls None a b c (look_done seen left_since folder a b looked) runs.2),
  )
  runs_row reply calls (Err Failed) handling a b c replies is looked runs = (
    subst (λ (l : List Call). Runs seen left_since l (Some Failed) a c) (sym is) (runs_more seen left_since (ListNames folder ∷ []) calls (Some Failed) a b c (look_done seen left_since folder a b looked) runs.1),
    inl (subst IsAnswer (sym replies) runs.0),
  )
  runs_row reply calls (Err (Full need free)) handling a b c replies is looked runs = absurd runs
  runs_row reply calls (Err NoMemory) handling a b c replies is looked runs = (
    subst IsAnswer (sym replies) runs.0,
    subst (λ (l : List Call). Runs seen left_since (take 2 l) (Some NoMemory) a c) (sym is)
        (runs_more seen left_since (ListNames folder ∷ []) (take 1 calls) (Some NoMemory) a b c (look_done seen left_since folder a b looked) runs.1),
  )

  pub handles_after : (Row : Found → Handling → Type 0) (names : List FileName) (result : Result Reply DiskRefusal) (a b c : D) → Looks None a b → IfTold (seen a).told (λ s. IsDirectoryOf (s.folder folder) names)
      → HandlesAfterLook seen left_since folder Row names result b c → Handles seen left_since folder Row result a c
  handles_after Row names result a b c looked directory (inl want) = inl (wants_memory result a b c looked want.0 want.1)
  handles_after Row names result a b c looked directory (inr follows) =
      let handling = answers_after folder follows.calls follows.changes follows.reply in
      inr (record {
        found = found_in (seen a).told folder names [] 0;
        is_found = is_found (seen a).told folder names [] 0 directory;
        handling = handling;
        row = follows.row (bytes_in (seen a).told folder []) (room_in (seen a).told 0);
        runs = runs_row follows.reply follows.calls result handling a b c refl refl looked follows.runs;
      })

  -- the directory is still that one
  pub directory_looked : (names : List FileName) (a b : D) → Looks None a b → IfTold (seen a).told (λ s. IsDirectoryOf (s.folder folder) names) → IfTold (seen b).told (λ s. IsDirectoryOf (s.folder folder) names)
  directory_looked names a b looked is =
      quiet_keeps seen left_since a b (ListNames folder ∷ []) folder (λ (files : List File). IsDirectory (names_of files) names) tt (look_done seen left_since folder a b looked) is

  -- ---- what is done behind the look

  pub handles_at_once : (Row : Found → Handling → Type 0) (names : List FileName) (reply : Reply) (a b : D) → Looks None a b → IfTold (seen a).told (λ s. IsDirectoryOf (s.folder folder) names) → IsAtOnce folder Row names reply
      → Handles seen left_since folder Row (Ok reply) a b
  handles_at_once Row names reply a b looked directory is =
      handles_after Row names (Ok reply) a b b looked directory (inr (record { reply = reply; calls = []; changes = []; row = is.1; runs = (is.0, refl, runs_none seen left_since b) }))

  pub runs_given : (reply : Reply) (calls : List Call) (result : Result Reply DiskRefusal) (a b : D) → IsAnswer reply → IfErr result IsNotFull → IfOk result (λ given. reply ≡ given) → Runs seen left_since calls (refusal_of result) a b
      → WantsMemoryFirst seen left_since calls (refusal_of result) a b → RunsAfterLook seen left_since reply calls result a b
  runs_given reply calls (Ok given) a b answer other is runs early = (subst IsAnswer is answer, is, runs)
  runs_given reply calls (Err Failed) a b answer other is runs early = (answer, runs)
  runs_given reply calls (Err (Full need free)) a b answer other is runs early = absurd other
  runs_given reply calls (Err NoMemory) a b answer other is runs early = (answer, early refl)

  -- the look, and folders that are kept behind it
  pub keeps_after : (tells : Bool) (a b c : D) → IsTelling tells (seen a).told → IsTelling tells (seen b).told → Looks None a b → Keeps seen left_since (λ _. ⊤) a b → Keeps seen left_since (λ _. ⊤) b c → Keeps seen left_since (λ _. ⊤) a c
  keeps_after tells a b c tell_a tell_b looked first second = keeps_twice seen left_since (λ _. ⊤) a b c tells tell_a tell_b (look_done seen left_since folder a b looked).later first second

  -- a folder stays in order
  pub order_looked : (tells : Bool) (is_primary : Bool) (floor : Option Floor) (a b : D) → IsTelling tells (seen a).told → IsTelling tells (seen b).told → Keeps seen left_since (λ _. ⊤) a b → StaysInOrder is_primary folder floor floor (seen a).told (seen b).told
  order_looked tells is_primary floor a b tell_a tell_b kept order =
      told_after tells (seen a).told (seen b).told tell_a tell_b (λ s t. IsInOrder is_primary floor (s.folder folder) × IsAsBefore (s.folder folder) (t.folder folder)) (λ t. IsInOrder is_primary floor (t.folder folder))
      (has_told (seen a).told (seen b).told (λ s. IsInOrder is_primary floor (s.folder folder)) (λ s t. IsAsBefore (s.folder folder) (t.folder folder)) order (kept.stands folder tt))
      (λ s t is. order_kept is_primary floor (s.folder folder) (t.folder folder) is.1 is.0)

-- ---- the rows in which a file is made or removed

module _ {D : Type 0} (seen : D → Seen) (left_since : D → Past) (place : PlaceModel) (names : List FileName) (result : Result Reply DiskRefusal) (a b : D) (other : IfErr result IsNotFull) where
  abbrev folder : List ℕ
  folder = folder_of place

  pub commit_row : (is_primary : Bool) (stamp index : ℕ) → HasEntryAt names stamp index false → IfOk result (λ reply. Committed ≡ reply) → MakesAndPurges seen left_since folder is_primary (Data stamp index true) names (refusal_of result) a b
      → HandlesAfterLook seen left_since folder (HandlesCommit is_primary place stamp index) names result a b
  commit_row is_primary stamp index plain is makes = ⊎_elim
      (λ want. inl want)
      (λ made. inr (record {
        reply = Committed;
        calls = commit_calls folder (plain_text stamp index) (durable_text stamp index) ++ purge_calls folder made.0;
        changes = Rename (plain_text stamp index) (durable_text stamp index) ∷ map Remove made.0;
        row = λ bytes room. CommitRenamed plain made.0 made.1 refl;
        runs = runs_given seen left_since folder Committed (commit_calls folder (plain_text stamp index) (durable_text stamp index) ++ purge_calls folder made.0) result a b tt other is made.2 made.3;
      }))
      makes

  pub delete_row : (is_primary : Bool) (stamp : ℕ) (existed : Bool) → Allows names stamp → (existed ≡ true) ↔ HasDurableFloor names → (Contains names (Tombstone stamp) → ⊥) → IfOk result (λ reply. Deleted existed ≡ reply)
      → MakesAndPurges seen left_since folder is_primary (Tombstone stamp) names (refusal_of result) a b → HandlesAfterLook seen left_since folder (HandlesDelete is_primary place stamp) names result a b
  delete_row is_primary stamp existed allows durable lacks is makes = ⊎_elim
      (λ want. inl want)
      (λ made. inr (record {
        reply = Deleted existed;
        calls = store_calls folder (tombstone_text stamp) [] ++ purge_calls folder made.0;
        changes = new_file (tombstone_text stamp) [] ∷ map Remove made.0;
        row = λ bytes room. DeleteWritten allows existed durable lacks made.0 made.1 refl;
        runs = runs_given seen left_since folder (Deleted existed) (store_calls folder (tombstone_text stamp) [] ++ purge_calls folder made.0) result a b tt other is made.2 made.3;
      }))
      makes

  entry_row : (is_primary : Bool) (entry : Entry) → is_primary ≡ false → HasEntry names entry → IfOk result (λ reply. Removed ≡ reply) → Drops seen left_since folder entry (refusal_of result) a b
      → HandlesAfterLook seen left_since folder (HandlesRemove is_primary place entry.stamp entry.index) names result a b
  entry_row is_primary entry handoff has is drops =
      let text = file_name_text (Data entry.stamp entry.index entry.durable) in
      ⊎_elim
      (λ want. inl want)
      (λ runs. inr (record {
        reply = Removed;
        calls = drop_calls folder text;
        changes = Remove text ∷ [];
        row = λ bytes room. RemoveDropped handoff entry.durable has refl;
        runs = runs_given seen left_since folder Removed (drop_calls folder text) result a b tt other is runs.0 runs.1;
      }))
      drops

  pub remove_row : (is_primary : Bool) (stamp index : ℕ) (entry : Entry) → is_primary ≡ false → (entry.stamp ≡ stamp) × (entry.index ≡ index) × HasEntry names entry → IfOk result (λ reply. Removed ≡ reply)
      → Drops seen left_since folder entry (refusal_of result) a b → HandlesAfterLook seen left_since folder (HandlesRemove is_primary place stamp index) names result a b
  remove_row is_primary stamp index entry handoff found is drops =
      subst (λ (i : ℕ). HandlesAfterLook seen left_since folder (HandlesRemove is_primary place stamp i) names result a b) found.1
      (subst (λ (s : ℕ). HandlesAfterLook seen left_since folder (HandlesRemove is_primary place s entry.index) names result a b) found.0 (entry_row is_primary entry handoff found.2 is drops))
