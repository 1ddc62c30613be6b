-- The device calls of the rows of a node's table, and which changes of names they make.
use Rattle.std.proofs.Common.{◌≡◌, ◌≢◌, ◌⊎◌, inl, inr, ⊎_elim, ℕ, ◌<◌, Bool, List, [], ◌∷◌, ◌++◌, length, map, take, Option, Some, refl, sym, ◌∙◌, ap, subst, append_assoc}
use Rattle.std.proofs.lemmas.List.{append-nil}
use Rattle.std.specs.Prelude.{⊤}
use Rattle.sw_disk.specs.Calls.{Call, ListFolders, ListNames, ReadFile, WriteTmp, SyncTmp, PublishTmp, RenameFile, RemoveFile, SyncDir}
use Rattle.sw_disk.specs.Folder.{Change, Content, Remove, Rename}
use Rattle.sw_hashpath.specs.FileName.{file_name_text}
use Rattle.sw_hashpath.specs.Place.{PlaceModel, folder_of}
use Rattle.sw_hashpath.specs.declared.file_name.FileName.TheVariants.{Data}
use Rattle.sw_diskfile.specs.Calls.{commit_calls, drop_calls, purge_calls, store_calls}
use Rattle.sw_diskfile.specs.Changes.{new_file}
use Rattle.sw_diskfile.proofs.CallLists.{commit_alone, drop_alone, makes_commit, makes_drop, makes_purge, makes_store, purge_alone, store_alone}
use Rattle.sw_diskfile.proofs.Changed.{Makes}
use Rattle.sw_diskfile.proofs.Steps.{changes_by, changes_of, temporary_by}
use Rattle.sw_diskfile.proofs.Synced.{AreSyncedChanges}
use Rattle.sw_ring.specs.Cluster.{ClusterModel}
use Rattle.sw_message.specs.Message.{is_primary, place_in}
use Rattle.sw_message.specs.Table.{AskListed, CommitMissing, CommitRenamed, CommitSuperseded, CommitThere, DeleteSuperseded, DeleteThere, DeleteWritten, FetchGone, FetchRead, FetchSpoiled, Found, HandlesAsk, HandlesCommit, HandlesDelete, HandlesFetch, HandlesPutFrag, HandlesRemove, Handling, IsHandled, PutFragFull, PutFragSpoiled, PutFragStored, PutFragSuperseded, PutFragThere, RemoveDropped, RemoveKept, RemoveMissing, answers_after, durable_text, plain_text, tombstone_text}
use Rattle.sw_message.specs.declared.message.Msg.{Msg}
use Rattle.sw_message.specs.declared.message.Msg.TheVariants as message
use Rattle.sw_message.specs.declared.reply.Reply.{Reply}
use Rattle.sw_message.specs.declared.reply.Reply.TheVariants.{Committed, Deleted, Fragment, Gone, Held, Kept, Missing, NoSpace, Removed, Spoiled, Superseded, Synced}
use Rattle.sw_objsrv.specs.Handling.{IsAnswer}
use Rattle.sw_objsrv.specs.Node.{IsUnchanging}

-- ---- lists of calls

-- no file is published but one that was written before
abbrev pub PublishOwn : List Call → Type 0
PublishOwn [] = ⊤
PublishOwn (WriteTmp bytes ∷ calls) = ⊤
PublishOwn (PublishTmp folder name ∷ calls) = ⊥
PublishOwn (call ∷ calls) = PublishOwn calls

-- these calls make these changes of the folder, and none of another
pub record Does (folder : List ℕ) (calls : List Call) (changes : List Change) : Type 0 where
  pub makes : Makes folder calls changes
  pub own : PublishOwn calls
  pub alone : (other : List ℕ) → other ≢ folder → (temporary : Option Content) → changes_by other calls temporary ≡ []

joined : (folder : List ℕ) (xs ys : List Call) (changes : List Change) → ((temporary : Option Content) → changes_by folder ys temporary ≡ changes) → (temporary : Option Content)
    → changes_by folder (xs ++ ys) temporary ≡ changes_by folder xs temporary ++ changes
joined folder [] ys changes made temporary = made temporary
joined folder (x ∷ xs) ys changes made temporary =
    let first = changes_of folder x temporary in
    let next = temporary_by x temporary in
    ap (λ (more : List Change). first ++ more) (joined folder xs ys changes made next) ∙ sym (append_assoc first (changes_by folder xs next) changes)

both_synced : (xs ys : List Change) → AreSyncedChanges xs → AreSyncedChanges ys → AreSyncedChanges (xs ++ ys)
both_synced [] ys first second = second
both_synced (x ∷ xs) ys first second = (first.0, both_synced xs ys first.1 second)

own_too : (xs ys : List Call) → PublishOwn xs → PublishOwn ys → PublishOwn (xs ++ ys)
own_too [] ys first second = second
own_too (ListFolders ∷ xs) ys first second = own_too xs ys first second
own_too (ListNames folder ∷ xs) ys first second = own_too xs ys first second
own_too (ReadFile folder name ∷ xs) ys first second = own_too xs ys first second
own_too (WriteTmp bytes ∷ xs) ys first second = tt
own_too (SyncTmp ∷ xs) ys first second = own_too xs ys first second
own_too (PublishTmp folder name ∷ xs) ys first second = absurd first
own_too (RenameFile folder from to ∷ xs) ys first second = own_too xs ys first second
own_too (RemoveFile folder name ∷ xs) ys first second = own_too xs ys first second
own_too (SyncDir folder ∷ xs) ys first second = own_too xs ys first second

module _ (folder : List ℕ) where
  own_removals : (names : List (List ℕ)) → PublishOwn (map (RemoveFile folder) names ++ SyncDir folder ∷ [])
  own_removals [] = tt
  own_removals (name ∷ names) = own_removals names

  own_purge : (names : List (List ℕ)) → PublishOwn (purge_calls folder names)
  own_purge [] = tt
  own_purge (name ∷ names) = own_removals names

  does_none : Does folder [] []
  does_none = record { makes = record { made = λ temporary. refl; synced = tt; ends = inl refl }; own = tt; alone = λ other differs temporary. refl }

  does_read : (name : List ℕ) → Does folder (ReadFile folder name ∷ []) []
  does_read name = record { makes = record { made = λ temporary. refl; synced = tt; ends = inl refl }; own = tt; alone = λ other differs temporary. refl }

  does_store : (name bytes : List ℕ) → Does folder (store_calls folder name bytes) (new_file name bytes ∷ [])
  does_store name bytes = record { makes = makes_store folder name bytes; own = tt; alone = λ other differs. store_alone folder other differs name bytes }

  does_commit : (plain durable : List ℕ) → Does folder (commit_calls folder plain durable) (Rename plain durable ∷ [])
  does_commit plain durable = record { makes = makes_commit folder plain durable; own = tt; alone = λ other differs. commit_alone folder other differs plain durable }

  does_drop : (name : List ℕ) → Does folder (drop_calls folder name) (Remove name ∷ [])
  does_drop name = record { makes = makes_drop folder name; own = tt; alone = λ other differs. drop_alone folder other differs name }

  module _ (calls : List Call) (changes : List Change) (does : Does folder calls changes) where
    -- a look comes first
    does_look : Does folder (ListNames folder ∷ calls) changes
    does_look = record {
      makes = record {
        made = does.makes.made;
        synced = does.makes.synced;
        ends = ⊎_elim (λ none. inl none) (λ last. inr (ListNames folder ∷ last.0, ap (λ (more : List Call). ListNames folder ∷ more) last.1)) does.makes.ends;
      };
      own = does.own;
      alone = does.alone;
    }

    -- a purge comes last
    purge_ends : (names : List (List ℕ)) → (changes ++ map Remove names ≡ []) ⊎ ((front : List Call) × (calls ++ purge_calls folder names ≡ front ++ SyncDir folder ∷ []))
    purge_ends [] = ⊎_elim (λ none. inl (append-nil changes ∙ none)) (λ last. inr (last.0, append-nil calls ∙ last.1)) does.makes.ends
    purge_ends (name ∷ names) = inr (calls ++ map (RemoveFile folder) (name ∷ names), sym (append_assoc calls (map (RemoveFile folder) (name ∷ names)) (SyncDir folder ∷ [])))

    does_purge : (names : List (List ℕ)) → Does folder (calls ++ purge_calls folder names) (changes ++ map Remove names)
    does_purge names =
        let purge = makes_purge folder names in
        record {
          makes = record {
            made = λ temporary. joined folder calls (purge_calls folder names) (map Remove names) purge.made temporary ∙ ap (λ (first : List Change). first ++ map Remove names) (does.makes.made temporary);
            synced = both_synced changes (map Remove names) does.makes.synced purge.synced;
            ends = purge_ends names;
          };
          own = own_too calls (purge_calls folder names) does.own (own_purge names);
          alone = λ other differs temporary.
              joined other calls (purge_calls folder names) [] (purge_alone folder other differs names) temporary
              ∙ ap (λ (first : List Change). first ++ []) (does.alone other differs temporary);
        }

-- ---- rows

-- the first call looks at the folder
abbrev pub BeginsWithLook : List ℕ → List Call → Type 0
BeginsWithLook folder calls = (behind : List Call) × (calls ≡ ListNames folder ∷ behind)

-- the row of an answer: its calls make its changes, and there are none where the reply says so
pub record IsAnswerRow (folder : List ℕ) (handling : Handling) : Type 0 where
  pub looks : BeginsWithLook folder handling.calls
  pub answers : IsAnswer handling.reply
  pub does : Does folder handling.calls handling.changes
  pub none : IsUnchanging handling.reply → handling.changes ≡ []

-- The row of a full disk: its calls are those of a new file, and it makes no change. The call behind the look is refused.
pub record IsFullRow (folder : List ℕ) (handling : Handling) : Type 0 where
  pub looks : BeginsWithLook folder handling.calls
  pub name : List ℕ
  pub bytes : List ℕ
  pub free : ℕ
  pub less : free < length bytes
  pub replied : handling.reply ≡ NoSpace (length bytes) free
  pub none : handling.changes ≡ []
  pub does : Does folder handling.calls (new_file name bytes ∷ [])
  pub begun : (other : List ℕ) (temporary : Option Content) → changes_by other (take 2 handling.calls) temporary ≡ []

abbrev pub IsRow : List ℕ → Handling → Type 0
IsRow folder handling = IsAnswerRow folder handling ⊎ IsFullRow folder handling

moved : (handling : Handling) (here other : PlaceModel) → here ≡ other → IsRow (folder_of here) handling → IsRow (folder_of other) handling
moved handling here other same does = subst (λ (place : PlaceModel). IsRow (folder_of place) handling) same does

module _ (folder : List ℕ) (handling : Handling) where
  after_look : (calls : List Call) (changes : List Change) (reply : Reply) → IsAnswer reply → (IsUnchanging reply → changes ≡ []) → Does folder calls changes → handling ≡ answers_after folder calls changes reply
      → IsRow folder handling
  after_look calls changes reply answer none does is = subst (IsRow folder) (sym is) (inl (record { looks = (calls, refl); answers = answer; does = does_look folder calls changes does; none = none }))

  looked : (reply : Reply) → IsAnswer reply → handling ≡ answers_after folder [] [] reply → IsRow folder handling
  looked reply answer is = after_look [] [] reply answer (λ _. refl) (does_none folder) is

  read : (name : List ℕ) (reply : Reply) → IsAnswer reply → handling ≡ answers_after folder (ReadFile folder name ∷ []) [] reply → IsRow folder handling
  read name reply answer is = after_look (ReadFile folder name ∷ []) [] reply answer (λ _. refl) (does_read folder name) is

  no_room : (name bytes : List ℕ) (free : ℕ) → free < length bytes → handling ≡ answers_after folder (store_calls folder name bytes) [] (NoSpace (length bytes) free) → IsRow folder handling
  no_room name bytes free less is = subst (IsRow folder) (sym is) (inr (record {
    looks = (store_calls folder name bytes, refl);
    name = name;
    bytes = bytes;
    free = free;
    less = less;
    replied = refl;
    none = refl;
    does = does_look folder (store_calls folder name bytes) (new_file name bytes ∷ []) (does_store folder name bytes);
    begun = λ other temporary. refl;
  }))

-- what each row of a place does
module _ (place : PlaceModel) (found : Found) (handling : Handling) where
  abbrev folder : List ℕ
  folder = folder_of place

  put_row : (cluster : ClusterModel) (stamp index : ℕ) (bytes : List ℕ) → HandlesPutFrag cluster place stamp index bytes found handling → IsRow folder handling
  put_row cluster stamp index bytes (PutFragSpoiled spoil spoils is) = looked folder handling (Spoiled spoil) tt is
  put_row cluster stamp index bytes (PutFragSuperseded archive floor covered is) = looked folder handling (Superseded floor) tt is
  put_row cluster stamp index bytes (PutFragThere archive free durable has is) = looked folder handling Synced tt is
  put_row cluster stamp index bytes (PutFragFull archive free lacks less is) = no_room folder handling (plain_text stamp index) bytes found.room less is
  put_row cluster stamp index bytes (PutFragStored archive free lacks fits is) =
      after_look folder handling (store_calls folder (plain_text stamp index) bytes) (new_file (plain_text stamp index) bytes ∷ []) Synced tt (λ unchanging. absurd unchanging) (does_store folder (plain_text stamp index) bytes) is

  commit_row : (primary : Bool) (stamp index : ℕ) → HandlesCommit primary place stamp index found handling → IsRow folder handling
  commit_row primary stamp index (CommitThere has is) = looked folder handling Committed tt is
  commit_row primary stamp index (CommitRenamed plain obsolete purged is) =
      let calls = commit_calls folder (plain_text stamp index) (durable_text stamp index) in
      let change = Rename (plain_text stamp index) (durable_text stamp index) in
      after_look folder handling (calls ++ purge_calls folder obsolete) (change ∷ map Remove obsolete) Committed tt (λ unchanging. absurd unchanging)
      (does_purge folder calls (change ∷ []) (does_commit folder (plain_text stamp index) (durable_text stamp index)) obsolete) is
  commit_row primary stamp index (CommitSuperseded lacks floor covered is) = looked folder handling (Superseded floor) tt is
  commit_row primary stamp index (CommitMissing lacks free is) = looked folder handling Missing tt is

  delete_row : (primary : Bool) (stamp : ℕ) → HandlesDelete primary place stamp found handling → IsRow folder handling
  delete_row primary stamp (DeleteSuperseded floor refuses is) = looked folder handling (Superseded floor) tt is
  delete_row primary stamp (DeleteThere allows existed tells has is) = looked folder handling (Deleted existed) tt is
  delete_row primary stamp (DeleteWritten allows existed tells lacks obsolete purged is) =
      let calls = store_calls folder (tombstone_text stamp) [] in
      let change = new_file (tombstone_text stamp) [] in
      after_look folder handling (calls ++ purge_calls folder obsolete) (change ∷ map Remove obsolete) (Deleted existed) tt (λ unchanging. absurd unchanging)
      (does_purge folder calls (change ∷ []) (does_store folder (tombstone_text stamp) []) obsolete) is

  ask_row : HandlesAsk place found handling → IsRow folder handling
  ask_row (AskListed listing lists is) = looked folder handling (Held listing) tt is

  fetch_row : (cluster : ClusterModel) (stamp index : ℕ) → HandlesFetch cluster place stamp index found handling → IsRow folder handling
  fetch_row cluster stamp index (FetchGone lacks listing lists is) = looked folder handling (Gone listing) tt is
  fetch_row cluster stamp index (FetchRead durable has archive is) =
      read folder handling (file_name_text (Data stamp index durable)) (Fragment (found.bytes (Data stamp index durable))) tt is
  fetch_row cluster stamp index (FetchSpoiled durable has spoil spoils is) = read folder handling (file_name_text (Data stamp index durable)) (Spoiled spoil) tt is

  remove_row : (primary : Bool) (stamp index : ℕ) → HandlesRemove primary place stamp index found handling → IsRow folder handling
  remove_row primary stamp index (RemoveKept own is) = looked folder handling Kept tt is
  remove_row primary stamp index (RemoveMissing handoff lacks is) = looked folder handling Missing tt is
  remove_row primary stamp index (RemoveDropped handoff durable has is) =
      let text = file_name_text (Data stamp index durable) in
      after_look folder handling (drop_calls folder text) (Remove text ∷ []) Removed tt (λ unchanging. absurd unchanging) (does_drop folder text) is

-- ---- the table

-- each message is handled by a row
pub row_of : (cluster : ClusterModel) (device : ℕ) (found : Found) (message : Msg) (handling : Handling) → IsHandled cluster device found message handling → (place : PlaceModel) → place_in message ≡ Some place → IsRow (folder_of place) handling
row_of cluster device found (message.PutFrag here stamp index bytes) handling row place is = moved handling here place (cc) (put_row here found handling cluster stamp index bytes row)
row_of cluster device found (message.Commit here stamp index) handling row place is = moved handling here place (cc) (commit_row here found handling (is_primary cluster device here) stamp index row)
row_of cluster device found (message.Delete here stamp) handling row place is = moved handling here place (cc) (delete_row here found handling (is_primary cluster device here) stamp row)
row_of cluster device found (message.Ask here) handling row place is = moved handling here place (cc) (ask_row here found handling row)
row_of cluster device found (message.Fetch here stamp index) handling row place is = moved handling here place (cc) (fetch_row here found handling cluster stamp index row)
row_of cluster device found (message.Remove here stamp index) handling row place is = moved handling here place (cc) (remove_row here found handling (is_primary cluster device here) stamp index row)
row_of cluster device found message.Parts handling row place is = absurd row
row_of cluster device found (message.Suffixes part) handling row place is = absurd row
row_of cluster device found (message.Places part) handling row place is = absurd row

module _ (cluster : ClusterModel) (device : ℕ) (found : Found) (message : Msg) (handling : Handling) (handled : IsHandled cluster device found message handling) (place : PlaceModel) (is : place_in message ≡ Some place) where
  row : IsRow (folder_of place) handling
  row = row_of cluster device found message handling handled place is

  -- the calls of an answer make its changes
  pub makes : IsAnswer handling.reply → Makes (folder_of place) handling.calls handling.changes
  makes answer = ⊎_elim (λ answers. answers.does.makes) (λ full. absurd (subst IsAnswer full.replied answer)) row

  -- each row looks at the folder first, and publishes what it wrote
  pub begins_with_look : BeginsWithLook (folder_of place) handling.calls
  begins_with_look = ⊎_elim (λ answers. answers.looks) (λ full. full.looks) row

  pub publishes_own : PublishOwn handling.calls
  publishes_own = ⊎_elim (λ answers. answers.does.own) (λ full. full.does.own) row

  -- no row changes another folder
  pub quiet_elsewhere : (other : List ℕ) → other ≢ folder_of place → (temporary : Option Content) → changes_by other handling.calls temporary ≡ []
  quiet_elsewhere = ⊎_elim (λ answers. answers.does.alone) (λ full. full.does.alone) row

  -- where there is no space the row is that of a full disk
  pub full_row : (need free : ℕ) → handling.reply ≡ NoSpace need free → IsFullRow (folder_of place) handling
  full_row need free replied = ⊎_elim (λ answers. absurd (subst IsAnswer replied answers.answers)) (λ full. full) row

  -- a reply that changes nothing is of a row without changes
  pub unchanging_none : IsUnchanging handling.reply → handling.changes ≡ []
  unchanging_none unchanging = ⊎_elim (λ answers. answers.none unchanging) (λ full. full.none) row
