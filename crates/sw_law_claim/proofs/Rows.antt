-- What each row of a node's table leaves of what a folder bears, and what its reply claims and lists.
use Rattle.std.proofs.Common.{◌≡◌, inl, inr, ⊎_elim, ℕ, ◌≤◌, Bool, true, false, Contains, List, [], ◌∷◌, length, Option, Some, None, refl, sym, ◌∙◌, ap, subst}
use Rattle.std.specs.Prelude.{⊤}
use Rattle.sw_types.specs.Stamp.{greatest_stamp}
use Rattle.sw_disk.specs.Answers.{names_of}
use Rattle.sw_disk.specs.Calls.{Call, ReadFile}
use Rattle.sw_disk.specs.Folder.{Change, File, Rename, all_changed, changed}
use Rattle.sw_hashpath.specs.FileName.{file_name_text}
use Rattle.sw_hashpath.specs.Place.{PlaceModel, folder_of}
use Rattle.sw_hashpath.specs.declared.file_name.FileName.{FileName}
use Rattle.sw_hashpath.specs.declared.file_name.FileName.TheVariants.{Data, Tombstone}
use Rattle.sw_hashdir.specs.Directory.{HasFloor, StandsAbove}
use Rattle.sw_hashdir.proofs.Laws.{entry_there}
use Rattle.sw_hashdir.specs.Listing.{IsListingOf, ListingModel}
use Rattle.sw_hashdir.specs.declared.floor.Floor.{Floor}
use Rattle.sw_diskfile.specs.Calls.{store_calls}
use Rattle.sw_diskfile.specs.Changes.{new_file}
use Rattle.sw_diskfile.specs.Normal.{AreObsolete}
use Rattle.sw_diskfile.proofs.Directories.{durable_directory, has_content, made_directory}
use Rattle.sw_ring.specs.Cluster.{ClusterModel}
use Rattle.sw_message.specs.Message.{is_primary, place_in}
use Rattle.sw_message.specs.Step.{Folders, IsFound}
use Rattle.sw_message.specs.Table.{ArePurged, AskListed, CommitMissing, CommitRenamed, CommitSuperseded, CommitThere, DeleteSuperseded, DeleteThere, DeleteWritten, FetchGone, FetchRead, FetchSpoiled, Found, HandlesAsk, HandlesCommit, HandlesDelete, HandlesFetch, HandlesPutFrag, HandlesRemove, Handling, IsHandled, PutFragFull, PutFragSpoiled, PutFragStored, PutFragSuperseded, PutFragThere, RemoveDropped, RemoveKept, RemoveMissing, answers_after, durable_text, plain_text, tombstone_text}
use Rattle.sw_message.specs.Warrant.{HasListing}
use Rattle.sw_message.specs.declared.message.Msg.{Msg}
use Rattle.sw_message.specs.declared.message.Msg.TheVariants as message
use Rattle.sw_message.specs.declared.reply.Reply.{Reply}
use Rattle.sw_message.specs.declared.reply.Reply.TheVariants as reply
use Rattle.sw_objsrv.specs.Handling.{IsStamped}
use Rattle.sw_objsrv.proofs.RowForms.{archive_name}
use Rattle.sw_law_claim.specs.Claim.{ADurableEntry, ATombstone, AnEntry, AsksAway, Claim, Claims, IsBearing, IsBorneBy, IsWhat, What}
use Rattle.sw_law_claim.proofs.Bearing.{handoff_bears}
use Rattle.sw_law_claim.proofs.Names.{durable_bears, made_bears, more_bears, purged_bears, renamed_bears, there_bears, without_bears}
use Rattle.sw_law_claim.proofs.Shown.{AboveListed, IsShownBy, listing_bears, refusal_bears}

-- a listing in a reply is that of these names
abbrev pub ListsNames : List FileName → Reply → Type 0
ListsNames names answer = (listing : ListingModel) → HasListing answer listing → IsListingOf names listing

module _ (primary : Bool) (place : PlaceModel) (files : List File) (claim : Claim) (found : Found) (msg : Msg) (handling : Handling) where
  -- the files then
  abbrev after : List File
  after = all_changed handling.changes files

  -- the folder bears it still
  abbrev pub Keeps : Type 0
  Keeps = (primary ≡ false → AsksAway place claim msg → ⊥) → IsBorneBy primary claim files → IsBorneBy primary claim after

  -- it bears what the reply claims
  abbrev pub HoldsTrue : Type 0
  HoldsTrue = Claims primary msg handling.reply claim → IsBorneBy primary claim after

  -- both where the message's stamp is one; and a listing is that of the names that were found
  abbrev pub IsFine : Type 0
  IsFine = (IsStamped msg → Keeps) × (IsStamped msg → HoldsTrue) × ListsNames found.names handling.reply

module _ (cluster : ClusterModel) (primary : Bool) (place : PlaceModel) (files : List File) (room : ℕ) (found : Found) (is : IsFound files room found) (claim : Claim) where
  abbrev Fine : Msg → Handling → Type 0
  Fine = IsFine primary place files claim found

  abbrev Borne : List File → Type 0
  Borne = IsBorneBy primary claim

  abbrev folder : List ℕ
  folder = folder_of place

  -- by how it is handled
  by : (msg : Msg) (handling other : Handling) → handling ≡ other → Fine msg other → Fine msg handling
  by msg handling other same fine = subst (Fine msg) (sym same) fine

  -- it changes nothing
  quiet : (msg : Msg) (handling : Handling) (calls : List Call) (answer : Reply) → handling ≡ answers_after folder calls [] answer → (Claims primary msg answer claim → Borne files) → ListsNames found.names answer → Fine msg handling
  quiet msg handling calls answer same claims lists = by msg handling (answers_after folder calls [] answer) same (λ stamped aside borne. borne, λ stamped. claims, lists)

  -- ---- names and replies

  -- the name of what is claimed bears it
  bearing : (s : ℕ) (what : What) (name : FileName) → IsWhat s what name → claim ≡ record { stamp = s; what = what } → IsBearing primary claim name
  bearing s what name is_what same = inl (subst (λ (c : Claim). IsWhat c.stamp c.what name) (sym same) is_what)

  -- a name that was found bears it
  there : (name : FileName) → Contains found.names name → IsBearing primary claim name → Borne files
  there = there_bears primary claim files found.names is.directory

  -- a reply shows what the folder has, by a listing or by the floor of a refusal
  shown : (answer : Reply) → ListsNames found.names answer → IsShownBy primary claim answer (AboveListed claim answer) → Borne files
  shown = listing_bears primary claim files found.names is.directory

  refused : (floor : Floor) → HasFloor found.names floor → IsShownBy primary claim (reply.Superseded floor) (StandsAbove floor claim.stamp) → Borne files
  refused = refusal_bears primary claim files found.names is.directory

  -- without a listing
  none : (listing : ListingModel) → ⊥ → IsListingOf found.names listing
  none listing nothing = absurd nothing

  -- ---- the rows

  module _ (handling : Handling) (stamp index : ℕ) (bytes : List ℕ) where
    abbrev put : Msg
    put = message.PutFrag place stamp index bytes

    abbrev file : File
    file = record { name = plain_text stamp index; content = record { bytes = bytes; synced = true } }

    -- an archive is stored
    put-row : HandlesPutFrag cluster place stamp index bytes found handling → Fine put handling
    put-row (PutFragSpoiled spoil spoils same) = quiet put handling [] (reply.Spoiled spoil) same (⊎_elim absurd (shown (reply.Spoiled spoil) none)) none
    put-row (PutFragSuperseded archive floor covered same) = quiet put handling [] (reply.Superseded floor) same (⊎_elim absurd (refused floor covered.0.0)) none
    put-row (PutFragThere archive uncovered durable has same) =
        quiet put handling [] reply.Synced same (⊎_elim
        (λ claimed. there (Data stamp index durable) (entry_there found.names stamp index durable has) (bearing stamp (AnEntry index) (Data stamp index durable) (durable, refl) claimed))
        (shown reply.Synced none)) none
    put-row (PutFragFull archive uncovered lacks full same) =
        quiet put handling (store_calls folder (plain_text stamp index) bytes) (reply.NoSpace (length bytes) found.room) same (⊎_elim absurd (shown (reply.NoSpace (length bytes) found.room) none)) none
    put-row (PutFragStored archive uncovered lacks fits same) =
        by put handling _ same (
          λ stamped aside. more_bears primary claim files file,
          λ stamped. ⊎_elim
              (λ claimed. made_bears primary claim files file (Data stamp index false) (archive_name cluster place stamp index bytes archive) refl (bearing stamp (AnEntry index) (Data stamp index false) (false, refl) claimed))
              (λ showing. more_bears primary claim files file (shown reply.Synced none showing)),
          none,
        )

  module _ (handling : Handling) (stamp index : ℕ) where
    abbrev commit : Msg
    commit = message.Commit place stamp index

    abbrev durable : FileName
    durable = Data stamp index true

    abbrev renaming : Change
    renaming = Rename (plain_text stamp index) (durable_text stamp index)

    -- the durable name bears what the answer claims
    committed : Claims primary commit reply.Committed claim → IsBearing primary claim durable
    committed (inl claimed) = bearing stamp (ADurableEntry index) durable refl claimed
    committed (inr showing) = ⊎_elim
        (λ same. inl (subst (λ (what : What). IsWhat claim.stamp what durable) (sym showing.1.1) (ap (λ (s : ℕ). Data s index true) same.0 ∙ ap (λ (i : ℕ). Data claim.stamp i true) same.1)))
        (λ above. absurd above.1)
        showing.1.2

    -- what is obsolete once it is durable
    renamed : (obsolete : List (List ℕ)) → Contains found.names (Data stamp index false) → ArePurged primary durable found.names obsolete → AreObsolete primary (names_of (changed renaming files)) obsolete
    renamed obsolete has purged =
        let plain = (is.directory (Data stamp index false)).0 has in
        record {
          names = purged.later;
          directory = durable_directory files stamp index found.names purged.later is.directory plain.0 (has_content files (plain_text stamp index) plain.1) purged.after;
          all = purged.all;
          ascend = purged.ascend;
        }

    -- an archive becomes durable
    commit-row : HandlesCommit primary place stamp index found handling → Fine commit handling
    commit-row (CommitThere has same) = quiet commit handling [] reply.Committed same (λ claimed. there durable has (committed claimed)) none
    commit-row (CommitRenamed plain obsolete purged same) =
        let are = renamed obsolete plain.0 purged in
        by commit handling _ same (
          λ stamped aside borne. purged_bears primary claim files renaming obsolete are (durable_bears primary claim files found.names is.directory stamp index purged.later plain.0 purged.after borne),
          λ stamped claimed. purged_bears primary claim files renaming obsolete are (renamed_bears primary claim files found.names is.directory stamp index purged.later plain.0 purged.after (committed claimed)),
          none,
        )
    commit-row (CommitSuperseded lacks floor covered same) = quiet commit handling [] (reply.Superseded floor) same (⊎_elim absurd (refused floor covered.0.0)) none
    commit-row (CommitMissing lacks uncovered same) = quiet commit handling [] reply.Missing same (⊎_elim absurd (shown reply.Missing none)) none

  module _ (handling : Handling) (stamp : ℕ) where
    abbrev delete : Msg
    delete = message.Delete place stamp

    abbrev tombstone : File
    tombstone = record { name = tombstone_text stamp; content = record { bytes = []; synced = true } }

    abbrev burying : Change
    burying = new_file (tombstone_text stamp) []

    -- what is obsolete once there is a tombstone
    buried : (obsolete : List (List ℕ)) → stamp ≤ greatest_stamp → ArePurged primary (Tombstone stamp) found.names obsolete → AreObsolete primary (names_of (changed burying files)) obsolete
    buried obsolete stamped purged = record {
      names = purged.later;
      directory = made_directory files tombstone (Tombstone stamp) found.names purged.later is.directory stamped refl (λ other replaced. replaced) purged.after;
      all = purged.all;
      ascend = purged.ascend;
    }

    -- a tombstone is written
    delete-row : HandlesDelete primary place stamp found handling → Fine delete handling
    delete-row (DeleteSuperseded floor refuses same) = quiet delete handling [] (reply.Superseded floor) same (⊎_elim absurd (refused floor refuses.0.0)) none
    delete-row (DeleteThere allows existed tells has same) =
        quiet delete handling [] (reply.Deleted existed) same (⊎_elim
        (λ claimed. there (Tombstone stamp) has (bearing stamp ATombstone (Tombstone stamp) refl claimed))
        (shown (reply.Deleted existed) none)) none
    delete-row (DeleteWritten allows existed tells new obsolete purged same) =
        by delete handling _ same (
          λ stamped aside borne. purged_bears primary claim files burying obsolete (buried obsolete stamped purged) (more_bears primary claim files tombstone borne),
          λ stamped claimed. purged_bears primary claim files burying obsolete (buried obsolete stamped purged) (⊎_elim
              (λ here. made_bears primary claim files tombstone (Tombstone stamp) stamped refl (bearing stamp ATombstone (Tombstone stamp) refl here))
              (λ showing. more_bears primary claim files tombstone (shown (reply.Deleted existed) none showing))
              claimed),
          none,
        )

  -- a listing in a reply is the one that was made
  listed : (listing : ListingModel) → IsListingOf found.names listing → (other : ListingModel) → listing ≡ other → IsListingOf found.names other
  listed listing lists other same = subst (IsListingOf found.names) same lists

  -- the folder is listed
  ask-row : (handling : Handling) → HandlesAsk place found handling → Fine (message.Ask place) handling
  ask-row handling (AskListed listing lists same) = quiet (message.Ask place) handling [] (reply.Held listing) same (⊎_elim absurd (shown (reply.Held listing) (listed listing lists))) (listed listing lists)

  module _ (handling : Handling) (stamp index : ℕ) where
    abbrev fetch : Msg
    fetch = message.Fetch place stamp index

    -- an archive is read
    fetch-row : HandlesFetch cluster place stamp index found handling → Fine fetch handling
    fetch-row (FetchGone lacks listing lists same) = quiet fetch handling [] (reply.Gone listing) same (⊎_elim absurd (shown (reply.Gone listing) (listed listing lists))) (listed listing lists)
    fetch-row (FetchRead durable has archive same) =
        let bytes = found.bytes (Data stamp index durable) in
        quiet fetch handling (ReadFile folder (file_name_text (Data stamp index durable)) ∷ []) (reply.Fragment bytes) same (⊎_elim absurd (shown (reply.Fragment bytes) none)) none
    fetch-row (FetchSpoiled durable has spoil spoils same) =
        quiet fetch handling (ReadFile folder (file_name_text (Data stamp index durable)) ∷ []) (reply.Spoiled spoil) same (⊎_elim absurd (shown (reply.Spoiled spoil) none)) none

    abbrev remove : Msg
    remove = message.Remove place stamp index

    -- an archive goes from a handoff
    remove-row : HandlesRemove primary place stamp index found handling → Fine remove handling
    remove-row (RemoveKept kept same) = quiet remove handling [] reply.Kept same (⊎_elim absurd (shown reply.Kept none)) none
    remove-row (RemoveMissing handoff lacks same) = quiet remove handling [] reply.Missing same (⊎_elim absurd (shown reply.Missing none)) none
    remove-row (RemoveDropped handoff durable has same) =
        let gone = Data stamp index durable in
        let spelt = (is.directory gone).0 (entry_there found.names stamp index durable has) in
        by remove handling _ same (
          λ stamped aside. without_bears primary claim files gone spelt.0 (λ bears. let both = handoff_bears primary claim handoff stamp index durable bears in aside handoff (refl, both.0, both.1)),
          λ stamped. ⊎_elim absurd (λ showing. ⊎_elim (λ durable. absurd durable.1) (λ above. absurd above.1) showing.1.2),
          none,
        )

-- ---- the table

module _ (cluster : ClusterModel) (device room : ℕ) (before : Folders) (claim : Claim) (msg : Msg) where
  -- what the row of a message about a place does
  abbrev pub FineAt : Found → Handling → Option PlaceModel → Type 0
  FineAt found handling None = ⊤
  FineAt found handling (Some place) = IsFound (before (folder_of place)) room found → IsFine (is_primary cluster device place) place (before (folder_of place)) claim found msg handling

module _ (cluster : ClusterModel) (device room : ℕ) (before : Folders) (claim : Claim) (found : Found) (handling : Handling) where
  -- each row does its part
  pub handled-fine : (msg : Msg) → IsHandled cluster device found msg handling → FineAt cluster device room before claim msg found handling (place_in msg)
  handled-fine (message.PutFrag place stamp index bytes) row = λ is. put-row cluster (is_primary cluster device place) place (before (folder_of place)) room found is claim handling stamp index bytes row
  handled-fine (message.Commit place stamp index) row = λ is. commit-row cluster (is_primary cluster device place) place (before (folder_of place)) room found is claim handling stamp index row
  handled-fine (message.Delete place stamp) row = λ is. delete-row cluster (is_primary cluster device place) place (before (folder_of place)) room found is claim handling stamp row
  handled-fine (message.Ask place) row = λ is. ask-row cluster (is_primary cluster device place) place (before (folder_of place)) room found is claim handling row
  handled-fine (message.Fetch place stamp index) row = λ is. fetch-row cluster (is_primary cluster device place) place (before (folder_of place)) room found is claim handling stamp index row
  handled-fine (message.Remove place stamp index) row = λ is. remove-row cluster (is_primary cluster device place) place (before (folder_of place)) room found is claim handling stamp index row
  handled-fine message.Parts row = tt
  handled-fine (message.Suffixes part) row = tt
  handled-fine (message.Places part) row = tt
