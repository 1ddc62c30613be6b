-- What each row of a node's table does to files whose names are by a step, and to its reply.
use Rattle.std.proofs.Common.{◌≡◌, inl, inr, ℕ, ◌≤◌, Bool, true, false, Contains, List, [], ◌∷◌, map, Option, Some, None, refl, sym, subst}
use Rattle.std.specs.Prelude.{⊤}
use Rattle.std.specs.List.{All}
use Rattle.std.proofs.lemmas.List.Elements.{All-cons, All-nil}
use Rattle.sw_types.specs.Stamp.{greatest_stamp}
use Rattle.sw_disk.specs.Folder.{Change, File, Remove, Rename}
use Rattle.sw_hashpath.specs.FileName.{file_name_text}
use Rattle.sw_hashpath.specs.Place.{PlaceModel, folder_of}
use Rattle.sw_hashpath.specs.declared.file_name.FileName.{FileName}
use Rattle.sw_hashpath.specs.declared.file_name.FileName.TheVariants.{Data, Tombstone}
use Rattle.sw_hashdir.specs.Directory.{HasFloorAt, IsFloor}
use Rattle.sw_hashdir.proofs.Laws.{entry_there}
use Rattle.sw_hashdir.specs.Listing.{IsListingOf, ListingModel}
use Rattle.sw_hashdir.specs.declared.floor.Floor.{Floor}
use Rattle.sw_hashdir.specs.declared.floor.FloorKind.{FloorKind}
use Rattle.sw_hashdir.specs.declared.floor.FloorKind.TheVariants as kind
use Rattle.sw_diskfile.specs.Changes.{new_file}
use Rattle.sw_message.specs.Message.{is_primary, place_in}
use Rattle.sw_message.specs.Step.{Folders, IsFound}
use Rattle.sw_message.specs.Table.{AskListed, CommitMissing, CommitRenamed, CommitSuperseded, CommitThere, DeleteSuperseded, DeleteThere, DeleteWritten, FetchGone, FetchRead, FetchSpoiled, Found, HandlesAsk, HandlesCommit, HandlesDelete, HandlesFetch, HandlesPutFrag, HandlesRemove, Handling, IsHandled, PutFragFull, PutFragSpoiled, PutFragStored, PutFragSuperseded, PutFragThere, RemoveDropped, RemoveKept, RemoveMissing, durable_text, plain_text, tombstone_text}
use Rattle.sw_message.specs.declared.message.Msg.{Msg}
use Rattle.sw_message.specs.declared.message.Msg.TheVariants as message
use Rattle.sw_message.specs.declared.reply.Reply.TheVariants as reply
use Rattle.sw_objsrv.specs.Handling.{IsStamped}
use Rattle.sw_objsrv.proofs.RowForms.{archive_name}
use Rattle.sw_law_scene.specs.Scene.{Scene}
use Rattle.sw_law_scene.proofs.Changed.{Keeps, removals-keep}
use Rattle.sw_law_owed.specs.Decided.{IsEntryBy, IsFloorBy, IsListingBy, IsMessageBy, IsNameBy, IsReplyBy, WasDeleted, WasPut}
use Rattle.sw_law_owed.proofs.Named.{AreNamed, IsNamed, made_named}

module _ (scene : Scene) (by : ℕ) (place : PlaceModel) where
  -- a name of the place is by the step
  abbrev pub Holds : FileName → Type 0
  Holds = IsNameBy scene place by

  abbrev KeepsNames : Change → Type 0
  KeepsNames = Keeps (IsNamed Holds)

  -- the changes keep that, and the reply is by the step
  abbrev pub IsFine : Handling → Type 0
  IsFine handling = All KeepsNames handling.changes × IsReplyBy scene place by handling.reply

  module _ (files : List File) (named : AreNamed Holds files) (room : ℕ) (found : Found) (is : IsFound files room found) (handling : Handling) where
    of_other : (other : Handling) → handling ≡ other → IsFine other → IsFine handling
    of_other other same fine = subst IsFine (sym same) fine

    -- it changes nothing
    quiet : (other : Handling) → handling ≡ other → other.changes ≡ [] → IsReplyBy scene place by other.reply → IsFine handling
    quiet other same still shown = of_other other same (subst (All KeepsNames) (sym still) (All-nil KeepsNames), shown)

    -- it makes one change, and removes names
    makes : (other : Handling) (change : Change) (gone : List (List ℕ)) → handling ≡ other → other.changes ≡ change ∷ map Remove gone → KeepsNames change → IsReplyBy scene place by other.reply → IsFine handling
    makes other change gone same made keeps shown =
        of_other other same (subst (All KeepsNames) (sym made) (All-cons KeepsNames change (map Remove gone) keeps (removals-keep (IsNamed Holds) gone)), shown)

    -- ---- what is shown

    -- a name that was found is by the step
    there : (name : FileName) → Contains found.names name → Holds name
    there name has = let spelt = (is.directory name).0 has in named name spelt.0 spelt.1

    -- so is a floor
    floor_by : (stamp : ℕ) (k : FloorKind) → HasFloorAt found.names stamp k → IsFloorBy scene place by stamp k
    floor_by stamp kind.Durable has = there (Data stamp has.0 true) has.1
    floor_by stamp kind.Tombstone has = there (Tombstone stamp) has

    refused : (floor : Floor) → IsFloor found.names (Some floor) → IsReplyBy scene place by (reply.Superseded floor)
    refused floor has = floor_by floor.stamp floor.kind has.0

    -- and a listing
    listed : (listing : ListingModel) → IsListingOf found.names listing → IsListingBy scene place by listing
    listed listing lists = record {
      entries = λ entry has. there (Data entry.stamp entry.index entry.durable) (entry_there found.names entry.stamp entry.index entry.durable ((lists.entries entry).0 has));
      tombstones = λ stamp has. there (Tombstone stamp) ((lists.tombstones stamp).0 has);
    }

    -- ---- the rows

    -- an archive is stored
    put_row : (stamp index : ℕ) (bytes : List ℕ) → WasPut scene place stamp by → HandlesPutFrag scene.cluster place stamp index bytes found handling → IsFine handling
    put_row stamp index bytes put (PutFragSpoiled spoil spoils same) = quiet _ same refl tt
    put_row stamp index bytes put (PutFragSuperseded archive floor covered same) = quiet _ same refl (refused floor covered.0)
    put_row stamp index bytes put (PutFragThere archive uncovered durable has same) = quiet _ same refl tt
    put_row stamp index bytes put (PutFragFull archive uncovered lacks full same) = quiet _ same refl tt
    put_row stamp index bytes put (PutFragStored archive uncovered lacks fits same) =
        makes _ (new_file (plain_text stamp index) bytes) [] same refl
        (made_named Holds (Data stamp index false) (archive_name scene.cluster place stamp index bytes archive) (record { put = put; decided = λ durable. absurd (cc) })) tt

    -- an archive becomes durable
    commit_row : (primary : Bool) (stamp index : ℕ) → IsEntryBy scene place stamp true by → HandlesCommit primary place stamp index found handling → IsFine handling
    commit_row primary stamp index entry (CommitThere durable same) = quiet _ same refl tt
    commit_row primary stamp index entry (CommitRenamed plain obsolete purged same) =
        makes _ (Rename (plain_text stamp index) (durable_text stamp index)) obsolete same refl
        (λ file named was. made_named Holds (Data stamp index true) ((is.directory (Data stamp index false)).0 plain.0).0 entry) tt
    commit_row primary stamp index entry (CommitSuperseded lacks floor covered same) = quiet _ same refl (refused floor covered.0)
    commit_row primary stamp index entry (CommitMissing lacks uncovered same) = quiet _ same refl tt

    -- a tombstone is written
    delete_row : (primary : Bool) (stamp : ℕ) → stamp ≤ greatest_stamp → WasDeleted scene place stamp by → HandlesDelete primary place stamp found handling → IsFine handling
    delete_row primary stamp stamped deleted (DeleteSuperseded floor refuses same) = quiet _ same refl (refused floor refuses.0)
    delete_row primary stamp stamped deleted (DeleteThere allows existed tells has same) = quiet _ same refl tt
    delete_row primary stamp stamped deleted (DeleteWritten allows existed tells lacks obsolete purged same) =
        makes _ (new_file (tombstone_text stamp) []) obsolete same refl (made_named Holds (Tombstone stamp) stamped deleted) tt

    -- the folder is listed
    ask_row : HandlesAsk place found handling → IsFine handling
    ask_row (AskListed listing lists same) = quiet _ same refl (listed listing lists)

    -- an archive is read
    fetch_row : (stamp index : ℕ) → HandlesFetch scene.cluster place stamp index found handling → IsFine handling
    fetch_row stamp index (FetchGone lacks listing lists same) = quiet _ same refl (listed listing lists)
    fetch_row stamp index (FetchRead durable has archive same) = quiet _ same refl tt
    fetch_row stamp index (FetchSpoiled durable has spoil spoils same) = quiet _ same refl tt

    -- an archive goes from a handoff
    remove_row : (primary : Bool) (stamp index : ℕ) → HandlesRemove primary place stamp index found handling → IsFine handling
    remove_row primary stamp index (RemoveKept kept same) = quiet _ same refl tt
    remove_row primary stamp index (RemoveMissing handoff lacks same) = quiet _ same refl tt
    remove_row primary stamp index (RemoveDropped handoff durable has same) = makes _ (Remove (file_name_text (Data stamp index durable))) [] same refl tt tt

-- ---- the table

module _ (scene : Scene) (by : ℕ) (folders : Folders) (room : ℕ) (found : Found) (handling : Handling) where
  -- what the row of a message about a place does
  abbrev pub FineAt : Option PlaceModel → Type 0
  FineAt None = ⊤
  FineAt (Some place) = AreNamed (Holds scene by place) (folders (folder_of place)) → IsFound (folders (folder_of place)) room found → IsFine scene by place handling

  -- each row does its part
  pub handled_fine : (device : ℕ) (msg : Msg) → IsStamped msg → IsMessageBy scene by msg → IsHandled scene.cluster device found msg handling → FineAt (place_in msg)
  handled_fine device (message.PutFrag place stamp index bytes) stamped may row = λ named is. put_row scene by place (folders (folder_of place)) named room found is handling stamp index bytes may row
  handled_fine device (message.Commit place stamp index) stamped may row = λ named is.
      commit_row scene by place (folders (folder_of place)) named room found is handling (is_primary scene.cluster device place) stamp index may row
  handled_fine device (message.Delete place stamp) stamped may row = λ named is.
      delete_row scene by place (folders (folder_of place)) named room found is handling (is_primary scene.cluster device place) stamp stamped may row
  handled_fine device (message.Ask place) stamped may row = λ named is. ask_row scene by place (folders (folder_of place)) named room found is handling row
  handled_fine device (message.Fetch place stamp index) stamped may row = λ named is. fetch_row scene by place (folders (folder_of place)) named room found is handling stamp index row
  handled_fine device (message.Remove place stamp index) stamped may row = λ named is.
      remove_row scene by place (folders (folder_of place)) named room found is handling (is_primary scene.cluster device place) stamp index row
  handled_fine device message.Parts stamped may row = tt
  handled_fine device (message.Suffixes part) stamped may row = tt
  handled_fine device (message.Places part) stamped may row = tt
