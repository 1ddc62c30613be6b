-- What a row of a node's table leaves of a folder in order: after some first part of its changes, and at its end.
use Rattle.std.proofs.Common.{◌≡◌, ◌⊎◌, inl, inr, ⊎_elim, ℕ, ◌≤◌, Bool, true, false, true≢false, Contains, List, [], ◌∷◌, ◌++◌, length, map, Option, None, Some, refl, sym, ap, subst, ◌∙◌, arith}
use Rattle.sw_types.specs.Stamp.{greatest_stamp}
use Rattle.sw_disk.specs.Answers.{names_of}
use Rattle.sw_disk.specs.Calls.{Call}
use Rattle.sw_disk.specs.Folder.{Change, File, Folder, Remove, Rename, all_changed, changed, files_of}
use Rattle.sw_hashpath.specs.FileName.{IsFileName, file_name_text}
use Rattle.sw_hashpath.specs.Place.{PlaceModel, folder_of}
use Rattle.sw_hashpath.specs.declared.file_name.FileName.{FileName}
use Rattle.sw_hashpath.specs.declared.file_name.FileName.TheVariants.{Data, Tombstone}
use Rattle.sw_hashdir.specs.Directory.{HasFloorAt, IsDirectory, IsFloor}
use Rattle.sw_hashdir.proofs.Laws.{entry_there, twin_more}
use Rattle.sw_hashdir.specs.Obsolete.{IsAfter, IsObsolete}
use Rattle.sw_hashdir.specs.declared.floor.Floor.{Floor}
use Rattle.sw_hashdir.specs.declared.floor.FloorKind.{FloorKind}
use Rattle.sw_hashdir.specs.declared.floor.FloorKind.TheVariants as kind
use Rattle.sw_diskfile.specs.Calls.{commit_calls, drop_calls, purge_calls, store_calls}
use Rattle.sw_diskfile.specs.Changes.{IsFirstPart, new_file}
use Rattle.sw_diskfile.specs.Normal.{AreObsolete, IsNormalForm}
use Rattle.sw_diskfile.proofs.Directories.{durable_directory, has_content, made_directory, removed_texts}
use Rattle.sw_diskfile.proofs.Lists.{Contains-cases, Contains-first, Contains-later}
use Rattle.sw_diskfile.proofs.Removals.{directory_left}
use Rattle.sw_ring.specs.Cluster.{ClusterModel}
use Rattle.sw_archive.proofs.Archives.{code_bounds}
use Rattle.sw_message.specs.Message.{is_primary, place_in}
use Rattle.sw_message.specs.Spoil.{IsArchiveOf}
use Rattle.sw_message.specs.Step.{IsFound}
use Rattle.sw_message.specs.Table.{Allows, ArePurged, AskListed, CommitMissing, CommitRenamed, CommitSuperseded, CommitThere, DeleteSuperseded, DeleteThere, DeleteWritten, FetchGone, FetchRead, FetchSpoiled, Found, HandlesAsk, HandlesCommit, HandlesDelete, HandlesFetch, HandlesPutFrag, HandlesRemove, Handling, IsHandled, IsUncovered, LacksEntry, PutFragFull, PutFragSpoiled, PutFragStored, PutFragSuperseded, PutFragThere, RemoveDropped, RemoveKept, RemoveMissing, answers_after, durable_text, plain_text, read_calls, tombstone_text}
use Rattle.sw_message.specs.declared.message.Msg.{Msg}
use Rattle.sw_message.specs.declared.message.Msg.TheVariants as message
use Rattle.sw_message.specs.declared.reply.Reply.{Reply}
use Rattle.sw_message.specs.declared.reply.Reply.TheVariants.{Committed, Deleted, Fragment, Gone, Held, Kept, Missing, NoSpace, Removed, Spoiled, Superseded, Synced}
use Rattle.sw_objsrv.specs.Folder.{IsInOrder}
use Rattle.sw_objsrv.specs.Handling.{IsStamped}
use Rattle.sw_objsrv.proofs.MadeFiles.{StaysMade, committed_stays, none_gone, tombstone_stays}
use Rattle.sw_objsrv.proofs.Purging.{ArePurging, IsTidy, in_order_tidy, purged_files, purged_parts, tidy_by, tidy_names}

-- ---- the names that a row leaves

-- an entry that is stored where no floor stands above it and it is not there makes no name obsolete
module _ (stamp index : ℕ) (names after : List FileName) (is_after : IsAfter (Data stamp index false) names after) where
  still : (name : FileName) → Contains names name → Contains after name
  still name has = (is_after name).1 (inr (has, λ replaced. replaced))

  durable_before : (s i : ℕ) → Contains after (Data s i true) → Contains names (Data s i true)
  durable_before s i has = ⊎_elim (λ made. absurd (cc)) (λ before. before.0) ((is_after (Data s i true)).0 has)

  floor_before : (s : ℕ) (k : FloorKind) → HasFloorAt after s k → HasFloorAt names s k
  floor_before s kind.Durable has = (has.0, durable_before s has.0 has.1)
  floor_before s kind.Tombstone has = ⊎_elim (λ made. absurd (cc)) (λ before. before.0) ((is_after (Tombstone s)).0 has)

  floor_after : (s : ℕ) (k : FloorKind) → HasFloorAt names s k → HasFloorAt after s k
  floor_after s kind.Durable has = (has.0, still (Data s has.0 true) has.1)
  floor_after s kind.Tombstone has = still (Tombstone s) has

  is_floor_before : (floor : Floor) → IsFloor after (Some floor) → IsFloor names (Some floor)
  is_floor_before floor is = (floor_before floor.stamp floor.kind is.0, λ other has. is.1 other (floor_after other.stamp other.kind has))

  -- so the floor stays
  pub stored_floor : (floor : Option Floor) → IsFloor names floor → IsFloor after floor
  stored_floor None is = λ other has. is other (floor_before other.stamp other.kind has)
  stored_floor (Some floor) is = (floor_after floor.stamp floor.kind is.0, λ other has. is.1 other (floor_before other.stamp other.kind has))

  pub stored_none : (primary : Bool) → LacksEntry names stamp index → IsUncovered names stamp → ((name : FileName) → IsObsolete primary names name → ⊥) → (name : FileName) → IsObsolete primary after name → ⊥
  stored_none primary lacks uncovered none name obsolete = ⊎_elim
      (λ here. made (subst (IsObsolete primary after) here obsolete))
      (λ before. none name (
        before.0,
        ⊎_elim (λ twin. inl (twin_more names after durable_before name twin)) (λ below. inr (below.0, (below.1.0, is_floor_before below.1.0 below.1.1, below.1.2))) obsolete.1,
      ))
      ((is_after name).0 obsolete.0)
    where
      made : IsObsolete primary after (Data stamp index false) → ⊥
      made is = ⊎_elim
          (λ twin. lacks true (durable_before stamp index twin))
          (λ below. uncovered below.1.0 (is_floor_before below.1.0 below.1.1, ⊎_elim (λ less. inl less) (λ level. inr (sym level.0, level.1)) below.1.2))
          is.1

pub with_made : (stamp index : ℕ) (names : List FileName) → IsAfter (Data stamp index false) names (Data stamp index false ∷ names)
with_made stamp index names name = (
  λ has. ⊎_elim (λ here. inl (sym here)) (λ before. inr (before, λ replaced. replaced)) (Contains-cases (Data stamp index false) names name has),
  λ either. ⊎_elim
      (λ here. subst (Contains (Data stamp index false ∷ names)) (sym here) (Contains-first (Data stamp index false) names))
      (λ before. Contains-later (Data stamp index false) names name before.0)
      either,
)

-- ---- the change that a row begins with, and what it makes obsolete

module _ (primary : Bool) (files : List File) (names : List FileName) (directory : IsDirectory (names_of files) names) where
  -- an archive that is stored
  stored : (stamp index : ℕ) (bytes : List ℕ) → IsFileName (Data stamp index false) → LacksEntry names stamp index → IsUncovered names stamp → ((name : FileName) → IsObsolete primary names name → ⊥)
      → AreObsolete primary (names_of (changed (new_file (plain_text stamp index) bytes) files)) []
  stored stamp index bytes is_name lacks uncovered none =
      let made = Data stamp index false in
      let file : File = record { name = plain_text stamp index; content = record { bytes = bytes; synced = true } } in
      tidy_by primary (files ++ file ∷ []) (made ∷ names) (made_directory files file made names (made ∷ names) directory is_name refl (λ other replaced. replaced) (with_made stamp index names))
      (stored_none stamp index names (made ∷ names) (with_made stamp index names) primary lacks uncovered none)

  -- one that becomes durable
  committed : (stamp index : ℕ) (obsolete : List (List ℕ)) → Contains names (Data stamp index false) → ArePurged primary (Data stamp index true) names obsolete
      → AreObsolete primary (names_of (changed (Rename (plain_text stamp index) (durable_text stamp index)) files)) obsolete
  committed stamp index obsolete has purged =
      let there = (directory (Data stamp index false)).0 has in
      record {
        names = purged.later;
        directory = durable_directory files stamp index names purged.later directory there.0 (has_content files (plain_text stamp index) there.1) purged.after;
        all = purged.all;
        ascend = purged.ascend;
      }

  -- a tombstone
  buried : (stamp : ℕ) (obsolete : List (List ℕ)) → stamp ≤ greatest_stamp → ArePurged primary (Tombstone stamp) names obsolete → AreObsolete primary (names_of (changed (new_file (tombstone_text stamp) []) files)) obsolete
  buried stamp obsolete is_stamp purged = record {
    names = purged.later;
    directory = made_directory files (record { name = tombstone_text stamp; content = record { bytes = []; synced = true } }) (Tombstone stamp) names purged.later directory is_stamp refl (λ other replaced. replaced) purged.after;
    all = purged.all;
    ascend = purged.ascend;
  }

  -- and neither goes as obsolete
  later_name : (made : FileName) → IsFileName made → (later : List FileName) → IsAfter made names later → (name : FileName) → Contains later name → IsFileName name
  later_name made is_made later is_after name there = ⊎_elim (λ here. subst IsFileName (sym here) is_made) (λ before. ((directory name).0 before.0).0) ((is_after name).0 there)

  durable_is_left : (stamp index : ℕ) (obsolete : List (List ℕ)) → Contains names (Data stamp index false) → ArePurged primary (Data stamp index true) names obsolete → ((name : FileName) → IsObsolete primary names name → ⊥)
      → StaysMade files (Rename (plain_text stamp index) (durable_text stamp index)) obsolete
  durable_is_left stamp index obsolete has purged none =
      let is_name = ((directory (Data stamp index false)).0 has).0 in
      committed_stays primary files names purged.later obsolete purged.all (later_name (Data stamp index true) is_name purged.later purged.after) stamp index is_name purged.after has none

  tombstone_is_left : (stamp : ℕ) (obsolete : List (List ℕ)) → stamp ≤ greatest_stamp → ArePurged primary (Tombstone stamp) names obsolete → Allows names stamp → StaysMade files (new_file (tombstone_text stamp) []) obsolete
  tombstone_is_left stamp obsolete is_stamp purged allows =
      tombstone_stays primary files names purged.later obsolete purged.all (later_name (Tombstone stamp) is_stamp purged.later purged.after)
      stamp (record { name = tombstone_text stamp; content = record { bytes = []; synced = true } }) refl is_stamp purged.after allows

  -- a name that goes at a handoff
  removed : (gone : FileName) → Contains names gone → primary ≡ false → ((name : FileName) → IsObsolete primary names name → ⊥) → AreObsolete primary (names_of (changed (Remove (file_name_text gone)) files)) []
  removed gone has handoff none =
      let left = directory_left files gone names directory ((directory gone).0 has).0 (file_name_text gone) refl in
      tidy_by primary (changed (Remove (file_name_text gone)) files) left.0 left.1 (λ name obsolete. none name (
        before left.0 left.1 name obsolete.0,
        ⊎_elim
            (λ twin. inl (twin_more names left.0 (λ stamp index. before left.0 left.1 (Data stamp index true)) name twin))
            (λ below. absurd (true≢false (sym below.0 ∙ handoff)))
            obsolete.1,
      ))
    where
      before : (rest : List FileName) → IsDirectory (names_of (changed (Remove (file_name_text gone)) files)) rest → (name : FileName) → Contains rest name → Contains names name
      before rest is_rest name there =
          let spelt = (is_rest name).0 there in
          (directory name).1 (spelt.0, ((removed_texts (file_name_text gone) files (file_name_text name)).0 spelt.1).0)

-- ---- rows

pub archive_name : (cluster : ClusterModel) (place : PlaceModel) (stamp index : ℕ) (bytes : List ℕ) → IsArchiveOf cluster place stamp index bytes → IsFileName (Data stamp index false)
archive_name cluster place stamp index bytes is =
    let archive = is.archive in
    let sound = is.spelled.sound in
    let code = code_bounds archive.k archive.m archive.segment sound.code in
    (omega (arith, sound.stamp, is.asked.stamp_is), omega (arith, sound.index, code.total, is.asked.index_is))

module _ (place : PlaceModel) (primary : Bool) (files : List File) (found : Found) (handling : Handling) (directory : IsDirectory (names_of files) found.names) (none : (name : FileName) → IsObsolete primary found.names name → ⊥) where
  abbrev folder : List ℕ
  folder = folder_of place

  changes_none : (calls : List Call) (reply : Reply) → handling ≡ answers_after folder calls [] reply → ArePurging primary files handling.changes
  changes_none calls reply is = inl (ap (λ (h : Handling). h.changes) is)

  purges : (calls : List Call) (change : Change) (obsolete : List (List ℕ)) (reply : Reply) → AreObsolete primary (names_of (changed change files)) obsolete → StaysMade files change obsolete
      → handling ≡ answers_after folder calls (change ∷ map Remove obsolete) reply → ArePurging primary files handling.changes
  purges calls change obsolete reply are stays is = inr (change, obsolete, ap (λ (h : Handling). h.changes) is, are, stays)

  put_purges : (cluster : ClusterModel) (stamp index : ℕ) (bytes : List ℕ) → HandlesPutFrag cluster place stamp index bytes found handling → ArePurging primary files handling.changes
  put_purges cluster stamp index bytes (PutFragSpoiled spoil spoils is) = changes_none [] (Spoiled spoil) is
  put_purges cluster stamp index bytes (PutFragSuperseded archive floor covered is) = changes_none [] (Superseded floor) is
  put_purges cluster stamp index bytes (PutFragThere archive free durable has is) = changes_none [] Synced is
  put_purges cluster stamp index bytes (PutFragFull archive free lacks less is) = changes_none (store_calls folder (plain_text stamp index) bytes) (NoSpace (length bytes) found.room) is
  put_purges cluster stamp index bytes (PutFragStored archive free lacks fits is) =
      purges (store_calls folder (plain_text stamp index) bytes) (new_file (plain_text stamp index) bytes) [] Synced
      (stored primary files found.names directory stamp index bytes (archive_name cluster place stamp index bytes archive) lacks free none)
      (none_gone files (new_file (plain_text stamp index) bytes)) is

  commit_purges : (stamp index : ℕ) → HandlesCommit primary place stamp index found handling → ArePurging primary files handling.changes
  commit_purges stamp index (CommitThere has is) = changes_none [] Committed is
  commit_purges stamp index (CommitRenamed plain obsolete purged is) =
      purges (commit_calls folder (plain_text stamp index) (durable_text stamp index) ++ purge_calls folder obsolete) (Rename (plain_text stamp index) (durable_text stamp index)) obsolete Committed
      (committed primary files found.names directory stamp index obsolete plain.0 purged) (durable_is_left primary files found.names directory stamp index obsolete plain.0 purged none) is
  commit_purges stamp index (CommitSuperseded lacks floor covered is) = changes_none [] (Superseded floor) is
  commit_purges stamp index (CommitMissing lacks free is) = changes_none [] Missing is

  delete_purges : (stamp : ℕ) → stamp ≤ greatest_stamp → HandlesDelete primary place stamp found handling → ArePurging primary files handling.changes
  delete_purges stamp is_stamp (DeleteSuperseded floor refuses is) = changes_none [] (Superseded floor) is
  delete_purges stamp is_stamp (DeleteThere allows existed tells has is) = changes_none [] (Deleted existed) is
  delete_purges stamp is_stamp (DeleteWritten allows existed tells lacks obsolete purged is) =
      purges (store_calls folder (tombstone_text stamp) [] ++ purge_calls folder obsolete) (new_file (tombstone_text stamp) []) obsolete (Deleted existed)
      (buried primary files found.names directory stamp obsolete is_stamp purged) (tombstone_is_left primary files found.names directory stamp obsolete is_stamp purged allows) is

  ask_purges : HandlesAsk place found handling → ArePurging primary files handling.changes
  ask_purges (AskListed listing lists is) = changes_none [] (Held listing) is

  fetch_purges : (cluster : ClusterModel) (stamp index : ℕ) → HandlesFetch cluster place stamp index found handling → ArePurging primary files handling.changes
  fetch_purges cluster stamp index (FetchGone lacks listing lists is) = changes_none [] (Gone listing) is
  fetch_purges cluster stamp index (FetchRead durable has archive is) =
      changes_none (read_calls folder (Data stamp index durable)) (Fragment (found.bytes (Data stamp index durable))) is
  fetch_purges cluster stamp index (FetchSpoiled durable has spoil spoils is) = changes_none (read_calls folder (Data stamp index durable)) (Spoiled spoil) is

  remove_purges : (stamp index : ℕ) → HandlesRemove primary place stamp index found handling → ArePurging primary files handling.changes
  remove_purges stamp index (RemoveKept own is) = changes_none [] Kept is
  remove_purges stamp index (RemoveMissing handoff lacks is) = changes_none [] Missing is
  remove_purges stamp index (RemoveDropped handoff durable has is) =
      let name = Data stamp index durable in
      purges (drop_calls folder (file_name_text name)) (Remove (file_name_text name)) [] Removed
      (removed primary files found.names directory name (entry_there found.names stamp index durable has) handoff none) (none_gone files (Remove (file_name_text name))) is

-- ---- the table

module _ (cluster : ClusterModel) (device : ℕ) (files : List File) (found : Found) (handling : Handling) (directory : IsDirectory (names_of files) found.names) where
  abbrev at : PlaceModel → Bool
  at place = is_primary cluster device place

  moved : (here place : PlaceModel) → here ≡ place → (((name : FileName) → IsObsolete (at here) found.names name → ⊥) → ArePurging (at here) files handling.changes) → IsTidy (at place) files → ArePurging (at place) files handling.changes
  moved here place same purging =
      subst (λ (p : PlaceModel). IsTidy (at p) files → ArePurging (at p) files handling.changes) same (λ tidy. purging (tidy_names (at here) files tidy found.names directory))

  -- where nothing is obsolete a row makes no change, or one and then the removal of what that makes obsolete
  row_purges : (message : Msg) → IsStamped message → IsHandled cluster device found message handling → (place : PlaceModel) → place_in message ≡ Some place → IsTidy (at place) files → ArePurging (at place) files handling.changes
  row_purges (message.PutFrag here stamp index bytes) stamped row place is = moved here place (cc) (λ none. put_purges here (at here) files found handling directory none cluster stamp index bytes row)
  row_purges (message.Commit here stamp index) stamped row place is = moved here place (cc) (λ none. commit_purges here (at here) files found handling directory none stamp index row)
  row_purges (message.Delete here stamp) stamped row place is = moved here place (cc) (λ none. delete_purges here (at here) files found handling directory none stamp stamped row)
  row_purges (message.Ask here) stamped row place is = moved here place (cc) (λ none. ask_purges here (at here) files found handling directory none row)
  row_purges (message.Fetch here stamp index) stamped row place is = moved here place (cc) (λ none. fetch_purges here (at here) files found handling directory none cluster stamp index row)
  row_purges (message.Remove here stamp index) stamped row place is = moved here place (cc) (λ none. remove_purges here (at here) files found handling directory none stamp index row)
  row_purges message.Parts stamped row place is = absurd row
  row_purges (message.Suffixes part) stamped row place is = absurd row
  row_purges (message.Places part) stamped row place is = absurd row

module _ (cluster : ClusterModel) (device room : ℕ) (found : Found) (message : Msg) (handling : Handling) (handled : IsHandled cluster device found message handling) (stamped : IsStamped message) (place : PlaceModel) (is : place_in message ≡ Some place)
    (floor : Option Floor) (folder : Folder) (in_order : IsInOrder (is_primary cluster device place) floor folder) (is_found : IsFound (files_of folder) room found) where
  abbrev primary : Bool
  primary = is_primary cluster device place

  abbrev files : List File
  files = files_of folder

  tidy : IsTidy primary files
  tidy = in_order_tidy primary floor folder in_order

  purging : ArePurging primary files handling.changes
  purging = row_purges cluster device files found handling is_found.directory message stamped handled place is tidy

  -- after some first part of a row's changes the folder has the normal form of its start, or of its end
  pub parts : (part : List File) → IsFirstPart handling.changes files part → IsNormalForm primary part files ⊎ IsNormalForm primary part (all_changed handling.changes files)
  parts = purged_parts primary files handling.changes purging tidy

  -- and has files of these
  pub part_files : (part : List File) → IsFirstPart handling.changes files part → (file : File) → Contains part file → Contains files file ⊎ Contains (all_changed handling.changes files) file
  part_files = purged_files primary files handling.changes purging tidy
