-- What each row of a node's table does to files that are those of puts.
use Rattle.std.proofs.Common.{◌≡◌, inl, inr, ℕ, Bool, false, List, [], map, Option, Some, None, refl, sym, subst}
use Rattle.std.specs.Prelude.{⊤}
use Rattle.std.specs.List.{All}
use Rattle.std.proofs.lemmas.List.Elements.{All-cons}
use Rattle.sw_disk.specs.Folder.{File, Remove, Rename}
use Rattle.sw_hashpath.specs.FileName.{file_name_text}
use Rattle.sw_hashpath.specs.Place.{IsPlace, PlaceModel, folder_of}
use Rattle.sw_hashpath.specs.declared.file_name.FileName.TheVariants.{Data}
use Rattle.sw_diskfile.specs.Changes.{new_file}
use Rattle.sw_ring.specs.Cluster.{ClusterModel}
use Rattle.sw_message.specs.Learnt.{IsGenuine, IsSoundBook, Learnt}
use Rattle.sw_message.specs.Message.{is_primary, place_in}
use Rattle.sw_message.specs.Step.{Folders, IsFound}
use Rattle.sw_message.specs.Table.{AskListed, CommitMissing, CommitRenamed, CommitSuperseded, CommitThere, DeleteSuperseded, DeleteThere, DeleteWritten, FetchGone, FetchRead, FetchSpoiled, Found, HandlesAsk, HandlesCommit, HandlesDelete, HandlesFetch, HandlesPutFrag, HandlesRemove, Handling, IsHandled, PutFragFull, PutFragSpoiled, PutFragStored, PutFragSuperseded, PutFragThere, RemoveDropped, RemoveKept, RemoveMissing, durable_text, plain_text, tombstone_text}
use Rattle.sw_message.specs.Warrant.{IsOfPut, IsWarranted}
use Rattle.sw_message.specs.declared.message.Msg.{Msg}
use Rattle.sw_message.specs.declared.message.Msg.TheVariants as message
use Rattle.sw_law_scene.specs.Filed.{FoldersFiled, IsFiled}
use Rattle.sw_law_scene.proofs.Changed.{Keeps, removals-keep}
use Rattle.sw_law_scene.proofs.Genuine.{fetched}
use Rattle.sw_law_scene.proofs.Leaving.{Leave, archive-leaves, commit-leaves, none, tombstone-leaves}

-- Where the message is warranted, its changes leave the files so; and an archive in the reply is that of a put.
abbrev pub IsFine : ClusterModel → Learnt → PlaceModel → Type 0 → Handling → Type 0
IsFine cluster learnt place Warranted handling = (Warranted → Leave cluster learnt.book place handling.changes) × IsGenuine cluster learnt handling.reply

module _ (cluster : ClusterModel) (learnt : Learnt) (place : PlaceModel) (files : List File) (filed : All (IsFiled cluster learnt.book place) files) (room : ℕ) (found : Found) (is : IsFound files room found) (sound : IsSoundBook cluster.policy learnt.book) (handling : Handling) where
  by : (Warranted : Type 0) (other : Handling) → handling ≡ other → IsFine cluster learnt place Warranted other → IsFine cluster learnt place Warranted handling
  by Warranted other same fine = subst (IsFine cluster learnt place Warranted) (sym same) fine

  -- it changes nothing, and shows no archive
  quiet : (Warranted : Type 0) (other : Handling) → handling ≡ other → other.changes ≡ [] → IsGenuine cluster learnt other.reply → IsFine cluster learnt place Warranted handling
  quiet Warranted other same still genuine = by Warranted other same (λ warranted. subst (Leave cluster learnt.book place) (sym still) (none cluster learnt.book place), genuine)

  put-row : (stamp index : ℕ) (bytes : List ℕ) → HandlesPutFrag cluster place stamp index bytes found handling → IsFine cluster learnt place (IsOfPut cluster learnt.book place stamp index bytes) handling
  put-row stamp index bytes (PutFragSpoiled spoil spoils same) = quiet _ _ same refl tt
  put-row stamp index bytes (PutFragSuperseded archive floor covered same) = quiet _ _ same refl tt
  put-row stamp index bytes (PutFragThere archive uncovered durable has same) = quiet _ _ same refl tt
  put-row stamp index bytes (PutFragFull archive uncovered lacks full same) = quiet _ _ same refl tt
  put-row stamp index bytes (PutFragStored archive uncovered lacks fits same) =
      by _ _ same (
        λ warranted. All-cons (Keeps (IsFiled cluster learnt.book place)) (new_file (plain_text stamp index) bytes) [] (archive-leaves cluster learnt.book place sound stamp index bytes warranted)
            (none cluster learnt.book place),
        tt,
      )

  commit-row : (Warranted : Type 0) (primary : Bool) (stamp index : ℕ) → HandlesCommit primary place stamp index found handling → IsFine cluster learnt place Warranted handling
  commit-row Warranted primary stamp index (CommitThere durable same) = quiet _ _ same refl tt
  commit-row Warranted primary stamp index (CommitRenamed plain obsolete purged same) =
      by _ _ same (
        λ warranted. All-cons (Keeps (IsFiled cluster learnt.book place)) (Rename (plain_text stamp index) (durable_text stamp index)) (map Remove obsolete)
            (commit-leaves cluster learnt.book place stamp index ((is.directory (Data stamp index false)).0 plain.0).0) (removals-keep (IsFiled cluster learnt.book place) obsolete),
        tt,
      )
  commit-row Warranted primary stamp index (CommitSuperseded lacks floor covered same) = quiet _ _ same refl tt
  commit-row Warranted primary stamp index (CommitMissing lacks uncovered same) = quiet _ _ same refl tt

  delete-row : (Warranted : Type 0) (primary : Bool) (stamp : ℕ) → HandlesDelete primary place stamp found handling → IsFine cluster learnt place Warranted handling
  delete-row Warranted primary stamp (DeleteSuperseded floor refuses same) = quiet _ _ same refl tt
  delete-row Warranted primary stamp (DeleteThere allows existed was has same) = quiet _ _ same refl tt
  delete-row Warranted primary stamp (DeleteWritten allows existed was lacks obsolete purged same) =
      by _ _ same (
        λ warranted. All-cons (Keeps (IsFiled cluster learnt.book place)) (new_file (tombstone_text stamp) []) (map Remove obsolete) (tombstone-leaves cluster learnt.book place stamp)
            (removals-keep (IsFiled cluster learnt.book place) obsolete),
        tt,
      )

  ask-row : (Warranted : Type 0) → HandlesAsk place found handling → IsFine cluster learnt place Warranted handling
  ask-row Warranted (AskListed listing lists same) = quiet _ _ same refl tt

  fetch-row : (Warranted : Type 0) (stamp index : ℕ) → HandlesFetch cluster place stamp index found handling → IsFine cluster learnt place Warranted handling
  fetch-row Warranted stamp index (FetchGone lacks listing lists same) = quiet _ _ same refl tt
  fetch-row Warranted stamp index (FetchRead durable has archive same) = quiet _ _ same refl (fetched cluster learnt sound place files filed room found is stamp index durable has)
  fetch-row Warranted stamp index (FetchSpoiled durable has spoil spoils same) = quiet _ _ same refl tt

  remove-row : (Warranted : Type 0) (primary : Bool) (stamp index : ℕ) → HandlesRemove primary place stamp index found handling → IsFine cluster learnt place Warranted handling
  remove-row Warranted primary stamp index (RemoveKept kept same) = quiet _ _ same refl tt
  remove-row Warranted primary stamp index (RemoveMissing handoff lacks same) = quiet _ _ same refl tt
  remove-row Warranted primary stamp index (RemoveDropped handoff durable has same) =
      by _ _ same (
        λ warranted. All-cons (Keeps (IsFiled cluster learnt.book place)) (Remove (file_name_text (Data stamp index durable))) [] tt (none cluster learnt.book place),
        tt,
      )

-- ---- the table

abbrev pub FineAt : ClusterModel → Learnt → Folders → (room : ℕ) → Found → Type 0 → Handling → Option PlaceModel → Type 0
FineAt cluster learnt folders room found Warranted handling None = ⊤
FineAt cluster learnt folders room found Warranted handling (Some place) = IsPlace cluster.part_power place → IsFound (folders (folder_of place)) room found → IsFine cluster learnt place Warranted handling

module _ (cluster : ClusterModel) (learnt : Learnt) (sound : IsSoundBook cluster.policy learnt.book) (folders : Folders) (filed : FoldersFiled cluster learnt.book folders) (device room : ℕ) (found : Found) (handling : Handling) where
  pub handled-fine : (msg : Msg) → IsHandled cluster device found msg handling → FineAt cluster learnt folders room found (IsWarranted cluster learnt msg) handling (place_in msg)
  handled-fine (message.PutFrag place stamp index bytes) row = λ right is. put-row cluster learnt place (folders (folder_of place)) (filed place right) room found is sound handling stamp index bytes row
  handled-fine (message.Commit place stamp index) row = λ right is.
      commit-row cluster learnt place (folders (folder_of place)) (filed place right) room found is sound handling _ (is_primary cluster device place) stamp index row
  handled-fine (message.Delete place stamp) row = λ right is.
      delete-row cluster learnt place (folders (folder_of place)) (filed place right) room found is sound handling _ (is_primary cluster device place) stamp row
  handled-fine (message.Ask place) row = λ right is. ask-row cluster learnt place (folders (folder_of place)) (filed place right) room found is sound handling _ row
  handled-fine (message.Fetch place stamp index) row = λ right is. fetch-row cluster learnt place (folders (folder_of place)) (filed place right) room found is sound handling _ stamp index row
  handled-fine (message.Remove place stamp index) row = λ right is.
      remove-row cluster learnt place (folders (folder_of place)) (filed place right) room found is sound handling _ (is_primary cluster device place) stamp index row
  handled-fine message.Parts row = tt
  handled-fine (message.Suffixes part) row = tt
  handled-fine (message.Places part) row = tt
