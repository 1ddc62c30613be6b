-- Each message about a place has a row of the table, where it is warranted and each archive in the files is that of a put.
use Rattle.std.proofs.Common.{inl, inr, ⊎_elim, ℕ, Bool, true, false, List, [], length, Option, Some, None, refl, sym, ap, subst}
use Rattle.std.proofs.lemmas.Bool.{cases_lt}
use Rattle.sw_disk.specs.Answers.{names_of}
use Rattle.sw_disk.specs.Folder.{Content, File, content_at}
use Rattle.sw_hashpath.specs.FileName.{file_name_text}
use Rattle.sw_hashpath.specs.Place.{PlaceModel}
use Rattle.sw_hashpath.specs.declared.file_name.FileName.TheVariants.{Data, Tombstone}
use Rattle.sw_hashdir.specs.Directory.{HasEntryAt}
use Rattle.sw_archive.specs.Archive.{IsArchive}
use Rattle.sw_archive.specs.Put.{IsPut, put_fields}
use Rattle.sw_archive.proofs.Archives.{put_is_archive}
use Rattle.sw_ring.specs.Cluster.{ClusterModel}
use Rattle.sw_message.specs.Learnt.{Booked, IsSoundBook}
use Rattle.sw_message.specs.Spoil.{IsArchiveOf}
use Rattle.sw_message.specs.Step.{IsFound}
use Rattle.sw_message.specs.Table.{AskListed, CommitMissing, CommitRenamed, CommitSuperseded, CommitThere, DeleteSuperseded, DeleteThere, DeleteWritten, FetchGone, FetchRead, Found, HandlesAsk, HandlesCommit, HandlesDelete, HandlesFetch, HandlesPutFrag, HandlesRemove, Handling, PutFragFull, PutFragStored, PutFragSuperseded, PutFragThere, RemoveDropped, RemoveKept, RemoveMissing}
use Rattle.sw_message.specs.Warrant.{IsOfPut}
use Rattle.sw_diskfile.proofs.Spelt.{directory_of}
use Rattle.sw_law_possible.proofs.Listings.{listing_of}
use Rattle.sw_law_possible.proofs.Names.{among_or_not, covered_or_not, entry_or_lacks, existed_or_not, refused_or_not}
use Rattle.sw_law_possible.proofs.Purging.{purged}

-- ---- archives and folders

-- the archive of a put is that of its place, stamp and index
pub archive_of : (cluster : ClusterModel) (book : List Booked) → IsSoundBook cluster.policy book → (place : PlaceModel) (stamp index : ℕ) (bytes : List ℕ) → IsOfPut cluster book place stamp index bytes → IsArchiveOf cluster place stamp index bytes
archive_of cluster book sound place stamp index bytes is =
    let put = subst (λ (s : ℕ). IsPut cluster.policy s is.booked.name is.booked.object) is.stamp_is (sound.puts is.booked is.known) in
    let fields = put_fields cluster.policy stamp is.booked.name is.booked.object index in
    record {
      archive = fields;
      spelled = subst (λ (b : List ℕ). IsArchive b fields) (sym is.archive) (put_is_archive cluster.policy stamp is.booked.name is.booked.object index put is.index_below);
      asked = record { name = is.place_is; stamp_is = refl; index_is = refl; code = (refl, refl, refl) };
    }

-- the bytes of a file, if it is there
abbrev bytes_in : Option Content → List ℕ
bytes_in None = []
bytes_in (Some content) = content.bytes

-- each folder is found so
pub found_in : (files : List File) (room : ℕ) → (found : Found) × IsFound files room found
found_in files room =
    let directory = directory_of (names_of files) in (
      record { names = directory.0; bytes = λ name. bytes_in (content_at (file_name_text name) files); room = room },
      record { directory = directory.1; bytes = λ name content is. ap bytes_in is; room_is = refl },
    )

-- ---- rows

module _ (cluster : ClusterModel) (place : PlaceModel) (found : Found) where
  pub put_row : (stamp index : ℕ) (bytes : List ℕ) → IsArchiveOf cluster place stamp index bytes → (handling : Handling) × HandlesPutFrag cluster place stamp index bytes found handling
  put_row stamp index bytes archive = ⊎_elim
      (λ covered. (_, PutFragSuperseded archive covered.0 covered.1 refl))
      (λ uncovered. ⊎_elim
      (λ has. (_, PutFragThere archive uncovered has.0 has.1 refl))
      (λ lacks. ⊎_elim
      (λ full. (_, PutFragFull archive uncovered lacks full refl))
      (λ fits. (_, PutFragStored archive uncovered lacks fits refl))
      (cases_lt found.room (length bytes)))
      (entry_or_lacks found.names stamp index))
      (covered_or_not found.names stamp)

  commit_by : (primary : Bool) (stamp index : ℕ) (durable : Bool) → HasEntryAt found.names stamp index durable → (handling : Handling) × HandlesCommit primary place stamp index found handling
  commit_by primary stamp index true has = (_, CommitThere has refl)
  commit_by primary stamp index false has = let obsolete = purged (Data stamp index true) found.names primary in (_, CommitRenamed has obsolete.0 obsolete.1 refl)

  pub commit_row : (primary : Bool) (stamp index : ℕ) → (handling : Handling) × HandlesCommit primary place stamp index found handling
  commit_row primary stamp index = ⊎_elim
      (λ has. commit_by primary stamp index has.0 has.1)
      (λ lacks. ⊎_elim
      (λ covered. (_, CommitSuperseded lacks covered.0 covered.1 refl))
      (λ uncovered. (_, CommitMissing lacks uncovered refl))
      (covered_or_not found.names stamp))
      (entry_or_lacks found.names stamp index)

  pub delete_row : (primary : Bool) (stamp : ℕ) → (handling : Handling) × HandlesDelete primary place stamp found handling
  delete_row primary stamp =
      let existed = existed_or_not found.names in
      ⊎_elim
      (λ refused. (_, DeleteSuperseded refused.0 refused.1 refl))
      (λ allows. ⊎_elim
      (λ has. (_, DeleteThere allows existed.0 existed.1 has refl))
      (λ lacks. let obsolete = purged (Tombstone stamp) found.names primary in (_, DeleteWritten allows existed.0 existed.1 lacks obsolete.0 obsolete.1 refl))
      (among_or_not found.names (Tombstone stamp)))
      (refused_or_not found.names stamp)

  pub ask_row : (handling : Handling) × HandlesAsk place found handling
  ask_row = let listing = listing_of found.names in (_, AskListed listing.0 listing.1 refl)

  pub fetch_row : (stamp index : ℕ) → ((durable : Bool) → HasEntryAt found.names stamp index durable → IsArchiveOf cluster place stamp index (found.bytes (Data stamp index durable))) → (handling : Handling) × HandlesFetch cluster place stamp index found handling
  fetch_row stamp index archive = ⊎_elim
      (λ has. (_, FetchRead has.0 has.1 (archive has.0 has.1) refl))
      (λ lacks. let listing = listing_of found.names in (_, FetchGone lacks listing.0 listing.1 refl))
      (entry_or_lacks found.names stamp index)

  pub remove_row : (primary : Bool) (stamp index : ℕ) → (handling : Handling) × HandlesRemove primary place stamp index found handling
  remove_row true stamp index = (_, RemoveKept refl refl)
  remove_row false stamp index = ⊎_elim
      (λ has. (_, RemoveDropped refl has.0 has.1 refl))
      (λ lacks. (_, RemoveMissing refl lacks refl))
      (entry_or_lacks found.names stamp index)
