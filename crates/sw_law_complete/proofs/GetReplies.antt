-- What a device of a scene that is sure of its disk replies to a message that reads: by what is in its folder of the place.
use Rattle.std.proofs.Common.{◌≡◌, ◌⊎◌, inl, inr, ℕ, Bool, true≢false, Contains, List, Option, Some, None, refl, sym, ap, subst, ◌∙◌}
use Rattle.std.specs.Prelude.{IsSome}
use Rattle.std.specs.List.{All}
use Rattle.sw_disk.specs.Answers.{names_of}
use Rattle.sw_disk.specs.Folder.{Content, File, content_at}
use Rattle.sw_hashpath.specs.FileName.{file_name_text}
use Rattle.sw_hashpath.specs.Place.{PlaceModel, folder_of}
use Rattle.sw_hashpath.specs.declared.file_name.FileName.{FileName}
use Rattle.sw_hashpath.specs.declared.file_name.FileName.TheVariants.{Data}
use Rattle.sw_hashdir.specs.Directory.{HasEntryAt, IsDirectory}
use Rattle.sw_hashdir.proofs.Laws.{entry_there}
use Rattle.sw_hashdir.specs.Listing.{IsListingOf, ListingModel}
use Rattle.sw_diskfile.proofs.Directories.{has_content}
use Rattle.sw_archive.specs.Put.{put_archive, put_fields}
use Rattle.sw_archive.proofs.Archives.{put_is_archive}
use Rattle.sw_archive.specs.Archive.{IsArchive}
use Rattle.sw_ring.specs.Cluster.{ClusterModel}
use Rattle.sw_message.specs.Learnt.{Booked, IsSoundBook}
use Rattle.sw_message.specs.Spoil.{IsArchiveOf}
use Rattle.sw_message.specs.Step.{Folders, IsFound, IsNodeStep, IsPlaceStep}
use Rattle.sw_message.specs.Table.{AskListed, FetchGone, FetchRead, FetchSpoiled, Found, LacksEntry}
use Rattle.sw_message.specs.Transcript.{Closed, Step}
use Rattle.sw_message.specs.Warrant.{IsOfPut}
use Rattle.sw_message.specs.declared.message.Msg.{Msg}
use Rattle.sw_message.specs.declared.message.Msg.TheVariants as message
use Rattle.sw_message.specs.declared.reply.Reply.{Reply}
use Rattle.sw_message.specs.declared.reply.Reply.TheVariants as reply
use Rattle.sw_message.specs.declared.sent.Sent.{Sent}
use Rattle.sw_message.proofs.Spoils.{asked_or_spoiled}
use Rattle.sw_law_scene.specs.Filed.{IsFiled}
use Rattle.sw_law_scene.specs.Scene.{Scene, known_to}
use Rattle.sw_law_scene.proofs.Changed.{found_file}
use Rattle.sw_law_alone.proofs.Handed.{Reads}
use Rattle.sw_law_complete.specs.Complete.{HasDirectory}

-- What a reply says of the names in a folder: it lists them, or one of them is not there; and an archive in it is that of a put.
abbrev pub Says : ClusterModel → List Booked → PlaceModel → List FileName → Msg → Reply → Type 0
Says cluster book place names (message.Ask other) (reply.Held listing) = IsListingOf names listing
Says cluster book place names (message.Fetch other stamp index) (reply.Gone listing) = IsListingOf names listing × LacksEntry names stamp index
Says cluster book place names (message.Fetch other stamp index) (reply.Fragment bytes) = IsOfPut cluster book place stamp index bytes
Says cluster book place names msg other = ⊥

module _ (cluster : ClusterModel) (book : List Booked) (place : PlaceModel) (names : List FileName) where
  -- to a question it lists them
  pub held_by : (other : PlaceModel) (given : Reply) → Says cluster book place names (message.Ask other) given → (listing : ListingModel) × (given ≡ reply.Held listing) × IsListingOf names listing
  held_by other (reply.Held listing) is = (listing, refl, is)
  held_by other given none = absurd none

  -- the archive is not there, or the reply has it
  abbrev pub FetchedCases : (stamp index : ℕ) → Reply → Type 0
  FetchedCases stamp index given =
      ((listing : ListingModel) × (given ≡ reply.Gone listing) × IsListingOf names listing × LacksEntry names stamp index) ⊎ ((bytes : List ℕ) × (given ≡ reply.Fragment bytes) × IsOfPut cluster book place stamp index bytes)

  -- to a fetch it does so
  pub fetched_by : (other : PlaceModel) (stamp index : ℕ) (given : Reply) → Says cluster book place names (message.Fetch other stamp index) given → FetchedCases stamp index given
  fetched_by other stamp index (reply.Gone listing) is = inl (listing, refl, is.0, is.1)
  fetched_by other stamp index (reply.Fragment bytes) is = inr (bytes, refl, is)
  fetched_by other stamp index given none = absurd none

-- a reply says so of the folder that a device has in a scene
pub record IsTrue (scene : Scene) (place : PlaceModel) (sent : Sent) (given : Reply) : Type 0 where
  pub names : List FileName
  pub there : HasDirectory scene place sent.device names
  pub says : Says scene.cluster (known_to scene).book place names sent.msg given

-- each answer in a transcript is such a reply: none was given up
abbrev pub AreTrue : Scene → PlaceModel → List Step → Type 0
AreTrue scene place past = (sent : Sent) (answer : Option Reply) → Contains past (Closed sent answer) → (given : Reply) × (answer ≡ Some given) × IsTrue scene place sent given

-- ---- archives of puts

module _ (cluster : ClusterModel) (book : List Booked) (sound : IsSoundBook cluster.policy book) (place : PlaceModel) where
  -- the bytes of a put are its archive
  pub archive_of_put : (stamp index : ℕ) (bytes : List ℕ) → (is : IsOfPut cluster book place stamp index bytes) → IsArchive bytes (put_fields cluster.policy stamp is.booked.name is.booked.object index)
  archive_of_put stamp index bytes is =
      let put = is.booked in
      subst (λ (b : List ℕ). IsArchive b (put_fields cluster.policy stamp put.name put.object index)) (sym is.archive)
      (subst (λ (s : ℕ). IsArchive (put_archive cluster.policy s put.name put.object index) (put_fields cluster.policy s put.name put.object index)) is.stamp_is
      (put_is_archive cluster.policy put.stamp put.name put.object index (sound.puts put is.known) is.index_below))

  -- so they are the archive of that place, stamp and index
  archive_asked : (stamp index : ℕ) (bytes : List ℕ) → IsOfPut cluster book place stamp index bytes → IsArchiveOf cluster place stamp index bytes
  archive_asked stamp index bytes is = record {
    archive = put_fields cluster.policy stamp is.booked.name is.booked.object index;
    spelled = archive_of_put stamp index bytes is;
    asked = record { name = is.place_is; stamp_is = refl; index_is = refl; code = (refl, refl, refl) };
  }

  module _ (files : List File) (filed : All (IsFiled cluster book place) files) (room : ℕ) (found : Found) (is : IsFound files room found) (stamp index : ℕ) (durable : Bool) (has : HasEntryAt found.names stamp index durable) where
    by_content : (there : Option Content) → content_at (file_name_text (Data stamp index durable)) files ≡ there → IsSome there → IsOfPut cluster book place stamp index (found.bytes (Data stamp index durable))
    by_content None same some = absurd (true≢false (sym some))
    by_content (Some content) same some =
        let is_name = ((is.directory (Data stamp index durable)).0 (entry_there found.names stamp index durable has)).0 in
        let from = found_file (IsFiled cluster book place) files (file_name_text (Data stamp index durable)) content same filed in
        let read : from.0.content.bytes ≡ found.bytes (Data stamp index durable) = ap (λ (c : Content). c.bytes) from.3 ∙ sym (is.bytes (Data stamp index durable) content same) in
        subst (IsOfPut cluster book place stamp index) read (from.1 stamp index durable is_name from.2)

    -- an entry that is there is the archive of a put
    entry_of_put : IsOfPut cluster book place stamp index (found.bytes (Data stamp index durable))
    entry_of_put =
        by_content (content_at (file_name_text (Data stamp index durable)) files) refl
        (has_content files (file_name_text (Data stamp index durable)) ((is.directory (Data stamp index durable)).0 (entry_there found.names stamp index durable has)).1)

  -- ---- the step of a node

  module _ (device room : ℕ) (before after : Folders) (given : Reply) (filed : All (IsFiled cluster book place) (before (folder_of place))) where
    -- its reply says so of the names in the folder that was found
    abbrev pub SaysOfFound : Msg → Type 0
    SaysOfFound msg = (names : List FileName) × IsDirectory (names_of (before (folder_of place))) names × Says cluster book place names msg given

    asks : IsPlaceStep cluster device room (message.Ask place) place before after given → SaysOfFound (message.Ask place)
    asks step = elim step.handled [
      | AskListed listing lists is ↦
          let replied : given ≡ reply.Held listing = step.replied ∙ ap (λ handling. handling.reply) is in
          (step.found.names, step.is_found.directory, subst (Says cluster book place step.found.names (message.Ask place)) (sym replied) lists)
    ]

    fetches : (stamp index : ℕ) → IsPlaceStep cluster device room (message.Fetch place stamp index) place before after given → SaysOfFound (message.Fetch place stamp index)
    fetches stamp index step =
        let names = step.found.names in
        let Fine : Reply → Type 0 = Says cluster book place names (message.Fetch place stamp index) in (
          names,
          step.is_found.directory,
          elim step.handled [
            | FetchGone lacks listing lists is ↦
                let replied : given ≡ reply.Gone listing = step.replied ∙ ap (λ handling. handling.reply) is in
                subst Fine (sym replied) (lists, lacks)
            | FetchRead durable has archive is ↦
                let of = entry_of_put (before (folder_of place)) filed room step.found step.is_found stamp index durable has in
                let replied : given ≡ reply.Fragment (step.found.bytes (Data stamp index durable)) = step.replied ∙ ap (λ handling. handling.reply) is in
                subst Fine (sym replied) of
            | FetchSpoiled durable has spoil spoils is ↦
                let of = entry_of_put (before (folder_of place)) filed room step.found step.is_found stamp index durable has in
                absurd (asked_or_spoiled cluster place stamp index (step.found.bytes (Data stamp index durable)) spoil (archive_asked stamp index _ of) spoils)
          ],
        )

    -- a node says so of its folder of the place, to each message that reads it
    pub says_of_found : (msg : Msg) → Reads place msg → IsNodeStep cluster device room msg before after given → SaysOfFound msg
    says_of_found (message.Ask other) same step = let at = subst (λ (it : PlaceModel). IsPlaceStep cluster device room (message.Ask it) it before after given) same step in asks at
    says_of_found (message.Fetch other stamp index) same step =
        fetches stamp index (subst (λ (it : PlaceModel). IsPlaceStep cluster device room (message.Fetch it stamp index) it before after given) same step)
    says_of_found (message.PutFrag other stamp index bytes) none step = absurd none
    says_of_found (message.Commit other stamp index) none step = absurd none
    says_of_found (message.Delete other stamp) none step = absurd none
    says_of_found (message.Remove other stamp index) none step = absurd none
    says_of_found message.Parts none step = absurd none
    says_of_found (message.Suffixes part) none step = absurd none
    says_of_found (message.Places part) none step = absurd none
