-- What true replies of one device have in common, and the archives in them.
use Rattle.std.proofs.Common.{◌≡◌, ℕ, Bool, Contains, List, Some, refl, sym, ap, subst, ◌∙◌}
use Rattle.std.proofs.lemmas.Option.{same_Some}
use Rattle.sw_types.specs.Name.{NameModel}
use Rattle.sw_disk.specs.Answers.{names_of}
use Rattle.sw_hashpath.specs.Place.{PlaceModel, folder_of}
use Rattle.sw_hashpath.specs.declared.file_name.FileName.{FileName}
use Rattle.sw_hashpath.specs.declared.file_name.FileName.TheVariants.{Data}
use Rattle.sw_hashdir.specs.Directory.{IsDirectory}
use Rattle.sw_hashdir.proofs.Laws.{entry_there}
use Rattle.sw_hashdir.specs.Listing.{IsListingOf, ListingModel}
use Rattle.sw_diskfile.proofs.Lists.{mapped}
use Rattle.sw_diskfile.proofs.Obsoletes.{AreSame, one_directory}
use Rattle.sw_archive.specs.Archive.{ArchiveModel, IsArchive}
use Rattle.sw_archive.specs.Put.{IsPut, put_fields}
use Rattle.sw_archive.proofs.Archives.{one_archive}
use Rattle.sw_ring.specs.Cluster.{place_of_name}
use Rattle.sw_message.specs.Learnt.{Booked, IsSoundBook}
use Rattle.sw_message.specs.Step.{Folders}
use Rattle.sw_message.specs.Transcript.{Closed, Step}
use Rattle.sw_message.specs.Warrant.{IsOfPut}
use Rattle.sw_message.specs.declared.reply.Reply.{Reply}
use Rattle.sw_message.specs.declared.reply.Reply.TheVariants as reply
use Rattle.sw_message.specs.declared.sent.Sent.{Sent}
use Rattle.sw_message.specs.declared.target.Target.{Target}
use Rattle.sw_get.specs.Get as gets
use Rattle.sw_get.specs.Meaning.{IsWanted}
use Rattle.sw_law_scene.specs.Disks.{Sure}
use Rattle.sw_law_scene.specs.Scene.{Scene, StartedPut, known_to}
use Rattle.sw_law_complete.specs.Complete.{HasDirectory, HasOwnPlace}
use Rattle.sw_law_complete.proofs.GetReplies.{AreTrue, IsTrue, archive_of_put}

-- ---- the directory of a device

module _ (scene : Scene) (place : PlaceModel) (device : ℕ) where
  sure_same : (one other : Folders) → Sure one ≡ Sure other → one ≡ other
  sure_same one other same = cc

  -- a device has one directory of a place
  pub same_directory : (names others : List FileName) → HasDirectory scene place device names → HasDirectory scene place device others → AreSame names others
  same_directory names others a b =
      let same : b.folders ≡ a.folders = sure_same b.folders a.folders (sym b.sure ∙ a.sure) in
      let directory = subst (λ (folders : Folders). IsDirectory (names_of (folders (folder_of place))) others) same b.directory in
      one_directory (names_of (a.folders (folder_of place))) names others a.directory directory

-- ---- what was told

-- the get of a name in a scene
abbrev pub get_of : Scene → NameModel → gets.Begun
get_of scene name = record { cluster = scene.cluster; name = name }

module _ (scene : Scene) (name : NameModel) (past : List Step) (truly : AreTrue scene (place_of_name scene.cluster name) past) where
  abbrev get : gets.Begun
  get = get_of scene name

  abbrev place : PlaceModel
  place = gets.place_of get

  -- a reply that was told is a true one
  pub reply_true : (sent : Sent) (given : Reply) → Contains past (Closed sent (Some given)) → IsTrue scene place sent given
  reply_true sent given has = let is = truly sent (Some given) has in subst (IsTrue scene place sent) (sym (same_Some given is.0 is.1)) is.2

  -- a listing of a directory of the device
  pub record IsListedAt (device : ℕ) (listing : ListingModel) : Type 0 where
    pub names : List FileName
    pub there : HasDirectory scene place device names
    pub lists : IsListingOf names listing

  -- what a device answered to a question is such a one
  pub held_true : (ticket device : ℕ) (listing : ListingModel) → Contains past (Closed (gets.ask_message get ticket device) (Some (reply.Held listing))) → IsListedAt device listing
  held_true ticket device listing has =
      let is = reply_true (gets.ask_message get ticket device) (reply.Held listing) has in
      record { names = is.names; there = is.there; lists = is.says }

  -- an archive that is gone is none that its device lists
  pub gone_unlisted : (ticket stamp : ℕ) (source : Target) (gone listing : ListingModel) (durable : Bool) → Contains past (Closed (gets.fetch_message get ticket stamp source) (Some (reply.Gone gone))) → IsListedAt source.device listing
      → Contains listing.entries (record { stamp = stamp; index = source.index; durable = durable }) → ⊥
  gone_unlisted ticket stamp source gone listing durable has listed entry =
      let is = reply_true (gets.fetch_message get ticket stamp source) (reply.Gone gone) has in
      let there = entry_there listed.names stamp source.index durable ((listed.lists.entries (record { stamp = stamp; index = source.index; durable = durable })).0 entry) in
      is.says.1 durable ((same_directory scene place source.device listed.names is.names listed.there is.there (Data stamp source.index durable)).0 there)

-- ---- archives

module _ (scene : Scene) (name : NameModel) (sound : IsSoundBook scene.cluster.policy (known_to scene).book) (own : HasOwnPlace scene name) (stamp index : ℕ) (bytes : List ℕ)
    (is : IsOfPut scene.cluster (known_to scene).book (place_of_name scene.cluster name) stamp index bytes) where
  -- at the place of a name it is that of a put under this name
  named_so : is.booked.name ≡ name
  named_so =
      let from = mapped (λ (one : StartedPut). one.booked) scene.book is.booked is.known in
      sym (ap (λ (one : Booked). one.name) from.2) ∙ own from.0 from.1 (ap (λ (one : Booked). place_of_name scene.cluster one.name) from.2 ∙ is.place_is)

  -- with these fields
  abbrev pub archive_at : ArchiveModel
  archive_at = put_fields scene.cluster.policy stamp name is.booked.object index

  archive_there : IsArchive bytes archive_at
  archive_there =
      subst (λ (n : NameModel). IsArchive bytes (put_fields scene.cluster.policy stamp n is.booked.object index)) named_so
      (archive_of_put scene.cluster (known_to scene).book sound (place_of_name scene.cluster name) stamp index bytes is)

  -- so it is what a get of the name wants
  pub wanted_there : IsWanted (gets.wanted (get_of scene name) stamp) index bytes archive_at
  wanted_there = (archive_there, record { name = refl; stamp_is = refl; index_is = refl; code = (refl, refl, refl) })

  -- what was put may be put under this name
  pub put_there : IsPut scene.cluster.policy stamp name is.booked.object
  put_there =
      subst (λ (n : NameModel). IsPut scene.cluster.policy stamp n is.booked.object) named_so
      (subst (λ (s : ℕ). IsPut scene.cluster.policy s is.booked.name is.booked.object) is.stamp_is (sound.puts is.booked is.known))

  -- the bytes are no other archive
  pub one_there : (archive : ArchiveModel) → IsArchive bytes archive → archive ≡ archive_at
  one_there archive spelled = one_archive bytes archive archive_at spelled archive_there
