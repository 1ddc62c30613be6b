-- What a reply to a message that reads shows: the listing of a disk's folder.
use Rattle.std.proofs.Common.{◌≡◌, ℕ, Bool, Contains, List, refl, sym, ap, subst, ◌∙◌}
use Rattle.sw_disk.specs.Answers.{names_of}
use Rattle.sw_disk.specs.Folder.{File}
use Rattle.sw_hashpath.specs.Place.{PlaceModel, folder_of}
use Rattle.sw_hashpath.specs.declared.file_name.FileName.{FileName}
use Rattle.sw_hashdir.specs.Directory.{IsDirectory}
use Rattle.sw_hashdir.specs.Listing.{IsListingOf, ListingModel}
use Rattle.sw_diskfile.proofs.Obsoletes.{one_directory}
use Rattle.sw_ring.specs.Cluster.{ClusterModel}
use Rattle.sw_message.specs.Step.{Folders}
use Rattle.sw_message.specs.declared.message.Msg.{Msg}
use Rattle.sw_message.specs.declared.message.Msg.TheVariants as message
use Rattle.sw_message.specs.declared.reply.Reply.{Reply}
use Rattle.sw_message.proofs.Directories.{one_listing}
use Rattle.sw_get.specs.Causes.{Shows}
use Rattle.sw_law_scene.specs.Disks.{Disk, IsFoundOn, Sure}

-- a disk is sure of its folders, and the place's folder has this listing
pub record Lists (place : PlaceModel) (disk : Disk) (listing : ListingModel) : Type 0 where
  pub folders : Folders
  pub sure : disk ≡ Sure folders
  pub names : List FileName
  pub directory : IsDirectory (names_of (folders (folder_of place))) names
  pub lists : IsListingOf names listing

-- a listing has no entry of the archive that a message fetches
abbrev pub Lacks : Msg → ListingModel → Type 0
Lacks (message.Fetch place stamp index) listing = (durable : Bool) → Contains listing.entries (record { stamp = stamp; index = index; durable = durable }) → ⊥
Lacks other listing = Unit {0}

-- a listing that a reply shows is that of the disk, without an entry of what was fetched
abbrev pub Tells : PlaceModel → Disk → Msg → Reply → Type 0
Tells place disk msg reply = (listing : ListingModel) → Shows msg reply listing → Lists place disk listing × Lacks msg listing

module _ (place : PlaceModel) where
  sure_same : (one other : Folders) → Sure one ≡ Sure other → one ≡ other
  sure_same one other same = cc

  -- a disk has one listing
  pub one_listed : (disk : Disk) (first second : ListingModel) → Lists place disk first → Lists place disk second → first ≡ second
  one_listed disk first second a b =
      let same : b.folders ≡ a.folders = sure_same b.folders a.folders (sym b.sure ∙ a.sure) in
      let directory = subst (λ (folders : Folders). IsDirectory (names_of (folders (folder_of place))) b.names) same b.directory in
      one_listing a.names b.names (one_directory (names_of (a.folders (folder_of place))) a.names b.names a.directory directory) first second a.lists b.lists

  module _ (cluster : ClusterModel) (device : ℕ) (disk : Disk) (found folders : Folders) (finds : IsFoundOn cluster device disk found) (same : folders (folder_of place) ≡ found (folder_of place)) where
    -- the listing stays where the folder does
    listed_on : (listing : ListingModel) → Lists place disk listing → Lists place (Sure folders) listing
    listed_on listing was =
        let own : found ≡ was.folders = subst (λ (it : Disk). IsFoundOn cluster device it found) was.sure finds in
        let files : folders (folder_of place) ≡ was.folders (folder_of place) = same ∙ ap (λ (these : Folders). these (folder_of place)) own in
        record {
          folders = folders;
          sure = refl;
          names = was.names;
          directory = subst (λ (these : List File). IsDirectory (names_of these) was.names) (sym files) was.directory;
          lists = was.lists;
        }

    -- and so does what a reply shows
    pub tells_on : (msg : Msg) (reply : Reply) → Tells place disk msg reply → Tells place (Sure folders) msg reply
    tells_on msg reply tells listing shows = let was = tells listing shows in (listed_on listing was.0, was.1)
