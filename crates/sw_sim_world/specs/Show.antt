-- What a device keeps in the folder of a name, as it is shown.
use Rattle.std.specs.Prelude.{◌≡◌, ℕ, Bool, List, [], ◌∷◌, ◌++◌, map, Some}
use denote.Bor.{Bor}
use Rattle.std.specs.BTreeMap.{BTreeMap}
use Rattle.std.specs.List.{AllZip}
use Rattle.sw_disk.specs.Answers.{names_of}
use Rattle.sw_disk.specs.Folder.{Content, File, content_at}
use Rattle.sw_memdisk.specs.Lent.{bytes_under}
use Rattle.sw_hashpath.specs.FileName.{IsFileName, file_name_text}
use Rattle.sw_hashpath.specs.declared.file_name.FileName.{FileName}
use Rattle.sw_hashpath.specs.declared.file_name.FileName.TheVariants.{Data}
use Rattle.sw_hashdir.specs.Directory.{IsDirectory}
use Rattle.sw_hashdir.specs.Listing.{IsListingOf, ListingModel}
use Rattle.sw_hashdir.specs.declared.entry.Entry.{Entry}
use Rattle.sw_archive.specs.Archive.{ArchiveModel, IsArchive}
use Rattle.sw_sim_world.specs.declared.told.ShowLine.{ShowLine}
use Rattle.sw_sim_world.specs.declared.told.ShowLine.TheVariants.{Stored, Buried, Empty}

-- an entry is shown with the payload of its archive
pub record IsShownEntry (device : ℕ) (files : List File) (entry : Entry) (line : ShowLine) : Type 0 where
  pub content : Content
  pub there : content_at (file_name_text (Data entry.stamp entry.index entry.durable)) files ≡ Some content
  pub archive : ArchiveModel
  pub is_archive : IsArchive content.bytes archive
  pub line_is : line ≡ Stored device entry archive.payload

-- where there is nothing, that is shown
abbrev pub or_empty : ℕ → List ShowLine → List ShowLine
or_empty device [] = Empty device ∷ []
or_empty device (line ∷ lines) = line ∷ lines

-- The directory that the names of these files print: its entries, ascending, and then its tombstones, obsolete ones among them.
pub record IsShown (device : ℕ) (files : List File) (shown : List ShowLine) : Type 0 where
  pub names : List FileName
  pub directory : IsDirectory (names_of files) names
  pub listing : ListingModel
  pub is_listing : IsListingOf names listing
  pub entries : List ShowLine
  pub are_entries : AllZip (IsShownEntry device files) listing.entries entries
  pub shown_is : shown ≡ or_empty device (entries ++ map (Buried device) listing.tombstones)

-- ---- files that are lent

abbrev pub Lent : Type 0
Lent = BTreeMap (Bor (List ℕ)) (Bor (List ℕ))

-- among them the name of an entry finds an archive
pub record HasArchive (lent : Lent) (entry : Entry) : Type 0 where
  pub named : IsFileName (Data entry.stamp entry.index entry.durable)
  pub bytes : List ℕ
  pub found : bytes_under (file_name_text (Data entry.stamp entry.index entry.durable)) lent ≡ Some bytes
  pub archive : ArchiveModel
  pub is_archive : IsArchive bytes archive

-- and the entry is shown with its payload
pub record IsLentEntry (device : ℕ) (lent : Lent) (entry : Entry) (line : ShowLine) : Type 0 where
  pub bytes : List ℕ
  pub found : bytes_under (file_name_text (Data entry.stamp entry.index entry.durable)) lent ≡ Some bytes
  pub archive : ArchiveModel
  pub is_archive : IsArchive bytes archive
  pub line_is : line ≡ Stored device entry archive.payload

-- the bytes are an archive of this payload
abbrev pub IsPayload : List ℕ → List ℕ → Type 0
IsPayload bytes payload = (archive : ArchiveModel) × IsArchive bytes archive × (payload ≡ archive.payload)

-- a file whose name is that of an archive is one
abbrev pub IsReadable : File → Type 0
IsReadable file = (stamp index : ℕ) (durable : Bool) → IsFileName (Data stamp index durable) → file.name ≡ file_name_text (Data stamp index durable) → (archive : ArchiveModel) × IsArchive file.content.bytes archive
