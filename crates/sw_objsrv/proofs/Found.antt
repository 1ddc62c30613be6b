-- What was found in a folder: what the disk tells of it, and else what was read; and its entries.
use Rattle.std.proofs.Common.{◌≡◌, ℕ, List, [], Option, Some, None, refl, ap, subst, ◌∙◌, Bool, true, false}
use Rattle.sw_disk.specs.Answers.{HasBytes, content_in}
use Rattle.sw_disk.specs.Folder.{Content, files_of}
use Rattle.sw_disk.specs.Runs.{IfTold}
use Rattle.sw_disk.specs.State.{State, free_of}
use Rattle.sw_hashpath.specs.FileName.{file_name_text}
use Rattle.sw_hashpath.specs.declared.file_name.FileName.{FileName}
use Rattle.sw_hashdir.specs.Directory.{HasEntry, HasEntryAt}
use Rattle.sw_hashdir.specs.declared.entry.Entry.{Entry}
use Rattle.sw_diskfile.specs.Names.{IsDirectoryOf}
use Rattle.sw_message.specs.Step.{IsFound}
use Rattle.sw_message.specs.Table.{Found}
use Rattle.sw_hashpath.specs.declared.file_name.FileName.TheVariants.{Data}
use Rattle.sw_objsrv.specs.Changing.{IsNew}

bytes_of : Option Content → List ℕ
bytes_of None = []
bytes_of (Some content) = content.bytes

-- the bytes that are told of a name, or else those that were read
pub bytes_in : Option State → List ℕ → List ℕ → FileName → List ℕ
bytes_in None folder read name = read
bytes_in (Some state) folder read name = bytes_of (content_in state folder (file_name_text name))

-- how many are told to be free, or else so many
pub room_in : Option State → ℕ → ℕ
room_in None room = room
room_in (Some state) room = free_of state

abbrev pub found_in : Option State → List ℕ → List FileName → List ℕ → ℕ → Found
found_in told folder names read room = record { names = names; bytes = bytes_in told folder read; room = room_in told room }

bytes_there : (content : Option Content) (c : Content) → content ≡ Some c → bytes_of content ≡ c.bytes
unfolding bytes_of
bytes_there None c is = absurd (cc)
bytes_there (Some other) c is = let same : other ≡ c = cc in ap (λ (d : Content). d.bytes) same

pub is_found : (told : Option State) (folder : List ℕ) (names : List FileName) (read : List ℕ) (room : ℕ) → IfTold told (λ state. IsDirectoryOf (state.folder folder) names)
    → IfTold told (λ state. IsFound (files_of (state.folder folder)) (free_of state) (found_in told folder names read room))
unfolding bytes_in room_in
is_found None folder names read room directory = tt
is_found (Some state) folder names read room directory = record {
  directory = directory;
  bytes = λ name content is. bytes_there (content_in state folder (file_name_text name)) content is;
  room_is = refl;
}

-- the bytes of a file that was read
pub read_is : (told : Option State) (folder : List ℕ) (read : List ℕ) (name : FileName) → IfTold told (λ state. HasBytes state folder (file_name_text name) read) → bytes_in told folder read name ≡ read
unfolding bytes_in
read_is None folder read name has = refl
read_is (Some state) folder read name has = bytes_there (content_in state folder (file_name_text name)) has.content has.there ∙ has.bytes_are

-- a fact of the room
pub room_at : (P : ℕ → Type 0) (told : Option State) (room : ℕ) → P room → IfTold told (λ state. P (free_of state)) → P (room_in told room)
unfolding room_in
room_at P None room else is = else
room_at P (Some state) room else is = is

-- an entry that was found by its stamp and index
pub entry_at : (names : List FileName) (entry : Entry) (stamp index : ℕ) → (entry.stamp ≡ stamp) × (entry.index ≡ index) × HasEntry names entry → HasEntryAt names stamp index entry.durable
entry_at names entry stamp index found =
    subst (λ i. HasEntryAt names stamp i entry.durable) found.1 (subst (λ s. HasEntryAt names s entry.index entry.durable) found.0 found.2)

-- the plain name is there, and the durable one that is made is not
pub plain_there : (names : List FileName) (stamp index : ℕ) (durable : Bool) → IsNew names (Data stamp index durable) → HasEntryAt names stamp index false
plain_there names stamp index true new = new
plain_there names stamp index false new = absurd new
