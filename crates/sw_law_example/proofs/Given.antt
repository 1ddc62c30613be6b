-- An object that may be put in the small cluster, for which both disks have room: an empty one.
use Rattle.std.proofs.Common.{◌≡◌, ℕ, zero, suc, ◌+◌, ◌≤◌, true, List, [], ◌∷◌, ◌++◌, length, length-append, sum_by, None, refl, sym, subst, arith}
use Rattle.std.specs.Int.{to_be_bytes, w16, w32, w64}
use Rattle.std.specs.Str.{IsAscii, is_utf8}
use Rattle.std.proofs.lemmas.Str.{IsUtf8-from_ascii, is_utf8-from_IsUtf8}
use Rattle.std.proofs.lemmas.List.Sums.{sum_by-cons}
use Rattle.md5.specs.Md5.{md5}
use Rattle.sw_words.specs.Bytes.{IsBytes}
use Rattle.sw_types.specs.Head.{head_fault, pairs_fault}
use Rattle.sw_types.specs.Name.{NameModel, name_fault, path_of}
use Rattle.sw_types.specs.Object.{ObjectModel, object_of}
use Rattle.sw_hashpath.proofs.Digests.{IsHash-md5}
use Rattle.sw_archive.specs.Archive.{checked, header_of}
use Rattle.sw_archive.specs.Header.{HeaderModel, opening}
use Rattle.sw_archive.specs.Parts.{head_bytes}
use Rattle.sw_archive.specs.Put.{IsPut, put_archive, put_fields}
use Rattle.sw_message.specs.Step.{Folders}
use Rattle.sw_law_scene.specs.Devices.{IsFree, capacity_of, no_folders, size_of}
use Rattle.sw_law_scene.specs.Scene.{empty_scene}
use Rattle.sw_core.specs.World.{first_clock}
use Rattle.sw_law_complete.specs.Complete.{HaveRoom}
use Rattle.sw_law_example.specs.Pair.{pair}
use Rattle.sw_law_example.proofs.Reading.{of_both}

abbrev pub some_name : NameModel
some_name = record { account = 97 ∷ []; container = 97 ∷ []; object = 97 ∷ [] }

abbrev pub some_object : ObjectModel
some_object = object_of (record { content_type = 97 ∷ []; pairs = [] }) []

is_ascii : IsAscii (97 ∷ [])
is_ascii zero = omega arith
is_ascii (suc position) = omega arith

is_text : is_utf8 (97 ∷ []) ≡ true
is_text = is_utf8-from_IsUtf8 (97 ∷ []) (IsUtf8-from_ascii (97 ∷ []) is_ascii)

no_name_fault : name_fault some_name ≡ None
no_name_fault = rw is_text refl

no_head_fault : head_fault some_object.head ≡ None
unfolding pairs_fault
no_head_fault = refl

no_bytes : IsBytes []
no_bytes position = omega arith

opening_short : (header : HeaderModel) (rest : List ℕ) → length header.magic ≡ 4 → length header.body_md5 ≡ 16 → length (opening header rest) ≡ 52 + length rest
unfolding opening
opening_short header rest magic digest =
    let back : List ℕ = to_be_bytes w16 header.path_length ++ (to_be_bytes w16 header.head_length ++ (to_be_bytes w32 header.payload_length ++ rest)) in
    let middle : List ℕ = header.body_md5 ++ back in
    let front : List ℕ = header.version ∷ header.k ∷ header.m ∷ header.index ∷ [] ++ (to_be_bytes w32 header.segment ++ (to_be_bytes w64 header.stamp ++ (to_be_bytes w64 header.body_length ++ middle))) in
    let first : length front ≡ 24 + length middle = omega arith in
    let last : length back ≡ 8 + length rest = omega arith in
    omega (arith, magic, digest, first, last, length-append header.magic front, length-append header.body_md5 back)

-- ---- room

archive_short : (index : ℕ) → length (put_archive pair.policy first_clock some_name some_object index) ≤ 100
archive_short index =
    let archive = put_fields pair.policy first_clock some_name some_object index in
    let front = checked archive in
    let rest : List ℕ = path_of some_name ++ (head_bytes some_object.head ++ archive.payload) in
    let size : length rest ≡ 10 = refl in
    omega (arith, length-append front (md5 front), (IsHash-md5 front).sixteen, opening_short (header_of archive) rest refl (IsHash-md5 []).sixteen, size)

no_sizes : (names : List (List ℕ)) → sum_by (λ name. size_of (no_folders name)) names ≡ 0
no_sizes [] = refl
no_sizes (name ∷ names) = omega (arith, sum_by-cons (λ name. size_of (no_folders name)) name names, no_sizes names)

pub may_be_put : IsPut pair.policy first_clock some_name some_object
may_be_put = record { policy_rules = refl; stamp_bound = omega arith; name_rules = no_name_fault; object_rules = record { head = no_head_fault; size = omega arith; bytes = no_bytes; body_md5 = refl } }

pub have_room : HaveRoom (empty_scene pair) first_clock some_name some_object
have_room device folders room index member sure free below =
    let same : no_folders ≡ folders = cc sure in
    let all : IsFree (capacity_of pair device) no_folders room = subst (λ (these : Folders). IsFree (capacity_of pair device) these room) (sym same) free in
    let capacity = of_both (λ (one : ℕ). capacity_of pair one ≡ 1073741824) refl refl device member in
    omega (arith, archive_short index, all.room_is, no_sizes all.names, capacity)
