-- An archive is written: what it tells before its payload, the payload, and the MD5.
use Rattle.std.proofs.Common.{◌≡◌, ℕ, List, [], ◌++◌, length, refl, sym, ap, ◌∙◌, append_assoc}
use Rattle.sw_types.specs.Name.{NameModel, path_of}
use Rattle.sw_types.specs.Object.{ObjectModel}
use Rattle.sw_types.specs.Policy.{PolicyModel}
use Rattle.sw_archive.specs.Archive.{ArchiveModel, checked, header_of, label_bytes, payload_length}
use Rattle.sw_archive.specs.Header.{HeaderModel, opening}
use Rattle.sw_archive.specs.Label.{header_told, labelled}
use Rattle.sw_archive.specs.Parts.{head_bytes}
use Rattle.sw_archive.specs.Put.{payload, put_fields}
use Rattle.sw_archive.specs.declared.label.Label.{Label}
use Rattle.sw_archive.proofs.Openings.{opening-append, same_header}

-- the header, the path and the head, added one after another
opened : (h : HeaderModel) (start with_header with_path with_head path head : List ℕ) → start ≡ [] → with_header ≡ start ++ opening h [] → with_path ≡ with_header ++ path
    → with_head ≡ with_path ++ head → with_head ≡ opening h (path ++ head)
opened h start with_header with_path with_head path head none header_added path_added head_added =
    let all : with_head ≡ (opening h [] ++ path) ++ head = rw (head_added, path_added, header_added, none) refl in
    all ∙ append_assoc (opening h []) path head ∙ opening-append h [] (path ++ head)

-- what stands before the payload, and the payload
pub label-payload : (archive : ArchiveModel) → label_bytes archive ++ archive.payload ≡ checked archive
label-payload archive =
    let path = path_of archive.name in
    let head = head_bytes archive.head in
    opening-append (header_of archive) (path ++ head) archive.payload ∙ ap (opening (header_of archive)) (append_assoc path head archive.payload)

header_is : (label : Label) (path_length head_length : ℕ) (payload : List ℕ) → path_length ≡ length (path_of label.name.now) → head_length ≡ length (head_bytes label.head.now)
    → length payload ≡ payload_length label.code.k label.segment label.body_length → header_told label path_length head_length ≡ header_of (labelled label payload)
header_is label path_length head_length payload path head length_is =
    same_header (header_told label path_length head_length) (header_of (labelled label payload)) refl refl refl refl refl refl refl refl refl path head (sym length_is)

pub label_opened : (label : Label) (path head start with_header with_path with_head : List ℕ) (h : HeaderModel) (path_length head_length : ℕ)
    → path ≡ path_of label.name.now → head ≡ head_bytes label.head.now → path_length ≡ length path → head_length ≡ length head → h ≡ header_told label path_length head_length
    → start ≡ [] → with_header ≡ start ++ opening h [] → with_path ≡ with_header ++ path → with_head ≡ with_path ++ head
    → (payload : List ℕ) → length payload ≡ payload_length label.code.k label.segment label.body_length → with_head ≡ label_bytes (labelled label payload)
label_opened label path head start with_header with_path with_head h path_length head_length path_is head_is path_count head_count h_is none header_added path_added head_added payload length_is =
    opened h start with_header with_path with_head path head none header_added path_added head_added
    ∙ ap (λ (x : HeaderModel). opening x (path ++ head)) (h_is ∙ header_is label path_length head_length payload (path_count ∙ ap length path_is) (head_count ∙ ap length head_is) length_is)
    ∙ ap (λ bytes. opening (header_of (labelled label payload)) (bytes ++ head)) path_is
    ∙ ap (λ bytes. opening (header_of (labelled label payload)) (path_of label.name.now ++ bytes)) head_is

-- an archive of a put is written
pub put_written : (policy : PolicyModel) (stamp : ℕ) (name : NameModel) (object : ObjectModel) (index k size : ℕ) (body label written : List ℕ)
    → k ≡ policy.k → size ≡ policy.segment → body ≡ object.body → label ≡ label_bytes (put_fields policy stamp name object index)
    → written ≡ label ++ payload k size body index → written ≡ checked (put_fields policy stamp name object index)
put_written policy stamp name object index k size body label written k_is size_is body_is opened added =
    added ∙ ap (λ (bytes : List ℕ). bytes ++ payload k size body index) opened
    ∙ ap (λ (bytes : List ℕ). label_bytes (put_fields policy stamp name object index) ++ bytes) (rw (k_is, size_is, body_is) refl)
    ∙ label-payload (put_fields policy stamp name object index)
