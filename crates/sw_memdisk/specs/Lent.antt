-- The files of a folder as they are lent: the bytes of each by its name.
use Rattle.std.specs.Prelude.{◌≡◌, ℕ, List, Option, option_map}
use denote.Bor.{Bor}
use Rattle.std.specs.BTreeMap.{BTreeMap, get_by}
use Rattle.std.specs.Cmp.Lexicographic.{slice_cmp}
use Rattle.std.specs.Ordering.{nat_cmp}
use Rattle.sw_disk.specs.Folder.{File, content_at}

-- the bytes that stand under a name
abbrev pub bytes_under : List ℕ → BTreeMap (Bor (List ℕ)) (Bor (List ℕ)) → Option (List ℕ)
bytes_under name lent = option_map (λ (bytes : Bor (List ℕ)). bytes.now) (get_by (λ (key : Bor (List ℕ)). slice_cmp nat_cmp name key.now) lent)

-- under each name stand those of the first file of that name
abbrev pub LendsFiles : List File → BTreeMap (Bor (List ℕ)) (Bor (List ℕ)) → Type 0
LendsFiles files lent = (name : List ℕ) → bytes_under name lent ≡ option_map (λ content. content.bytes) (content_at name files)
