-- The files of a folder are lent one after the other, the last of them first.
use Rattle.std.proofs.Common.{◌≡◌, ℕ, zero, suc, ◌+◌, ◌<◌, true, false, cond, List, [], ◌∷◌, length, drop, get_or, Bor, BTreeMap, Some, find, option_map, sym, ap, ◌∙◌, arith}
use Rattle.std.specs.BTreeMap.{UpdatesBy, get_by, is_at}
use Rattle.std.specs.Cmp.Lexicographic.{slice_cmp}
use Rattle.std.specs.Map.{lookup}
use Rattle.std.specs.Ordering.{nat_cmp}
use Rattle.std.specs.declared.cmp.Ordering.{Ordering}
use Rattle.std.proofs.lemmas.Map.Text.{btree_map_updates_str}
use Rattle.sw_disk.specs.Folder.{File, content_of, named, same_name}
use Rattle.sw_memdisk.specs.Held.{file_of, files_in}
use Rattle.sw_memdisk.specs.Lent.{LendsFiles}
use Rattle.sw_memdisk.specs.declared.held.Held.{Held}
use Rattle.sw_memdisk.specs.declared.held.MemContent.{MemContent}

abbrev Lent : Type 0
Lent = BTreeMap (Bor (List ℕ)) (Bor (List ℕ))

-- what stands under a name
abbrev under : List ℕ → Bor (List ℕ) → Ordering
under name key = slice_cmp nat_cmp name key.now

-- where there is no file nothing is lent
pub none_lent : (lent : Lent) → lent.entries ≡ [] → LendsFiles [] lent
none_lent lent none name = ap (λ entries. option_map (λ (bytes : Bor (List ℕ)). bytes.now) (lookup (is_at (under name)) entries)) none

-- one more is, in front of the others
pub one_more : (old new : Lent) (key bytes : Bor (List ℕ)) (file : File) (files : List File) → key.now ≡ file.name → bytes.now ≡ file.content.bytes → UpdatesBy (λ (x y : Bor (List ℕ)). slice_cmp nat_cmp x.now y.now) (under key.now) old new (Some bytes)
    → LendsFiles files old → LendsFiles (file ∷ files) new
one_more old new key bytes file files is has updates lends name =
    ap (option_map (λ (one : Bor (List ℕ)). one.now)) (btree_map_updates_str key.now old new (Some bytes) updates name)
    ∙ ap (λ (text : List ℕ). option_map (λ (one : Bor (List ℕ)). one.now) (cond (same_name text name) (Some bytes) (get_by (under name) old))) is
    ∙ elim (same_name file.name name) as (λ b. option_map (λ (one : Bor (List ℕ)). one.now) (cond b (Some bytes) (get_by (under name) old)) ≡ option_map (λ content. content.bytes) (content_of (cond b (Some file) (find (named name) files)))) [
      | true ↦ ap Some has
      | false ↦ lends name
    ]

-- the files from a place on: the one there, and those behind it
pub from_place : (contents : List MemContent) (files : List Held) (place : ℕ) (held : Held) → place < length files → held ≡ get_or files place held → drop place (files_in contents files) ≡ file_of contents held ∷ drop (place + 1) (files_in contents files)
from_place contents [] place held within is = absurd (omega arith)
from_place contents (first ∷ files) zero held within is = ap (λ (one : Held). file_of contents one ∷ files_in contents files) (sym is)
from_place contents (first ∷ files) (suc place) held within is =
    let next : suc place + 1 ≡ suc (place + 1) = omega arith in
    from_place contents files place held (omega (arith, within)) is ∙ sym (ap (λ (n : ℕ). file_of contents held ∷ drop n (files_in contents (first ∷ files))) next)
