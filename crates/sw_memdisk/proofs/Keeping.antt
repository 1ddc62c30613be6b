-- What always holds of a folder in memory goes on to hold.
use Rattle.std.proofs.Common.{◌≡◌, ℕ, zero, suc, ◌+◌, ◌-◌, ◌<◌, ◌≤◌, true, false, cond, not, List, [], ◌∷◌, ◌++◌, Vec, length, map, take, vec_capacity, vec_len, refl, sym, ap, ◌∙◌, subst, arith, length-append}
use Rattle.std.proofs.lemmas.List.{length-map, length-take, take-map}
use Rattle.std.specs.declared.alloc.Global.{Global}
use Rattle.arrayvec.specs.ArrayString.{ArrayString}
use Rattle.sw_disk.specs.Folder.{Change, all_changed}
use Rattle.sw_memdisk.proofs.Contents.{files_in-crashed}
use Rattle.sw_memdisk.proofs.Files.{all_moved_is}
use Rattle.sw_memdisk.specs.Folder.{IsFolder}
use Rattle.sw_memdisk.specs.Held.{AllInside, AreInside, IsInside, all_moved, change_of, content_of, files_in, held_named, held_renamed, moved}
use Rattle.sw_memdisk.specs.Log.{crashed_content, crashed_file}
use Rattle.sw_memdisk.specs.declared.folder.MemFolder.TheInside.{Inside}
use Rattle.sw_memdisk.specs.declared.held.Held.{Held}
use Rattle.sw_memdisk.specs.declared.held.MemContent.{MemContent}
use Rattle.sw_memdisk.specs.declared.held.Move.{Move}
use Rattle.sw_memdisk.specs.declared.held.Move.TheVariants.{Publish, Rename, Remove}

-- ---- how many files there are

removed_length : (name : ArrayString) (files : List Held) → length (moved (Remove name) files) ≤ length files
removed_length name [] = omega arith
removed_length name (held ∷ files) =
    let rest = removed_length name files in
    elim (held_named name held) as (λ b. length (cond (not b) (held ∷ moved (Remove name) files) (moved (Remove name) files)) ≤ suc (length files)) [ true ↦ omega (arith, rest) | false ↦ omega (arith, rest) ]

moved_length : (move : Move) (files : List Held) → length (moved move files) ≤ length files + 1
moved_length (Publish held) files = omega (arith, length-append files (held ∷ []))
moved_length (Rename from to) files = omega (arith, length-map files (held_renamed from to))
moved_length (Remove name) files = let less = removed_length name files in omega (arith, less)

pub all_moved_length : (moves : List Move) (files : List Held) → length (all_moved moves files) ≤ length files + length moves
all_moved_length [] files = omega arith
all_moved_length (move ∷ moves) files = let one = moved_length move files in let all = all_moved_length moves (moved move files) in omega (arith, one, all)

all_moved-push : (moves : List Move) (move : Move) (files : List Held) → all_moved (moves ++ move ∷ []) files ≡ moved move (all_moved moves files)
all_moved-push [] move files = refl
all_moved-push (first ∷ moves) move files = all_moved-push moves move (moved first files)

-- ---- which contents they have

inside_more : (n m : ℕ) (files : List Held) → n ≤ m → AreInside n files → AreInside m files
inside_more n m [] le inside = tt
inside_more n m (held ∷ files) le inside = (omega (arith, le, inside.0), inside_more n m files le inside.1)

is_inside-more : (n m : ℕ) (move : Move) → n ≤ m → IsInside n move → IsInside m move
is_inside-more n m (Publish held) le inside = omega (arith, le, inside)
is_inside-more n m (Rename from to) le inside = tt
is_inside-more n m (Remove name) le inside = tt

all_inside-more : (n m : ℕ) (moves : List Move) → n ≤ m → AllInside n moves → AllInside m moves
all_inside-more n m [] le inside = tt
all_inside-more n m (move ∷ moves) le inside = (is_inside-more n m move le inside.0, all_inside-more n m moves le inside.1)

all_inside-push : (n : ℕ) (moves : List Move) (move : Move) → AllInside n moves → IsInside n move → AllInside n (moves ++ move ∷ [])
all_inside-push n [] move all inside = (inside, tt)
all_inside-push n (first ∷ moves) move all inside = (all.0, all_inside-push n moves move all.1 inside)

all_inside-take : (n count : ℕ) (moves : List Move) → AllInside n moves → AllInside n (take count moves)
all_inside-take n zero moves all = tt
all_inside-take n (suc count) [] all = tt
all_inside-take n (suc count) (move ∷ moves) all = (all.0, all_inside-take n count moves all.1)

inside-push : (n : ℕ) (files : List Held) (held : Held) → AreInside n files → held.content < n → AreInside n (files ++ held ∷ [])
inside-push n [] held all inside = (inside, tt)
inside-push n (first ∷ files) held all inside = (all.0, inside-push n files held all.1 inside)

inside-renamed : (n : ℕ) (from to : ArrayString) (files : List Held) → AreInside n files → AreInside n (map (held_renamed from to) files)
inside-renamed n from to [] all = tt
inside-renamed n from to (held ∷ files) all = (all.0, inside-renamed n from to files all.1)

inside-removed : (n : ℕ) (name : ArrayString) (files : List Held) → AreInside n files → AreInside n (moved (Remove name) files)
inside-removed n name [] all = tt
inside-removed n name (held ∷ files) all =
    let rest = inside-removed n name files all.1 in
    elim (held_named name held) as (λ b. AreInside n (cond (not b) (held ∷ moved (Remove name) files) (moved (Remove name) files))) [ true ↦ rest | false ↦ (all.0, rest) ]

inside-moved : (n : ℕ) (move : Move) (files : List Held) → IsInside n move → AreInside n files → AreInside n (moved move files)
inside-moved n (Publish held) files inside all = inside-push n files held all inside
inside-moved n (Rename from to) files inside all = inside-renamed n from to files all
inside-moved n (Remove name) files inside all = inside-removed n name files all

inside-all_moved : (n : ℕ) (moves : List Move) (files : List Held) → AllInside n moves → AreInside n files → AreInside n (all_moved moves files)
inside-all_moved n [] files inside all = all
inside-all_moved n (move ∷ moves) files inside all = inside-all_moved n moves (moved move files) inside.1 (inside-moved n move files inside.0 all)

-- after some of the changes each file has one of the contents
pub inside-kept : (n count : ℕ) (moves : List Move) (files : List Held) → AllInside n moves → AreInside n files → AreInside n (all_moved (take count moves) files)
inside-kept n count moves files inside all = inside-all_moved n (take count moves) files (all_inside-take n count moves inside) all

-- ---- a folder

-- while there is room for a change, there is room for a file
pub place_for-file : (f : Inside) → IsFolder f → 0 < f.room → vec_len f.files < vec_capacity f.files
place_for-file f is room =
    let files = ap length is.files in
    let most = all_moved_length f.changes.items f.base.items in
    omega (arith, files, most, f.files.ok.0, f.changes.ok.0, f.base.ok.0, is.room.files)

-- a change of names is noted, maybe with a content more
pub noted : (f : Inside) (contents : Vec MemContent Global) (files : Vec Held Global) (changes : Vec Move Global) (move : Move) → IsFolder f → 0 < f.room
    → vec_len f.contents ≤ vec_len contents → vec_len contents + (f.room - 1) ≤ vec_capacity contents → IsInside (vec_len contents) move
    → files.items ≡ moved move f.files.items → changes.items ≡ f.changes.items ++ move ∷ []
    → vec_capacity f.files ≤ vec_capacity files → vec_capacity f.changes ≤ vec_capacity changes
    → IsFolder (record f { contents = contents; files = files; changes = changes; room = f.room - 1 })
noted f contents files changes move is room more contents_room inside files_is changes_is files_capacity changes_capacity =
    let len : vec_len changes ≡ vec_len f.changes + 1 = let e = ap length changes_is in omega (arith, e, length-append f.changes.items (move ∷ []), changes.ok.0, f.changes.ok.0) in
    record {
      files = files_is ∙ ap (moved move) is.files ∙ sym (all_moved-push f.changes.items move f.base.items) ∙ ap (λ (moves : List Move). all_moved moves f.base.items) (sym changes_is);
      stable = omega (arith, len, is.stable);
      base_inside = inside_more (vec_len f.contents) (vec_len contents) f.base.items more is.base_inside;
      changes_inside = subst (AllInside (vec_len contents)) (sym changes_is) (all_inside-push (vec_len contents) f.changes.items move (all_inside-more (vec_len f.contents) (vec_len contents) f.changes.items more is.changes_inside) inside);
      room = record {
        changes = omega (arith, len, is.room.changes, changes_capacity, room);
        stable_at = omega (arith, len, is.room.stable_at, room);
        contents = contents_room;
        base = omega (arith, len, is.room.base, room);
        files = omega (arith, len, is.room.files, files_capacity, room);
      };
    }

-- after a crash its first files are those that some of the changes left, and these are all
pub begun_anew : (f : Inside) (contents : Vec MemContent Global) (base files : Vec Held Global) (changes : Vec Move Global) (stable_at : Vec ℕ Global) (kept : ℕ) → IsFolder f
    → vec_len contents ≡ vec_len f.contents → vec_capacity contents ≡ vec_capacity f.contents
    → base.items ≡ all_moved (take kept f.changes.items) f.base.items → vec_capacity f.base ≤ vec_capacity base
    → files.items ≡ base.items → vec_capacity f.files ≤ vec_capacity files
    → changes.items ≡ [] → vec_capacity changes ≡ vec_capacity f.changes
    → stable_at.items ≡ [] → vec_capacity stable_at ≡ vec_capacity f.stable_at
    → IsFolder (record f { contents = contents; base = base; files = files; changes = changes; stable_at = stable_at })
begun_anew f contents base files changes stable_at kept is contents_len contents_capacity base_is base_capacity files_is files_capacity changes_is changes_capacity stable_is stable_capacity =
    let no_changes : vec_len changes ≡ 0 = let e = ap length changes_is in omega (arith, e, changes.ok.0) in
    let no_stable : vec_len stable_at ≡ 0 = let e = ap length stable_is in omega (arith, e, stable_at.ok.0) in
    let base_len : vec_len base ≤ vec_len f.base + vec_len f.changes =
    let e = ap length base_is in
    let most = all_moved_length (take kept f.changes.items) f.base.items in
    let taken = length-take kept f.changes.items in
    omega (arith, e, most, taken, base.ok.0, f.base.ok.0, f.changes.ok.0) in
    let files_len : vec_len files ≡ vec_len base = let e = ap length files_is in omega (arith, e, files.ok.0, base.ok.0) in
    record {
      files = files_is ∙ ap (λ (moves : List Move). all_moved moves base.items) (sym changes_is);
      stable = omega (arith, no_stable);
      base_inside = subst (λ (n : ℕ). AreInside n base.items) (sym contents_len) (subst (AreInside (vec_len f.contents)) (sym base_is) (inside-kept (vec_len f.contents) kept f.changes.items f.base.items is.changes_inside is.base_inside));
      changes_inside = subst (AllInside (vec_len contents)) (sym changes_is) tt;
      room = record {
        changes = omega (arith, no_changes, is.room.changes, changes_capacity);
        stable_at = omega (arith, no_changes, is.room.stable_at, stable_capacity);
        contents = omega (arith, contents_len, contents_capacity, is.room.contents);
        base = omega (arith, no_changes, base_len, is.room.base, base_capacity);
        files = omega (arith, no_changes, base_len, is.room.files, files_capacity);
      };
    }

-- and they are those that contracts see after a crash
pub crashed_is : (old new : List MemContent) (kept : ℕ) (moves : List Move) (files : List Held) → map content_of new ≡ map crashed_content (map content_of old) → AllInside (length old) moves → AreInside (length old) files
    → files_in new (all_moved (take kept moves) files) ≡ map crashed_file (all_changed (take kept (map (change_of old) moves)) (files_in old files))
crashed_is old new kept moves files crashed inside all =
    files_in-crashed old new crashed (all_moved (take kept moves) files) (inside-kept (length old) kept moves files inside all)
    ∙ ap (map crashed_file) (sym (all_moved_is old (take kept moves) files) ∙ ap (λ (changes : List Change). all_changed changes (files_in old files)) (sym (take-map (change_of old) kept moves)))
