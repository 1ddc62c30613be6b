-- What a crash leaves of a folder after one change of names more.
use Rattle.std.proofs.Common.{◌≡◌, ◌⊎◌, inl, inr, ⊎_elim, ℕ, zero, suc, ◌+◌, ◌≤◌, true, List, [], ◌∷◌, ◌++◌, length, map, take, refl, sym, ◌∙◌, ap, subst, arith, length-append, Bool, false, cond, not}
use Rattle.std.proofs.lemmas.List.{take-append-le, take_all}
use Rattle.std.specs.Cmp.Lexicographic.{nat_list_eq_equiv}
use Rattle.sw_disk.specs.Folder.{Change, Rename, File, Folder, IsImage, Survive, Survives, all_changed, changed, files_of, renamed, same_name, Remove}
use Rattle.sw_disk.specs.State.{pended, settled, with_folder}

pub same_name-refl : (name : List ℕ) → same_name name name ≡ true
same_name-refl name = nat_list_eq_equiv.refl name

pub with_folder-same : (folders : List ℕ → Folder) (name : List ℕ) (folder : Folder) → with_folder folders name folder name ≡ folder
with_folder-same folders name folder = rw same_name-refl

pub all_changed-append : (cs ds : List Change) (files : List File) → all_changed (cs ++ ds) files ≡ all_changed ds (all_changed cs files)
all_changed-append [] ds files = refl
all_changed-append (c ∷ cs) ds files = all_changed-append cs ds (changed c files)

-- a file whose bytes are on the disk stays as it is
pub survives_synced : (file image : File) → Survives file image → file.content.synced ≡ true → image ≡ file
survives_synced file image s synced =
    let bytes : image.content.bytes ≡ file.content.bytes = s.bytes synced in
    let is_synced : image.content.synced ≡ file.content.synced = s.synced ∙ sym synced in
    λ i. record { name = s.name i; content = record { bytes = bytes i; synced = is_synced i } }

-- the images of files with one more at their end
pub record Pushed (files : List File) (file : File) (image : List File) : Type 0 where
  pub front : List File
  pub last : File
  pub is : image ≡ front ++ last ∷ []
  pub survive : Survive files front
  pub survives : Survives file last

pub survive-push : (files : List File) (file : File) (image : List File) → Survive (files ++ file ∷ []) image → Pushed files file image
survive-push [] file [] s = absurd s
survive-push [] file (i ∷ []) s = record { front = []; last = i; is = refl; survive = tt; survives = s.0 }
survive-push [] file (i ∷ j ∷ image) s = absurd s.1
survive-push (f ∷ files) file [] s = absurd s
survive-push (f ∷ files) file (i ∷ image) s =
    let rest = survive-push files file image s.1 in
    record { front = i ∷ rest.front; last = rest.last; is = ap (λ (l : List File). i ∷ l) rest.is; survive = (s.0, rest.survive); survives = rest.survives }

-- after a change more: what a crash left before, or all the changes
pub image-pended : (folder : Folder) (change : Change) (image : List File) → IsImage (pended folder change) image → IsImage folder image ⊎ Survive (changed change (files_of folder)) image
image-pended folder change image w = ⊎_elim (λ fewer. inl (before fewer)) (λ all. inr (last all)) (few_or_all w.kept w.within)
  where
    few_or_all : (kept : ℕ) → kept ≤ length (folder.pending ++ change ∷ []) → (kept ≤ length folder.pending) ⊎ (length folder.pending + 1 ≤ kept)
    few_or_all kept le = grind arith

    before : w.kept ≤ length folder.pending → IsImage folder image
    before fewer = record {
      kept = w.kept;
      within = fewer;
      survive = subst (λ (cs : List Change). Survive (all_changed cs folder.stable) image) (take-append-le w.kept folder.pending (change ∷ []) fewer) w.survive;
    }

    last : length folder.pending + 1 ≤ w.kept → Survive (changed change (files_of folder)) image
    last all =
        let long : length (folder.pending ++ change ∷ []) ≤ w.kept = let e = length-append folder.pending (change ∷ []) in omega (arith, e, all) in
        let whole = take_all w.kept (folder.pending ++ change ∷ []) long in
        subst (λ (fs : List File). Survive fs image) (all_changed-append folder.pending (change ∷ []) folder.stable)
        (subst (λ (cs : List Change). Survive (all_changed cs folder.stable) image) whole w.survive)

-- all the changes of a folder
pub image_of_all : (folder : Folder) (image : List File) → Survive (files_of folder) image → IsImage folder image
image_of_all folder image s = record {
  kept = length folder.pending;
  within = omega arith;
  survive = subst (λ (cs : List Change). Survive (all_changed cs folder.stable) image) (sym (take_all (length folder.pending) folder.pending (omega arith))) s;
}

pub image-settled : (folder : Folder) (image : List File) → IsImage (settled folder) image → Survive (files_of folder) image
image-settled folder image w = subst (λ (cs : List Change). Survive (all_changed cs (files_of folder)) image) (take_nil w.kept) w.survive
  where
    take_nil : (n : ℕ) → take {A = Change} n [] ≡ []
    take_nil zero = refl
    take_nil (suc n) = refl

-- an image of renamed files is that of the files, renamed
pub record Before (change : Change) (files image : List File) : Type 0 where
  pub before : List File
  pub survive : Survive files before
  pub is : image ≡ changed change before

pub survive-renamed : (from to : List ℕ) (files image : List File) → Survive (map (renamed from to) files) image → Before (Rename from to) files image
survive-renamed from to [] [] s = record { before = []; survive = tt; is = refl }
survive-renamed from to [] (i ∷ image) s = absurd s
survive-renamed from to (f ∷ files) [] s = absurd s
survive-renamed from to (f ∷ files) (i ∷ image) s =
    let rest = survive-renamed from to files image s.1 in
    let back : File = record { name = f.name; content = i.content } in
    let first : i ≡ renamed from to back = λ k. record { name = s.0.name k; content = i.content } in
    record {
      before = back ∷ rest.before;
      survive = (record { name = refl; size = s.0.size; bytes = s.0.bytes; synced = s.0.synced }, rest.survive);
      is = λ k. first k ∷ rest.is k;
    }

-- and an image of what stays after a removal is that of the files, without the removed one
module _ (name : List ℕ) (f : File) (files : List File) where
  gone : (image : List File) → same_name f.name name ≡ true → Before (Remove name) files image → Before (Remove name) (f ∷ files) image
  gone image e rest =
      let stable : File = record { name = f.name; content = record { bytes = f.content.bytes; synced = true } } in
      record {
        before = stable ∷ rest.before;
        survive = (record { name = refl; size = refl; bytes = λ _. refl; synced = refl }, rest.survive);
        is = rest.is ∙ sym (ap (λ (b : Bool). cond (not b) (stable ∷ changed (Remove name) rest.before) (changed (Remove name) rest.before)) e);
      }

  stays : (i : File) (image : List File) → same_name f.name name ≡ false → Survives f i → Before (Remove name) files image → Before (Remove name) (f ∷ files) (i ∷ image)
  stays i image e survives rest =
      let other : same_name i.name name ≡ false = ap (λ (n : List ℕ). same_name n name) survives.name ∙ e in
      record {
        before = i ∷ rest.before;
        survive = (survives, rest.survive);
        is = ap (λ (l : List File). i ∷ l) rest.is ∙ sym (ap (λ (b : Bool). cond (not b) (i ∷ changed (Remove name) rest.before) (changed (Remove name) rest.before)) other);
      }

  pick : (b : Bool) (image : List File) → same_name f.name name ≡ b → Survive (cond (not b) (f ∷ changed (Remove name) files) (changed (Remove name) files)) image
      → ((rest : List File) → Survive (changed (Remove name) files) rest → Before (Remove name) files rest) → Before (Remove name) (f ∷ files) image
  pick true image e s more = gone image e (more image s)
  pick false [] e s more = absurd s
  pick false (i ∷ image) e s more = stays i image e s.0 (more image s.1)

pub survive-removed : (name : List ℕ) (files image : List File) → Survive (changed (Remove name) files) image → Before (Remove name) files image
survive-removed name [] [] s = record { before = []; survive = tt; is = refl }
survive-removed name [] (i ∷ image) s = absurd s
survive-removed name (f ∷ files) image s = pick name f files (same_name f.name name) image refl s (λ rest t. survive-removed name files rest t)
