use Rattle.std.proofs.Common.{◌≡◌, ℕ, ◌+◌, ◌-◌, List, length, map, min, refl, ap, ◌∙◌, subst, arith, take}
use Rattle.std.proofs.lemmas.List.{length-map, with_items_is}
use Rattle.std.specs.Vec.{with_items}
use Rattle.sw_disk.specs.Folder.{all_changed}
use Rattle.sw_memdisk.specs.Folder.{log_of}
use Rattle.sw_memdisk.specs.Memory.{FolderModel}
use Rattle.sw_memdisk.specs.Held.{AllInside, AreInside, all_moved, change_of, content_of, files_in}
use Rattle.sw_memdisk.specs.Log.{crashed_content, crashed_file, crashed_log}
use Rattle.sw_memdisk.specs.declared.held.MemContent.{MemContent}
use Rattle.sw_memdisk.specs.declared.held.Move.{Move}
use Rattle.sw_memdisk.proofs.Keeping.{begun_anew, crashed_is}
use Rattle.sw_memdisk.proofs.folder.MemFolder.crash.Goals as goal

pub invariant_of-self : goal.invariant_of-self
invariant_of-self c =
    let f = c.self.inside in
    let base = c.apply_all.ensures.files ∙ ap (λ (moves : List Move). all_moved (take (c.len-stable.result + c.min.result) moves) f.base.items) c.deref.ensures.value in
    begun_anew f (with_items f.contents c.lose_all.new.contents) c.apply_all.new.files c.copy_files.new.files c.clear.new.self c.clear-2.new.self (c.len-stable.result + c.min.result) c.self.invariant
    refl refl base c.apply_all.ensures.capacity (c.copy_files.ensures.files ∙ c.deref-2.ensures.value) c.copy_files.ensures.capacity
    c.clear.ensures.items c.clear.ensures.capacity c.clear-2.ensures.items c.clear-2.ensures.capacity

pub returns-clause-log : goal.returns-clause-log
returns-clause-log c =
    let f = c.self.inside in
    let old = f.contents.items in
    let kept = c.len-stable.result + c.min.result in
    let contents : (with_items f.contents c.lose_all.new.contents).items ≡ c.lose_all.new.contents = with_items_is f.contents c.lose_all.new.contents (c.lose_all.auto.contents ∙ c.deref_mut.ensures.len) in
    let crashed : map content_of c.lose_all.new.contents ≡ map crashed_content (map content_of old) = c.lose_all.ensures ∙ ap (λ (cs : List MemContent). map crashed_content (map content_of cs)) c.deref_mut.ensures.value in
    let inside : AllInside (length old) f.changes.items = subst (λ n. AllInside n f.changes.items) f.contents.ok.0 c.self.invariant.changes_inside in
    let all : AreInside (length old) f.base.items = subst (λ n. AreInside n f.base.items) f.contents.ok.0 c.self.invariant.base_inside in
    let count : kept ≡ length f.stable_at.items + min c.args.pick (length (map (change_of old) f.changes.items) - length f.stable_at.items) =
    let m = length-map f.changes.items (change_of old) in
    omega (arith, m, c.min.ensures, c.len.ensures, c.len-stable.ensures, f.changes.ok.0, f.stable_at.ok.0) in
    let base : files_in (with_items f.contents c.lose_all.new.contents).items c.apply_all.new.files.items ≡ (crashed_log c.args.pick (log_of f)).base =
    ap (λ (cs : List MemContent). files_in cs c.apply_all.new.files.items) contents
    ∙ ap (files_in c.lose_all.new.contents) (c.apply_all.ensures.files ∙ ap (λ (moves : List Move). all_moved (take kept moves) f.base.items) c.deref.ensures.value)
    ∙ crashed_is old c.lose_all.new.contents kept f.changes.items f.base.items crashed inside all
    ∙ ap (λ (n : ℕ). map crashed_file (all_changed (take n (map (change_of old) f.changes.items)) (files_in old f.base.items))) count in
    let log : log_of (record f { contents = with_items f.contents c.lose_all.new.contents; base = c.apply_all.new.files; changes = c.clear.new.self; stable_at = c.clear-2.new.self }) ≡ crashed_log c.args.pick (log_of f) =
    λ i. record {
      base = base i;
      changes = map (change_of (with_items f.contents c.lose_all.new.contents).items) (c.clear.ensures.items i);
      stable_at = c.clear-2.ensures.items i;
    } in
    log ∙ ap (λ (model : FolderModel). crashed_log c.args.pick model.log) c.self.view_is
