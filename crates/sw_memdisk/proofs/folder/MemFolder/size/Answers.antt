use Rattle.std.proofs.Common.{◌≡◌, ◌<◌, ◌+◌, ℕ, List, length, min, sum_by, take, get_or, sym, ap, subst, ◌∙◌, arith}
use Rattle.std.proofs.lemmas.List.{take_all}
use Rattle.std.proofs.lemmas.List.Sums.{sum_by_more}
use Rattle.sw_words.specs.Counts.{last_count}
use Rattle.sw_disk.specs.Folder.{Content, File}
use Rattle.sw_disk.specs.State.{size_of}
use Rattle.sw_memdisk.specs.Log.{folder_of}
use Rattle.sw_memdisk.specs.declared.held.Held.{Held}
use Rattle.sw_memdisk.specs.declared.held.MemContent.{MemContent}
use Rattle.sw_memdisk.proofs.folder.MemFolder.size.Goals as goal
use Rattle.sw_memdisk.proofs.folder.MemFolder.size.Goals.{After-held-item}
use Rattle.sw_memdisk.proofs.Readings.{content_number_is, files_inside, files_of_are, held_size, inside_at, size_is}

within : (c : After-held-item) → c.held-item.result.content < c.self.inside.contents.len
within c =
    let inside = files_inside c.self.inside c.self.invariant c.args.self.now.log (ap (λ m. m.log) c.self.view_is) in
    let items : c.deref-held-items.result.now ≡ c.self.inside.files.items = c.deref-held-items.ensures.value in
    let lt : c.loop-held.held-index < length c.self.inside.files.items = subst (λ (files : List Held). c.loop-held.held-index < length files) items c.loop-held-test.true in
    let at = inside_at c.self.inside.contents.len c.self.inside.files.items c.loop-held.held-index c.held-item.result inside lt in
    subst (λ (held : Held). held.content < c.self.inside.contents.len) (sym (c.held-item.is ∙ ap (λ (files : List Held). get_or files c.loop-held.held-index c.held-item.result) items)) at

pub index-requires : goal.index-requires
index-requires c = within (goal.at.index-requires c).After-held-item

sum_so_far : (size before len after : ℕ) → size ≡ min before last_count → after ≡ before + len → min (size + len) last_count ≡ min after last_count
sum_so_far size before len after e a = omega arith

pub loop-held-preserved : goal.loop-held-preserved
loop-held-preserved c =
    let contents = c.self.inside.contents.items in
    let held = c.held-item.result in
    let within = within (goal.at.loop-held-preserved c).After-held-item in
    let inside : held.content < length contents = subst (λ (n : ℕ). held.content < n) c.self.inside.contents.ok.0 within in
    let number = content_number_is contents held.content c.index.result.now inside in
    let bytes : held_size contents held ≡ c.len.result
    = ap (λ (content : Content). length content.bytes) number ∙ sym (ap (λ (content : MemContent). length content.bytes.items) c.index.ensures) ∙ sym c.index.result.now.bytes.ok.0 ∙ sym c.len.ensures in
    let more = sum_by_more (held_size contents) c.deref-held-items.result.now c.loop-held.held-index held c.loop-held-test.true in
    let sum = more ∙ ap (λ (held : Held). sum_by (held_size contents) (take c.loop-held.held-index c.deref-held-items.result.now) + held_size contents held) (sym c.held-item.is) ∙ ap (λ (n : ℕ). sum_by (held_size contents) (take c.loop-held.held-index c.deref-held-items.result.now) + n) bytes in
    c.saturating_add-size.ensures ∙ sum_so_far _ _ _ _ c.loop-held.invariant sum

pub returns : goal.returns
returns c =
    let whole = take_all c.loop-held.held-index c.deref-held-items.result.now c.loop-held-test.false in
    let contents = c.self.inside.contents.items in
    let files = files_of_are c.self.inside c.self.invariant c.args.self.now.log (ap (λ m. m.log) c.self.view_is) in
    let size : size_of (folder_of c.args.self.now.log) ≡ sum_by (held_size contents) c.self.inside.files.items
    = ap (sum_by (λ (file : File). length file.content.bytes)) files ∙ size_is contents c.self.inside.files.items in
    c.loop-held.invariant
    ∙ ap (λ (held : List Held). min (sum_by (held_size contents) held) last_count) (whole ∙ c.deref-held-items.ensures.value)
    ∙ ap (λ (n : ℕ). min n last_count) (sym size)
