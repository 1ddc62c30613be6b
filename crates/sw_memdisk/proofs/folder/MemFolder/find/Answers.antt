use Rattle.std.proofs.Common.{rules, ◌≡◌, ◌<◌, List, ℕ, length, option_map, Some, None, Bor, sym, ap, ◌∙◌, arith}
use Rattle.std.proofs.lemmas.Iterator.{YieldsList-from_slice}
use Rattle.std.proofs.lemmas.Iterator.Search.{find_from_yields_List}
use Rattle.std.specs.List.{find}
use Rattle.sw_disk.specs.Folder.{Content, content_at}
use Rattle.sw_memdisk.specs.Held.{content_number}
use Rattle.sw_memdisk.specs.Log.{files_now}
use Rattle.sw_memdisk.specs.declared.held.Held.{Held}
use Rattle.sw_memdisk.specs.declared.held.MemContent.{MemContent}
use Rattle.sw_memdisk.proofs.folder.MemFolder.find.Goals as goal
use Rattle.sw_memdisk.proofs.folder.MemFolder.find.Goals.{After-find}
use Rattle.sw_memdisk.proofs.Readings.{content_at_is, content_number_is, files_inside, files_now_are, held_by, inside_found}
use borrow.Author.Tests.{tests}

-- the first file of the name
found : (c : After-find) → option_map (λ (held : Bor Held). held.now) c.find.result ≡ find (held_by c.args.name.now) c.self.inside.files.items
found c = find_from_yields_List (held_by c.args.name.now) _ _ c.find.result c.find.ensures.ran (YieldsList-from_slice c.self.inside.files.items (cc)) (λ x b q k. search (rules, tests))

-- the content of the name, as contracts see it
content : (c : After-find) → content_at c.args.name.now (files_now c.args.self.now.log) ≡ option_map (λ (held : Held). content_number c.self.inside.contents.items held.content) (find (held_by c.args.name.now) c.self.inside.files.items)
content c =
    ap (content_at c.args.name.now) (files_now_are c.self.inside c.self.invariant c.args.self.now.log (ap (λ m. m.log) c.self.view_is))
    ∙ content_at_is c.self.inside.contents.items c.args.name.now c.self.inside.files.items

none : (c : After-find) → c.find.result ≡ None → content_at c.args.name.now (files_now c.args.self.now.log) ≡ None
none c e = content c ∙ ap (option_map (λ (held : Held). content_number c.self.inside.contents.items held.content)) (sym (found c) ∙ ap (option_map (λ (held : Bor Held). held.now)) e)

first : (c : After-find) (held : Bor Held) → c.find.result ≡ Some held → find (held_by c.args.name.now) c.self.inside.files.items ≡ Some held.now
first c held e = sym (found c) ∙ ap (option_map (λ (held : Bor Held). held.now)) e

within : (c : After-find) (held : Bor Held) → c.find.result ≡ Some held → held.now.content < c.self.inside.contents.len
within c held e =
    let inside = files_inside c.self.inside c.self.invariant c.args.self.now.log (ap (λ m. m.log) c.self.view_is) in
    inside_found c.self.inside.contents.len (held_by c.args.name.now) c.self.inside.files.items held.now inside (first c held e)

pub returns-in_err-held : goal.returns-in_err-held
returns-in_err-held c =
    ap (option_map (λ (bytes : Bor (List ℕ)). bytes.now)) c.from_residual.ensures
    ∙ sym (ap (option_map (λ (content : Content). content.bytes)) (none (goal.at.returns-in_err-held c).After-find c.in_err-held.was))

pub index-requires : goal.index-requires
index-requires c = within (goal.at.index-requires c).After-find c.in_ok-held.held c.in_ok-held.was

pub returns : goal.returns
returns c =
    let find = (goal.at.returns c).After-find in
    let held = c.in_ok-held.held in
    let contents = c.self.inside.contents.items in
    let inside : held.now.content < length contents = omega (arith, within find held c.in_ok-held.was, c.self.inside.contents.ok.0) in
    let there = content find ∙ ap (option_map (λ (held : Held). content_number contents held.content)) (first find held c.in_ok-held.was) in
    let bytes : c.as_slice.result.now ≡ (content_number contents held.now.content).bytes
    = c.as_slice.ensures.value ∙ ap (λ (content : MemContent). content.bytes.items) c.index.ensures ∙ sym (ap (λ (content : Content). content.bytes) (content_number_is contents held.now.content c.index.result.now inside)) in
    ap Some bytes ∙ sym (ap (option_map (λ (content : Content). content.bytes)) there)
