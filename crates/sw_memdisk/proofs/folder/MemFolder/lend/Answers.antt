use Rattle.std.proofs.Common.{◌≡◌, ◌+◌, ◌-◌, ◌<◌, ℕ, List, [], ◌∷◌, drop, sym, ap, subst, ◌∙◌, arith}
use Rattle.std.proofs.Math.ListN.{drop_of_length-le}
use Rattle.std.proofs.lemmas.List.{length-map}
use Rattle.sw_disk.specs.Folder.{Content, File}
use Rattle.sw_memdisk.specs.Held.{content_number, file_of, files_in}
use Rattle.sw_memdisk.specs.Lent.{LendsFiles}
use Rattle.sw_memdisk.specs.declared.held.Held.{Held}
use Rattle.sw_memdisk.specs.declared.held.MemContent.{MemContent}
use Rattle.sw_memdisk.proofs.Lending.{from_place, none_lent, one_more}
use Rattle.sw_memdisk.proofs.Readings.{content_number_is, files_inside, files_now_are, inside_at}
use Rattle.sw_memdisk.proofs.folder.MemFolder.lend.Goals as goal
use Rattle.sw_memdisk.proofs.folder.MemFolder.lend.Goals.{After-index-held}

pub files-init : goal.files-init
files-init c =
    let files = files_in c.self.inside.contents.items c.self.inside.files.items in
    let none : drop c.len-place.result files ≡ [] = drop_of_length-le files {i = c.len-place.result} (omega (arith, length-map c.self.inside.files.items (file_of c.self.inside.contents.items), c.len-place.ensures, c.self.inside.files.ok.0)) in
    record {
      within = omega (arith, c.len-place.ensures);
      lends = subst (λ (left : List File). LendsFiles left c.new-lent.result) (sym none) (none_lent c.new-lent.result c.new-lent.ensures.empty);
    }

pub index-held-requires : goal.index-held-requires
index-held-requires c = omega (arith, c.files.invariant.within, c.files-test.true)

-- the file at the place has one of the contents
inside : (c : After-index-held) → c.index-held.result.now.content < c.self.inside.contents.len
inside c =
    let all = files_inside c.self.inside c.self.invariant c.args.self.now.log (ap (λ m. m.log) c.self.view_is) in
    subst (λ (held : Held). held.content < c.self.inside.contents.len) (sym c.index-held.ensures)
    (inside_at c.self.inside.contents.len c.self.inside.files.items (c.files.place - 1) c.index-held.result.now all (omega (arith, c.files.invariant.within, c.files-test.true, c.self.inside.files.ok.0)))

pub index-requires : goal.index-requires
index-requires c = inside (goal.at.index-requires c).After-index-held

pub files-preserved : goal.files-preserved
files-preserved c =
    let after = (goal.at.files-preserved c).After-index-held in
    let contents = c.self.inside.contents.items in
    let files = files_in contents c.self.inside.files.items in
    let held = c.index-held.result.now in
    let next : c.files.place - 1 + 1 ≡ c.files.place = omega (arith, c.files-test.true) in
    let first = from_place contents c.self.inside.files.items (c.files.place - 1) held (omega (arith, c.files.invariant.within, c.files-test.true, c.self.inside.files.ok.0)) c.index-held.ensures in
    let has : c.as_slice-bytes.result.now ≡ (content_number contents held.content).bytes =
    c.as_slice-bytes.ensures.value
    ∙ ap (λ (content : MemContent). content.bytes.items) c.index.ensures
    ∙ sym (ap (λ (content : Content). content.bytes) (content_number_is contents held.content c.index.result.now (omega (arith, inside after, c.self.inside.contents.ok.0)))) in
    record {
      within = omega (arith, c.files.invariant.within);
      lends = subst (λ (left : List File). LendsFiles left c.insert.new.self) (sym (first ∙ ap (λ (n : ℕ). file_of contents held ∷ drop n files) next))
          (one_more c.files.lent c.insert.new.self c.as_str.result c.as_slice-bytes.result (file_of contents held) (drop c.files.place files) c.as_str.ensures.value has c.in_ok-insert.ensures.updates c.files.invariant.lends);
    }

pub returns : goal.returns
returns c =
    let files = files_in c.self.inside.contents.items c.self.inside.files.items in
    let none : c.files.place ≡ 0 = omega (arith, c.files-test.false) in
    let all : drop c.files.place files ≡ files = ap (λ (n : ℕ). drop n files) none in
    subst (λ (lent : List File). LendsFiles lent c.files.lent) (all ∙ sym (files_now_are c.self.inside c.self.invariant c.args.self.now.log (ap (λ m. m.log) c.self.view_is))) c.files.invariant.lends
