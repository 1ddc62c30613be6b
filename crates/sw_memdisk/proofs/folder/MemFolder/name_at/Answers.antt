use Rattle.std.proofs.Common.{◌≡◌, ◌<◌, ◌≤◌, ℕ, List, count_by, get_or, map, sym, ap, subst, ◌∙◌, arith, below_more}
use Rattle.std.proofs.lemmas.List.{get_or-map, length-map}
use Rattle.sw_disk.specs.Answers.{IsListing, names_of}
use Rattle.sw_memdisk.specs.Log.{files_now}
use Rattle.sw_memdisk.specs.declared.held.Held.{Held}
use Rattle.sw_memdisk.proofs.folder.MemFolder.name_at.Goals as goal
use Rattle.sw_memdisk.proofs.folder.MemFolder.name_at.Goals.{After-count_up_to-up_to, After-deref-held-items}
use Rattle.sw_memdisk.proofs.Ranks.{StandsAt, comes_before, comes_up_to, count_by-map, is_past, is_there}
use Rattle.sw_memdisk.proofs.Readings.{files_now_are, name_of, names_of_is}

-- the names, as contracts see them
names : (c : After-deref-held-items) → names_of (files_now c.args.self.now.log) ≡ map name_of c.deref-held-items.result.now
names c =
    ap names_of (files_now_are c.self.inside c.self.invariant c.args.self.now.log (ap (λ m. m.log) c.self.view_is))
    ∙ names_of_is c.self.inside.contents.items c.self.inside.files.items
    ∙ sym (ap (map name_of) c.deref-held-items.ensures.value)

before : (c : After-count_up_to-up_to) → c.count_before-before.result ≡ count_by (λ other. comes_before other c.as_str-name.result.now) (map name_of c.deref-held-items.result.now)
before c =
    c.count_before-before.ensures
    ∙ sym (count_by-map name_of (λ (other : List ℕ). comes_before other c.as_str-name.result.now) c.deref.result.now)
    ∙ ap (λ (files : List Held). count_by (λ other. comes_before other c.as_str-name.result.now) (map name_of files)) (c.deref.ensures.value ∙ sym c.deref-held-items.ensures.value)

up_to : (c : After-count_up_to-up_to) → c.count_up_to-up_to.result ≡ count_by (λ other. comes_up_to other c.as_str-name.result.now) (map name_of c.deref-held-items.result.now)
up_to c =
    c.count_up_to-up_to.ensures
    ∙ sym (count_by-map name_of (λ (other : List ℕ). comes_up_to other c.as_str-name.result.now) c.deref-in-loop-held.result.now)
    ∙ ap (λ (files : List Held). count_by (λ other. comes_up_to other c.as_str-name.result.now) (map name_of files)) (c.deref-in-loop-held.ensures.value ∙ sym c.deref-held-items.ensures.value)

pub returns-then-place-up_to : goal.returns-then-place-up_to
returns-then-place-up_to c = λ listing is.
    let files = map name_of c.deref-held-items.result.now in
    let in_order = subst (λ (texts : List (List ℕ)). IsListing texts listing) (names (goal.at.returns-then-place-up_to c).After-deref-held-items) is in
    let counts = (goal.at.returns-then-place-up_to c).After-count_up_to-up_to in
    let stands : StandsAt files c.args.place c.as_str-name.result.now = record {
      from = subst (λ (n : ℕ). n ≤ c.args.place) (before counts) c.if-before-place.true;
      to = subst (λ (n : ℕ). c.args.place < n) (up_to counts) c.if-place-up_to.true;
    } in
    sym (is_there files listing in_order c.args.place c.as_str-name.result.now stands)

pub loop-held-preserved : goal.loop-held-preserved
loop-held-preserved c = below_more _ _ c.loop-held.invariant (λ d stands.
    let files = c.deref-held-items.result.now in
    let counts = (goal.at.loop-held-preserved c).After-count_up_to-up_to in
    let name : get_or (map name_of files) c.loop-held.held-index d ≡ c.as_str-name.result.now
    = get_or-map name_of files c.loop-held.held-index c.held-item.result d c.loop-held-test.true ∙ sym (ap name_of c.held-item.is) ∙ sym c.as_str-name.ensures.value in
    let here = subst (StandsAt (map name_of files) c.args.place) name stands in
    let from = subst (λ (n : ℕ). n ≤ c.args.place) (sym (before counts)) here.from in
    let to = subst (λ (n : ℕ). c.args.place < n) (sym (up_to counts)) here.to in
    let either = c.else-before-place.either in
    grind arith)

pub returns : goal.returns
returns c = λ listing is.
    let files = map name_of c.deref-held-items.result.now in
    let in_order = subst (λ (texts : List (List ℕ)). IsListing texts listing) (names (goal.at.returns c).After-deref-held-items) is in
    sym (is_past files listing in_order c.args.place (λ name has stands.
    let short : has.0 < c.loop-held.held-index = omega (arith, has.1, length-map c.deref-held-items.result.now name_of, c.loop-held-test.false) in
    c.loop-held.invariant has.0 short name (subst (StandsAt files c.args.place) (sym has.2) stands)))
