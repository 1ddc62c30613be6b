use Rattle.std.proofs.Common.{rules, ◌≡◌, ◌+◌, ◌++◌, ◌∷◌, [], true, false, Some, ⊎_elim, List, Contains, take, sym, ap, ◌∙◌, subst}
use Rattle.std.proofs.lemmas.List.{take_all, take_more}
use Rattle.sw_hashpath.specs.FileName.{IsFileName}
use Rattle.sw_hashpath.specs.declared.file_name.FileName.{FileName}
use Rattle.sw_hashdir.specs.Obsolete.{IsAfter}
use Rattle.sw_hashdir.proofs.Directories.{IsKept, added, kept_too, made_and_kept, replaced}
use Rattle.sw_hashdir.proofs.directory.HashDir.after.Goals as goal
use Rattle.sw_hashdir.proofs.directory.HashDir.after.Goals.{After-ne, After-put_in_order, then-ne+in_ok-push, else-ne}
use borrow.Author.Tests.{tests}

other_name : (c : After-ne) → c.ne.result ≡ true → c.plain_of-plain.result ≡ Some c.name-item.result → ⊥
other_name c test is = search (rules, tests)

plain_name : (c : After-ne) → c.ne.result ≡ false → c.plain_of-plain.result ≡ Some c.name-item.result
plain_name c test = search (rules, tests)

-- the names once this one was seen
one_more : (c : After-ne) → take (c.loop-name.name-index + 1) c.deref-name-items.result.now ≡ take c.loop-name.name-index c.deref-name-items.result.now ++ c.name-item.result ∷ []
one_more c =
    let names = c.deref-name-items.result.now in
    take_more names c.loop-name.name-index c.name-item.result c.loop-name-test.true
    ∙ ap (λ (name : FileName). take c.loop-name.name-index names ++ name ∷ []) (sym c.name-item.is)

pub loop-name-preserved : goal.loop-name-preserved
loop-name-preserved c =
    let ne = (goal.at.loop-name-preserved c).After-ne in
    let more = one_more ne in
    let names = take c.loop-name.name-index c.deref-name-items.result.now in
    elim c.if-ne.branch [
      | then-ne+in_ok-push w ↦ rw (w.names-is, more) (kept_too c.args.made names c.name-item.result c.loop-name.names.items c.loop-name.invariant w.push.new.self.items
          (λ gone. other_name ne w.if-ne.true ((c.plain_of-plain.ensures c.name-item.result).1 gone))
          (added c.name-item.result c.loop-name.names.items w.push.new.self.items w.push.new.self.items w.in_ok-push.ensures.items (λ name. (λ has. has, λ has. has))))
      | else-ne w ↦ rw (w.names-is, more) (replaced c.args.made names c.name-item.result c.loop-name.names.items c.loop-name.invariant
          ((c.plain_of-plain.ensures c.name-item.result).0 (plain_name ne w.if-ne.false)))
    ]

-- the directory once the name was added
whole : (c : After-put_in_order) → IsAfter c.args.made c.args.self.now c.put_in_order.new.names.items
whole c =
    let all = take_all c.loop-name.name-index c.deref-name-items.result.now c.loop-name-test.false ∙ c.deref-name-items.ensures.value ∙ c.self.view_is in
    made_and_kept c.args.made c.args.self.now c.loop-name.names.items c.put_in_order.new.names.items
    (subst (λ (names : List FileName). IsKept c.args.made names c.loop-name.names.items) all c.loop-name.invariant)
    (added c.args.made c.loop-name.names.items c.push-2.new.self.items c.put_in_order.new.names.items c.in_ok-push-2.ensures.items c.put_in_order.ensures.same)

pub invariant_of-result : goal.invariant_of-result
invariant_of-result c =
    let is = whole (goal.at.invariant_of-result c).After-put_in_order in
    record {
      ascend = c.put_in_order.ensures.ascend;
      named = λ name there. ⊎_elim
          (λ here. subst IsFileName (sym here) c.requires)
          (λ before. c.self.invariant.named name (subst (λ (names : List FileName). Contains names name) (sym c.self.view_is) before.0))
          ((is name).0 there);
    }

pub returns : goal.returns
returns c = whole (goal.at.returns c).After-put_in_order
