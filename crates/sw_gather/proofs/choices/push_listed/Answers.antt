use Rattle.std.proofs.Common.{◌++◌, List, ◌∷◌, [], map, filter, take, sym, ap, ◌∙◌}
use Rattle.std.proofs.Common.{append_assoc}
use Rattle.std.proofs.lemmas.List.{append-nil, take_all}
use Rattle.sw_hashdir.specs.declared.entry.Entry.{Entry}
use Rattle.sw_gather.specs.Choices.{entry_target, is_listed}
use Rattle.sw_gather.proofs.Choosing.{filter_no, listed_yes}
use Rattle.sw_gather.proofs.choices.push_listed.Goals as goal
use Rattle.sw_gather.proofs.choices.push_listed.Goals.{then-is_listed+in_ok-push, else-is_listed}

pub loop-entry-init : goal.loop-entry-init
loop-entry-init c = sym (append-nil c.args.choices.now.items)

pub loop-entry-preserved : goal.loop-entry-preserved
loop-entry-preserved c =
    let entry = c.entry-item.result in
    let items = c.entries-entry-items.result.now in
    let i = c.loop-entry.entry-index in
    let before = c.args.choices.now.items in
    elim c.if-is_listed.branch [
      | then-is_listed+in_ok-push w ↦
          let pushed = w.in_ok-push.ensures.items in
          let more = listed_yes c.args.total c.args.stamp c.args.device items i entry c.loop-entry-test.true c.entry-item.is (sym c.is_listed.ensures ∙ w.if-is_listed.true) in
          let joined = append_assoc before (map (entry_target c.args.device) (filter (is_listed c.args.total c.args.stamp) (take i items))) (entry_target c.args.device entry ∷ []) in
          cc
      | else-is_listed w ↦
          let same = filter_no (is_listed c.args.total c.args.stamp) items i entry entry c.loop-entry-test.true c.entry-item.is (sym c.is_listed.ensures ∙ w.if-is_listed.false) in
          cc
    ]

pub returns : goal.returns
returns c =
    c.loop-entry.invariant
    ∙ ap (λ (entries : List Entry). c.args.choices.now.items ++ map (entry_target c.args.device) (filter (is_listed c.args.total c.args.stamp) entries))
    (take_all c.loop-entry.entry-index c.entries-entry-items.result.now c.loop-entry-test.false ∙ c.entries-entry-items.ensures)
