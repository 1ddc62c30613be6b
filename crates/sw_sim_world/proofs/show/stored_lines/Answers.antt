use Rattle.std.proofs.Common.{◌∷◌, ◌++◌, [], List, take, sym, ap, subst, ◌∙◌}
use Rattle.std.specs.List.{AllZip}
use Rattle.std.proofs.lemmas.List.{take_more}
use Rattle.sw_hashdir.specs.declared.entry.Entry.{Entry}
use Rattle.sw_sim_world.specs.Show.{IsLentEntry}
use Rattle.sw_sim_world.proofs.ShownLines.{zip-push}
use Rattle.sw_sim_world.proofs.show.stored_lines.Goals as goal

pub loop-entry-preserved : goal.loop-entry-preserved
loop-entry-preserved c =
    let entries = c.args.entries.now in
    let index = c.loop-entry.entry-index in
    let Are = AllZip (IsLentEntry c.args.device c.args.lent.now) in
    let more = take_more entries index c.entry-item.result c.loop-entry-test.true ∙ ap (λ (entry : Entry). take index entries ++ entry ∷ []) (sym c.entry-item.is) in
    let all = zip-push _ (take index entries) c.loop-entry.lines.items c.entry-item.result c.in_ok-stored_line.field-0 c.loop-entry.invariant c.in_ok-stored_line.ensures in
    subst (λ (es : List Entry). Are es c.push.new.self.items) (sym more) (subst (Are (take index entries ++ c.entry-item.result ∷ [])) (sym c.in_ok-push.ensures.items) all)
