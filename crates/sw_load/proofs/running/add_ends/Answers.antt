use Rattle.std.proofs.Common.{List, [], ◌∷◌, ◌++◌, take, ap, sym, ◌∙◌}
use Rattle.std.proofs.lemmas.List.{take_more}
use Rattle.sw_sim_exchange.specs.declared.lines.EndLine.{EndLine}
use Rattle.sw_load.specs.Load.{with_end, with_ends}
use Rattle.sw_load.proofs.Progress.{ends-more}
use Rattle.sw_load.proofs.running.add_ends.Goals as goal

pub loop-line-preserved : goal.loop-line-preserved
loop-line-preserved c =
    let line = c.line-item.result in
    let counted = take c.loop-line.line-index c.args.ends.now in
    let more = take_more c.args.ends.now c.loop-line.line-index line c.loop-line-test.true ∙ ap (λ (last : EndLine). counted ++ last ∷ []) (sym c.line-item.is) in
    c.add_end.ensures ∙ ap (with_end line.end) c.loop-line.invariant ∙ sym (ends-more counted line c.args.summary.now)
    ∙ ap (λ (lines : List EndLine). with_ends lines c.args.summary.now) (sym more)
