use Rattle.std.proofs.Common.{◌+◌, ◌++◌, [], ◌∷◌, Some, sym, ap, ◌∙◌}
use Rattle.sw_quorum.proofs.Laws.{counts-more, judged, with_answer}
use Rattle.sw_quorum.specs.Tally.{TallyModel, counts_of}
use Rattle.sw_quorum.specs.declared.verdict.Verdict.{Verdict}
use Rattle.sw_quorum.specs.declared.verdict.Verdict.TheVariants.{Forbidden}
use Rattle.sw_quorum.proofs.tally.Tally.take.Goals as goal

pub returns-in-Forbidden-clause-taken : goal.returns-in-Forbidden-clause-taken
returns-in-Forbidden-clause-taken g c = λ answers is.
    let verdict = Forbidden c.in-Forbidden.floor in
    let inside = c.self.inside in
    let same = ap (λ (tally : TallyModel g.row.T.Denot). tally.counts) c.self.view_is ∙ is in
    ap (λ floor. record { done = inside.done.items; floor = Some floor; missed = inside.missed.items; answered = inside.answered + 1 }) c.higher.ensures
    ∙ ap (λ counts. with_answer counts c.args.about verdict) same
    ∙ sym (counts-more answers c.args.about verdict)
    ∙ ap (λ (verdict : Verdict). counts_of (answers ++ judged c.args.about verdict ∷ [])) (sym c.in-Forbidden.is)
