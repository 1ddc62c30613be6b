use Rattle.std.proofs.Common.{sym, ap, ◌∙◌, subst}
use Rattle.sw_archive.specs.Alike.{is_next}
use Rattle.sw_archive.specs.Assemble.{AssembleModel, IsNext}
use Rattle.sw_archive.proofs.Decisions.{Decides-next}
use Rattle.sw_archive.proofs.assemble.Assemble.is_next.Goals as goal

pub returns : goal.returns
returns c =
    let decides = Decides-next c.self.inside.archives.items c.args.archive.now in
    let tested = c.is_next.ensures.test ∙ ap (λ archives. is_next archives c.args.archive.now) c.deref.ensures.value in (
      λ yes. subst (λ (a : AssembleModel). IsNext a.archives c.args.archive.now) c.self.view_is (decides.0 (sym tested ∙ yes)),
      λ next. tested ∙ decides.1 (subst (λ (a : AssembleModel). IsNext a.archives c.args.archive.now) (sym c.self.view_is) next),
    )
