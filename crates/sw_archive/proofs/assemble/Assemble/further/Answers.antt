use Rattle.std.proofs.Common.{◌∙◌, List, ap, subst}
use Rattle.std.specs.Result.{IfOk}
use Rattle.std.proofs.lemmas.Result.{IfOk-weaker}
use Rattle.sw_archive.specs.Archive.{ArchiveModel}
use Rattle.sw_archive.specs.Assemble.{AreTogether, AssembleModel, IsFurther}
use Rattle.sw_archive.proofs.Objects.{further_of_put}
use Rattle.sw_archive.proofs.assemble.Assemble.further.Goals as goal

pub returns-clause-put : goal.returns-clause-put
returns-clause-put c = λ policy stamp name object put of.
    let those = c.deref.ensures.value ∙ ap (λ (a : AssembleModel). a.archives) c.self.view_is in
    let further = subst (λ (archives : List ArchiveModel). IfOk c.archive_of.result (λ bytes. IsFurther archives c.args.index bytes)) those c.archive_of.ensures in
    let together = subst (λ (a : AssembleModel). AreTogether a.archives) c.self.view_is c.self.invariant in
    IfOk-weaker c.archive_of.result _ _ (λ bytes is. further_of_put c.args.self.now.archives c.args.index bytes is c.requires.enough together policy stamp name object put of) further
