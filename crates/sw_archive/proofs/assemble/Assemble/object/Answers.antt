use Rattle.std.proofs.Common.{◌∙◌, List, ap, subst}
use Rattle.sw_archive.specs.Archive.{ArchiveModel}
use Rattle.sw_archive.specs.Assemble.{AreTogether, AssembleModel, GivesObject}
use Rattle.sw_archive.proofs.Objects.{object_of_put}
use Rattle.sw_archive.proofs.assemble.Assemble.object.Goals as goal

pub returns-clause-put : goal.returns-clause-put
returns-clause-put c =
    let those = c.deref.ensures.value ∙ ap (λ (a : AssembleModel). a.archives) c.self.view_is in
    object_of_put c.args.self.now.archives c.object_of.result (subst (λ (archives : List ArchiveModel). GivesObject archives c.object_of.result) those c.object_of.ensures) c.requires.enough
    (subst (λ (a : AssembleModel). AreTogether a.archives) c.self.view_is c.self.invariant)
