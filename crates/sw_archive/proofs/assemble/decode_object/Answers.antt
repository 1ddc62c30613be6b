use Rattle.std.proofs.Common.{◌≡◌, ◌∙◌, sym, ap, subst}
use Rattle.sw_types.specs.Object.{ObjectModel, object_of}
use Rattle.sw_archive.specs.Archive.{ArchiveModel}
use Rattle.sw_archive.specs.Pieces.{IsDecoded}
use Rattle.sw_archive.proofs.Objects.{alike_to_first}
use Rattle.sw_archive.proofs.assemble.decode_object.Goals as goal
use Rattle.sw_archive.proofs.assemble.decode_object.Goals.{After-unwrap-object}

-- the object is that of the head and the body
made : (c : After-unwrap-object) → c.unwrap-object.result ≡ object_of c.in_ok-head.head c.in_ok-body.body
made c = (rw c.unwrap-object.ensures at c.make.ensures).1

pub returns-clause-head : goal.returns-clause-head
returns-clause-head c = λ position other below.
    let alike = alike_to_first c.args.archives.now c.index-archives-0.result c.requires.enough c.requires.together c.index-archives-0.is position other below in
    ap (λ (o : ObjectModel). o.head) (made (goal.at.returns-clause-head c).After-unwrap-object) ∙ c.in_ok-head.ensures.cases ∙ c.head.ensures ∙ ap (λ (a : ArchiveModel). a.head) alike

pub returns-clause-decoded : goal.returns-clause-decoded
returns-clause-decoded c =
    subst (IsDecoded c.args.archives.now) (sym (ap (λ (o : ObjectModel). o.body) (made (goal.at.returns-clause-decoded c).After-unwrap-object))) c.in_ok-body.ensures.decoded
