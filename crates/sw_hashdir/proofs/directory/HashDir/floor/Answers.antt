use Rattle.std.proofs.Common.{◌≡◌, ◌+◌, ◌++◌, ◌∷◌, [], List, take, sym, ap, ◌∙◌, subst}
use Rattle.std.proofs.lemmas.List.{take_all, take_more}
use Rattle.sw_hashpath.specs.declared.file_name.FileName.{FileName}
use Rattle.sw_hashdir.specs.Directory.{IsFloor}
use Rattle.sw_hashdir.proofs.directory.HashDir.floor.Goals as goal

pub loop-name-preserved : goal.loop-name-preserved
loop-name-preserved c =
    let names = c.deref-name-items.result.now in
    let more : take (c.loop-name.name-index + 1) names ≡ take c.loop-name.name-index names ++ c.name-item.result ∷ []
    = take_more names c.loop-name.name-index c.name-item.result c.loop-name-test.true ∙ ap (λ (name : FileName). take c.loop-name.name-index names ++ name ∷ []) (sym c.name-item.is) in
    subst (λ (seen : List FileName). IsFloor seen c.greater-floor.result) (sym more)
    (c.greater-floor.ensures (take c.loop-name.name-index names) (c.name-item.result ∷ []) c.loop-name.invariant c.floor_of.ensures)

pub returns : goal.returns
returns c =
    let names = c.deref-name-items.result.now in
    let all : take c.loop-name.name-index names ≡ c.args.self.now = take_all c.loop-name.name-index names c.loop-name-test.false ∙ c.deref-name-items.ensures.value ∙ c.self.view_is in
    subst (λ (seen : List FileName). IsFloor seen c.loop-name.floor) all c.loop-name.invariant
