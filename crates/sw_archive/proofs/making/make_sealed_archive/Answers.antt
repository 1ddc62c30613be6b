use Rattle.std.proofs.Common.{◌≡◌, ◌++◌, List, ℕ, subst, sym, ap, ◌∙◌}
use Rattle.std.specs.Result.{IfOk}
use Rattle.md5.specs.Md5.{md5}
use Rattle.sw_archive.proofs.making.make_sealed_archive.Goals as goal

pub seal_with-requires : goal.seal_with-requires
seal_with-requires c = c.requires.seal ∙ ap md5 (sym c.in_ok-bytes.ensures)

pub returns : goal.returns
returns c = subst (λ (bytes : List ℕ). IfOk c.seal_with.result (λ sealed. sealed ≡ bytes ++ md5 bytes)) c.in_ok-bytes.ensures c.seal_with.ensures
