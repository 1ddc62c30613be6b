use Rattle.std.proofs.Common.{◌≡◌, ◌++◌, List, ℕ, subst}
use Rattle.std.specs.Result.{IfOk}
use Rattle.md5.specs.Md5.{md5}
use Rattle.sw_archive.proofs.making.make_archive.Goals as goal

pub returns : goal.returns
returns c = subst (λ (bytes : List ℕ). IfOk c.seal.result (λ sealed. sealed ≡ bytes ++ md5 bytes)) c.in_ok-bytes.ensures c.seal.ensures
