use Rattle.std.proofs.Common.{ap, subst}
use Rattle.std.specs.Prelude.{IfOk}
use Rattle.sw_sync.specs.Parts.{Repair}
use Rattle.sw_sync.specs.Sync.{IsRebuilt}
use Rattle.sw_sync.proofs.Rebuilt.{rebuilt}
use Rattle.sw_sync.proofs.repair.Repair.rebuild.Goals as goal

pub returns : goal.returns
returns c =
    subst (λ archives. IfOk c.further.result (λ bytes. IsRebuilt archives c.args.index bytes)) (ap (λ (repair : Repair). repair.archives) c.self.view_is)
    (rebuilt c.self.inside.gathered.archives c.args.index c.further.result c.further.ensures.put c.further.ensures.any)
