use Rattle.std.proofs.Common.{ap, subst, sym}
use Rattle.sw_archive.specs.Put.{AreOfPut}
use Rattle.sw_gather.specs.Gathered.{GatheredModel}
use Rattle.sw_gather.proofs.gathered.Gathered.further.Goals as goal

pub returns-clause-put : goal.returns-clause-put
returns-clause-put c = λ policy stamp name object put of.
    c.further.ensures.put policy stamp name object put (subst (AreOfPut policy stamp name object) (sym (ap (λ (gathered : GatheredModel). gathered.archives) c.self.view_is)) of)
