use Rattle.std.proofs.Common.{length, ap, arith}
use Rattle.sw_message.specs.declared.target.Target.{Target}
use Rattle.sw_quorum.specs.Tally.{Counts}
use Rattle.sw_put.specs.Put.{stores}
use Rattle.sw_put.proofs.Changes.{by_fields}
use Rattle.sw_put.proofs.Dues.{length-stores_due}
use Rattle.sw_put.proofs.put.PutOp.store_count.Goals as goal

pub returns : goal.returns
returns c = λ begun past stands.
    let stood = by_fields c.self.inside c.args.self.now begun past c.self.view_is stands in
    omega (
      arith,
      c.len.ensures,
      c.len-2.ensures,
      c.min.ensures,
      c.self.inside.primaries.ok,
      c.self.inside.handoffs.ok,
      ap length c.missed-missed.ensures,
      ap length stood.primaries_are,
      ap length stood.handoffs_are,
      ap (λ (counts : Counts Target). length counts.missed) stood.stores_are,
      length-stores_due begun (stores past),
    )
