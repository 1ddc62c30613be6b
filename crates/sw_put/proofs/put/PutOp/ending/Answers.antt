-- There are few devices.
use Rattle.std.proofs.Common.{length, ap, arith}
use Rattle.sw_message.specs.declared.target.Target.{Target}
use Rattle.sw_quorum.proofs.Laws.{counts-within}
use Rattle.sw_quorum.proofs.Places.{handoffs_few, primaries_few}
use Rattle.sw_quorum.specs.Tally.{Counts}
use Rattle.sw_put.specs.Put.{place_of, stores}
use Rattle.sw_put.proofs.Dues.{stores_due-few}
use Rattle.sw_put.proofs.Transcripts.{stores-within}
use Rattle.sw_put.proofs.put.PutOp.ending.Goals as goal

pub overflow_cast-have : goal.overflow_cast-have
overflow_cast-have c =
    let begun = c.self.invariant.0.0 in
    let past = c.self.invariant.0.1 in
    let stood = c.self.invariant.0.2 in
    omega (
      arith,
      ap length c.done.ensures,
      ap (λ (counts : Counts Target). length counts.done) stood.stores_are,
      (counts-within (stores past)).done,
      stores-within begun past stood.run,
      stores_due-few begun (stores past),
      primaries_few begun.cluster (place_of begun).part stood.valid.rules,
      handoffs_few begun.cluster (place_of begun).part stood.valid.rules,
    )
