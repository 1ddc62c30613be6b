-- There are few devices.
use Rattle.std.proofs.Common.{length, ap, arith}
use Rattle.sw_message.specs.declared.target.Target.{Target}
use Rattle.sw_quorum.proofs.Laws.{counts-within}
use Rattle.sw_quorum.proofs.Places.{handoffs_few, primaries_few}
use Rattle.sw_quorum.specs.Tally.{Counts}
use Rattle.sw_put.specs.Put.{commits, place_of}
use Rattle.sw_put.proofs.Transcripts.{commits-within, commits_due-few}
use Rattle.sw_put.proofs.put.PutOp.committed_ending.Goals as goal

pub overflow_cast-commits : goal.overflow_cast-commits
overflow_cast-commits c =
    let begun = c.self.invariant.0.0 in
    let past = c.self.invariant.0.1 in
    let stood = c.self.invariant.0.2 in
    omega (
      arith,
      ap length c.done.ensures,
      ap (λ (counts : Counts Target). length counts.done) stood.commits_are,
      (counts-within (commits past)).done,
      commits-within begun past stood.run,
      commits_due-few begun past stood.run,
      primaries_few begun.cluster (place_of begun).part stood.valid.rules,
      handoffs_few begun.cluster (place_of begun).part stood.valid.rules,
    )
