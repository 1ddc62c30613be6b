-- There are few devices.
use Rattle.std.proofs.Common.{ℕ, length, ap, arith}
use Rattle.sw_quorum.proofs.Laws.{counts-within}
use Rattle.sw_quorum.proofs.Places.{handoffs_few, primaries_few}
use Rattle.sw_quorum.specs.Tally.{Counts}
use Rattle.sw_delete.specs.Delete.{deletes, place_of}
use Rattle.sw_delete.proofs.Dues.{due-few}
use Rattle.sw_delete.proofs.Transcripts.{answers-and-opens, given-within}
use Rattle.sw_delete.proofs.delete.DeleteOp.ending.Goals as goal

pub overflow_cast-marks : goal.overflow_cast-marks
overflow_cast-marks c =
    let begun = c.self.invariant.0.0 in
    let past = c.self.invariant.0.1 in
    let stood = c.self.invariant.0.2 in
    omega (
      arith,
      ap length c.done.ensures,
      ap (λ (counts : Counts ℕ). length counts.done) stood.counts_are,
      (counts-within (deletes past)).done,
      answers-and-opens begun past stood.run,
      given-within begun past stood.run,
      due-few begun past,
      primaries_few begun.cluster (place_of begun).part stood.valid.rules,
      handoffs_few begun.cluster (place_of begun).part stood.valid.rules,
    )
