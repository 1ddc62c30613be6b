-- Runs that were refused before their first call.
use Rattle.std.proofs.Common.{◌≢◌, List, ◌∷◌, Some}
use Rattle.sw_disk.specs.Calls.{Call}
use Rattle.sw_disk.specs.Runs.{IsUntouched, Past, Runs, Seen}
use Rattle.sw_disk.specs.declared.refusal.DiskRefusal.{DiskRefusal}
use Rattle.sw_disk.specs.declared.refusal.DiskRefusal.TheVariants.{Failed}
use Rattle.sw_disk.proofs.Chains.{not_begun, runs_after}

module _ {D : Type 0} (seen : D → Seen) (left_since : D → Past) (call : Call) (calls : List Call) (reason : DiskRefusal) (a : D) (other : reason ≢ Failed) where
  pub unbegun : Runs seen left_since (call ∷ calls) (Some reason) a a
  unbegun = not_begun seen left_since (call ∷ calls) reason a other (λ is. cc)

  pub refused_early : (b : D) → IsUntouched seen left_since b a → Runs seen left_since (call ∷ calls) (Some reason) b a
  refused_early b same = runs_after seen left_since (call ∷ calls) (Some reason) b a a same unbegun
