use Rattle.std.proofs.Common.{◌≡◌, ℕ, ◌<◌, ◌≤◌, get_or}
use Rattle.sw_gf256.specs.Field.{product}
use Rattle.sw_cauchy.proofs.inversion.scale_row.Given as goal

-- the entries so far are multiplied, and the others are as they were
abbrev pub invariant-loop-entry : goal.invariant-loop-entry
invariant-loop-entry l = record {
  written : (j : ℕ) → j < l.entry-index → get_or l.entry-items j 0 ≡ product l.factor (get_or l.initial.entry-items j 0);
  left : (j : ℕ) → l.entry-index ≤ j → get_or l.entry-items j 0 ≡ get_or l.initial.entry-items j 0;
}
