use Rattle.std.proofs.Common.{◌≡◌, ◌<◌, ◌≤◌, ℕ, length, Bool, not, true, false, nat_lt, refl, ap, arith}
use Rattle.std.proofs.lemmas.Grind.{common_steps}
use Rattle.sw_memdisk.proofs.folder.MemFolder.is_busy.Goals as goal
use Rattle.sw_memdisk.proofs.Readings.{busy_by_changes, busy_by_files, not_busy}
use borrow.Author.Tests.{ltb-false, ltb-true}

pub returns-then-not-is_empty : goal.returns-then-not-is_empty
returns-then-not-is_empty c =
    let some : 0 < length c.self.inside.files.items = grind (arith, common_steps, c.self.inside.files.ok.0) in
    let busy = busy_by_files c.self.inside c.self.invariant c.args.self.now.log (ap (λ m. m.log) c.self.view_is) some in
    (λ _. busy, λ _. ap not c.if-not-is_empty.true)

-- a test that cannot fail
must_hold : (a b : ℕ) (r : Bool) → nat_lt a b ≡ r → (b ≤ a → ⊥) → r ≡ true
must_hold a b true e more = refl
must_hold a b false e more = absurd (more (ltb-false a b e))

pub returns-else-not-is_empty : goal.returns-else-not-is_empty
returns-else-not-is_empty c =
    let view = ap (λ m. m.log) c.self.view_is in
    let none : length c.self.inside.files.items ≡ 0 = grind (arith, common_steps, c.self.inside.files.ok.0) in (
      λ less.
          let fewer : c.len.result < c.len-else-not-is_empty.result = ltb-true c.len.result c.len-else-not-is_empty.result less in
          busy_by_changes c.self.inside c.self.invariant c.args.self.now.log view (omega (arith, c.self.inside.changes.ok.0, c.self.inside.stable_at.ok.0)),
      λ busy. must_hold c.len.result c.len-else-not-is_empty.result _ refl
          (λ le. not_busy c.self.inside c.self.invariant c.args.self.now.log view none (omega (arith, le, c.self.inside.changes.ok.0, c.self.inside.stable_at.ok.0)) busy),
    )
