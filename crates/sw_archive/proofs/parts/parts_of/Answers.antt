use Rattle.std.proofs.Common.{ap, arith, length}
use Rattle.sw_archive.proofs.Paths.{after_front, parts_only, parts_none}
use Rattle.sw_archive.proofs.parts.parts_of.Goals as goal

pub returns-then-not-is_empty-clause-none : goal.returns-then-not-is_empty-clause-none
returns-then-not-is_empty-clause-none c = λ name is.
    let a = after_front c.args.path.now c.in_ok-before.before.now c.in_ok-before.rest.now name c.in_ok-before.ensures.0 c.in_ok-before.ensures.1 is in
    absurd (grind (arith, ap length a.0))

pub returns-in_err-container-clause-none : goal.returns-in_err-container-clause-none
returns-in_err-container-clause-none c =
    rw c.from_residual-in_err-container.ensures (λ name is.
    parts_none c.args.path.now c.in_ok-before.before.now c.in_ok-before.rest.now c.in_ok-account.account.now c.in_ok-account.rest.now name
    c.in_ok-before.ensures.0 c.in_ok-before.ensures.1 c.in_ok-account.ensures.0 c.in_ok-account.ensures.1 c.in_err-container.ensures is)

pub returns-clause-only : goal.returns-clause-only
returns-clause-only c = λ name is.
    parts_only c.args.path.now c.in_ok-before.before.now c.in_ok-before.rest.now c.in_ok-account.account.now c.in_ok-account.rest.now c.in_ok-container.container.now c.in_ok-container.object.now name
    c.in_ok-before.ensures.0 c.in_ok-before.ensures.1 c.in_ok-account.ensures.0 c.in_ok-account.ensures.1 c.in_ok-container.ensures.0 c.in_ok-container.ensures.1 is
