use Rattle.sw_archive.proofs.Heads.{no_pair}
use Rattle.sw_archive.proofs.parts.pair_at.Goals as goal

pub returns-in_err-value-clause-none : goal.returns-in_err-value-clause-none
returns-in_err-value-clause-none c = rw c.from_residual-in_err-value.ensures (λ pair rest short.
    no_pair c.args.bytes.now c.in_ok-name.name.now c.in_ok-name.rest.now pair rest c.in_ok-name.ensures.some c.in_err-value.ensures.none short)
