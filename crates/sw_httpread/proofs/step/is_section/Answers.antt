use Rattle.std.proofs.Common.{[], arith, eq-eqb, eqb-true}
use Rattle.sw_httpread.proofs.Places.{section_bound, section_same, section_whole}
use Rattle.sw_httpread.proofs.step.is_section.Goals as goal

pub returns-in-Ok-Complete : goal.returns-in-Ok-Complete
returns-in-Ok-Complete c =
    let done = rw c.in-Ok-Complete.field-0-is at c.in-Ok-Complete.ensures.complete in
    let within = rw c.in-Ok-Complete.field-0-is at c.in-Ok-Complete.ensures.within in
    (λ same. section_whole _ _ _ _ done.0 done.1 done.2 (eqb-true _ _ same), λ trailer. eq-eqb _ _ (section_same _ _ _ _ done.0 done.1 done.2 within.len_fits trailer))

pub returns-in-Err : goal.returns-in-Err
returns-in-Err c = (
  λ same. absurd (cc (same)),
  λ trailer.
      let bound = section_bound c.args.bytes.now trailer.0 trailer.1 trailer.2 in
      absurd (c.in-Err.ensures.found trailer.0 trailer.1 [] trailer.2 (omega (arith, bound, c.requires))),
)
