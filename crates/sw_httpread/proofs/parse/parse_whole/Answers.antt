use Rattle.std.proofs.Common.{arith, []}
use Rattle.sw_httpread.proofs.Parses.{head_bound, unlike}
use Rattle.sw_httpread.proofs.parse.parse_whole.Goals as goal

pub returns-else-head-bytes : goal.returns-else-head-bytes
returns-else-head-bytes c = λ h r.
    let few = head_bound c.args.bytes.now h [] r in
    let at = rw c.in-Ok-Complete.field-0-is at (c.in-Ok-Complete.ensures.found h [] r (omega (arith, few))) in
    unlike c.args.bytes.now _ c.in-Ok-Complete.head h c.if-head-bytes.false at r

pub returns-in-Err : goal.returns-in-Err
returns-in-Err c = λ h r.
    let few = head_bound c.args.bytes.now h [] r in
    absurd (c.in-Err.ensures.found h [] r (omega (arith, few)))
