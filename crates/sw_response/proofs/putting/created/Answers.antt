use Rattle.std.proofs.Common.{arith}
use Rattle.sw_response.proofs.Lines.{created_lines}
use Rattle.sw_response.proofs.putting.created.Goals as goal

pub new-requires-2-clause-lines : goal.new-requires-2-clause-lines
new-requires-2-clause-lines c =
    created_lines c.in_ok-fields.fields.items c.args.digest c.args.stamp c.args.commits (omega (arith, c.ranges.commits.fits)) c.in_ok-fields.ensures
