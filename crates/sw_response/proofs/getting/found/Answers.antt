use Rattle.std.proofs.Common.{arith}
use Rattle.sw_response.proofs.Lines.{found_lines}
use Rattle.sw_response.proofs.getting.found.Goals as goal

pub new-requires-clause-lines : goal.new-requires-clause-lines
new-requires-clause-lines c =
    let object = c.in_ok-fields.ensures.sound in
    found_lines c.in_ok-fields.fields.items c.args.stamp c.args.object object.head (omega (arith, object.size)) c.in_ok-fields.ensures.fields
