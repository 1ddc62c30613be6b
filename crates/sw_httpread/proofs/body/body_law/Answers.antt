use Rattle.sw_httpread.proofs.BodyLaws.{body_more, body_one, body_undecided}
use Rattle.sw_httpread.proofs.body.body_law.Goals as goal

pub returns : goal.returns
returns c = record { more = body_more; one = body_one; undecided = body_undecided }
