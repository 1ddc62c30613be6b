use Rattle.std.proofs.Common.{◌∙◌}
use Rattle.sw_request.proofs.Targets.{no_text_is}
use Rattle.sw_request.proofs.target.is_no_text.Goals as goal

pub returns : goal.returns
returns c = c.is_err.ensures.value ∙ no_text_is c.args.part.now c.from_utf8.result _ c.from_utf8.ensures.cases
