use Rattle.std.proofs.Common.{ap, ◌∙◌}
use Rattle.sw_request.specs.Response.{is_head}
use Rattle.sw_serve.proofs.Turns.{request_sent, request_wants}
use Rattle.sw_serve.proofs.turn.serve_request.Goals as goal

pub returns-in-Ok-clause-takes : goal.returns-in-Ok-clause-takes
returns-in-Ok-clause-takes g c =
    request_sent _ c.args.number c.args.link.now c.answer.new.link _ _ c.args.request.now _ _ _ c.in-Ok.answer c.closing_at.result c.is_head-to_head.result _ (c.is_head-to_head.ensures ∙ ap is_head c.head.ensures) c.in-Ok.ensures.answers c.closing_at.ensures c.send-in-Ok.ensures.sent

pub returns-in-Err-clause-takes : goal.returns-in-Err-clause-takes
returns-in-Err-clause-takes g c =
    request_wants _ c.args.number c.args.link.now c.answer.new.link _ _ c.args.request.now _ _ _ _ c.is_head-to_head.result _ (c.is_head-to_head.ensures ∙ ap is_head c.head.ensures) c.in-Err.ensures.answers c.want.ensures.over
    c.want.ensures.told
