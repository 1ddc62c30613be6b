use Rattle.std.proofs.Common.{refl}
use Rattle.sw_serve.proofs.Turns.{head_cut_off, head_goes_on, head_refused, head_wants}
use Rattle.sw_serve.proofs.turn.serve_head.Goals as goal

pub returns-in-Ok-Refuse-clause-takes : goal.returns-in-Ok-Refuse-clause-takes
returns-in-Ok-Refuse-clause-takes g c =
    let verdict = rw c.in-Ok-Refuse.field-0-is at c.in-Ok-Refuse.ensures in
    head_refused _ _ _ _ _ _ _ _ _ _ _ _ c.send.ensures.remaining refl c.in-Ok-Refuse.answer c.is_head.result _ c.is_head.ensures verdict c.send.ensures.sent

pub returns-in-Ok-clause-takes : goal.returns-in-Ok-clause-takes
returns-in-Ok-clause-takes g c =
    let verdict = rw c.in-Ok-Read.field-0-is at c.in-Ok-Read.ensures in
    let takes = rw (c.in-Ok.ensures.counted.quiet refl) at c.serve_body.ensures.takes in
    head_goes_on _ _ _ _ _ _ _ c.in-Ok-Read.framing c.in-Ok-Read.waits _ _ _ _ _ _ _ _ _ verdict c.give_leave.ensures.remaining c.in-Ok.ensures.whole takes

pub returns-in-Err-give_leave-clause-takes : goal.returns-in-Err-give_leave-clause-takes
returns-in-Err-give_leave-clause-takes g c =
    let verdict = rw c.in-Ok-Read.field-0-is at c.in-Ok-Read.ensures in
    let part = c.in-Err-give_leave.ensures.front in
    head_cut_off _ _ _ _ _ _ _ _ _ _ _ _ c.give_leave.ensures.remaining refl c.in-Ok-Read.framing c.in-Ok-Read.waits verdict part.0 part.1

pub returns-in-Err-clause-takes : goal.returns-in-Err-clause-takes
returns-in-Err-clause-takes g c = head_wants _ _ _ _ _ _ _ _ _ _ _ _ c.want.ensures.remaining refl c.is_head-in-Err.result _ c.is_head-in-Err.ensures c.want.ensures.over c.want.ensures.told
