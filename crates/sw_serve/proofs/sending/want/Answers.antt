use Rattle.std.proofs.Common.{List, ℕ, ap, subst}
use Rattle.std.specs.Io.KnownBytes.{Appends}
use Rattle.sw_httpwrite.specs.Answer.{AnswerModel}
use Rattle.sw_httpwrite.specs.Response.{response_bytes}
use Rattle.sw_serve.specs.Serving.{IsFront}
use Rattle.sw_serve.proofs.Sends.{written_front}
use Rattle.sw_serve.proofs.sending.want.Goals as goal

pub returns-in-Ok-clause-told : goal.returns-in-Ok-clause-told
returns-in-Ok-clause-told g c =
    let before = g.N.Conn.written c.args.conn.now in
    let after = g.N.Conn.written c.write_response-written.new.conn in
    let faults = g.N.Conn.faults c.args.conn.now in
    let faults' = g.N.Conn.faults c.write_response-written.new.conn in
    subst (λ (answer : AnswerModel). (front : List ℕ) × Appends before after front × IsFront faults faults' front (response_bytes answer)) c.in-Ok.ensures
    (written_front c.write_response-written.result before after faults faults' (response_bytes c.in-Ok.answer) c.write_response-written.ensures.whole c.write_response-written.ensures.front (λ is. ap g.N.Conn.written (c.write_response-written.ensures.untouched is))
    c.write_response-written.ensures.quiet c.write_response-written.ensures.counted (λ is. ap g.N.Conn.faults (c.write_response-written.ensures.untouched is)))
