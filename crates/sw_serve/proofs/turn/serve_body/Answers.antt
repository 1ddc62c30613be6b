use Rattle.std.proofs.Common.{refl, sym}
use Rattle.sw_httpread.specs.declared.body.BodyNext.TheVariants as body
use Rattle.sw_httpread.specs.declared.head.HeadNext.TheVariants as head
use Rattle.sw_serve.specs.declared.end.ConnEnd.TheVariants as end
use Rattle.sw_serve.specs.declared.turn.Turn.TheVariants.{Over}
use Rattle.sw_serve.proofs.Turns.{body_open, body_read, body_refused, body_wants}
use Rattle.sw_request.specs.declared.refusal.BadInput.TheVariants as bad
use Rattle.sw_serve.proofs.turn.serve_body.Goals as goal

pub returns-in-Body-clause-takes : goal.returns-in-Body-clause-takes
returns-in-Body-clause-takes g c =
    let takes = rw (c.new-request.ensures, c.read_body.ensures.written, c.in-Body.ensures.counts.quiet (λ failed. cc)) at c.serve_request.ensures.takes in
    body_read _ _ _ _ _ _ _ _ _ _ _ _ c.in-Body.body _ _ _ _ c.in-Body.ensures.reads (sym c.serve_request.ensures.remaining) takes

pub returns-in-Cut-clause-takes : goal.returns-in-Cut-clause-takes
returns-in-Cut-clause-takes g c = rw c.read_body.ensures.written (body_open _ _ _ _ _ _ _ _ _ _ _ _ head.Cut body.Cut (Over end.Cut) _ (λ bytes told is. is) c.in-Cut.ensures.reads refl)

pub returns-in-BadChunk-clause-takes : goal.returns-in-BadChunk-clause-takes
returns-in-BadChunk-clause-takes g c =
    let sent = rw (c.read_body.ensures.written, c.in-BadChunk.ensures.counts.quiet (λ failed. cc)) at c.refuse.ensures.sent in
    body_refused _ _ _ _ _ _ _ _ _ _ _ _ _ bad.BadChunk c.is_head-to_head.result _ _ _ _ c.in-BadChunk.ensures.reads c.in-BadChunk.ensures.reads.outcome c.is_head-to_head.ensures (sym c.refuse.ensures.remaining) refl sent

pub returns-in-TooLarge-clause-takes : goal.returns-in-TooLarge-clause-takes
returns-in-TooLarge-clause-takes g c =
    let sent = rw (c.read_body.ensures.written, c.in-TooLarge.ensures.counts.quiet (λ failed. cc)) at c.refuse-in-TooLarge.ensures.sent in
    body_refused _ _ _ _ _ _ _ _ _ _ _ _ _ bad.TooLarge c.is_head-to_head.result _ _ _ _ c.in-TooLarge.ensures.reads c.in-TooLarge.ensures.reads.outcome c.is_head-to_head.ensures (sym c.refuse-in-TooLarge.ensures.remaining) refl sent

pub returns-in-ReadFault-clause-takes : goal.returns-in-ReadFault-clause-takes
returns-in-ReadFault-clause-takes g c = rw c.read_body.ensures.written (body_open _ _ _ _ _ _ _ _ _ _ _ _ head.ReadFault body.ReadFault (Over end.ReadFault) _ (λ bytes told is. is) c.in-ReadFault.ensures.reads refl)

pub returns-in-NoMemory-clause-takes : goal.returns-in-NoMemory-clause-takes
returns-in-NoMemory-clause-takes g c =
    let told = rw (c.read_body.ensures.written, c.in-NoMemory.ensures.counts.quiet (λ failed. cc)) at c.want.ensures.told in
    body_wants _ _ _ _ _ _ _ _ _ _ _ _ _ c.is_head-to_head.result _ _ _ _ c.in-NoMemory.ensures.reads c.is_head-to_head.ensures (sym c.want.ensures.remaining) refl c.want.ensures.over told
