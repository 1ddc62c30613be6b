use Rattle.std.proofs.Common.{refl, sym}
use Rattle.sw_httpread.specs.declared.body.BodyNext.TheVariants as body
use Rattle.sw_httpread.specs.declared.head.HeadNext.TheVariants as head
use Rattle.sw_serve.specs.declared.end.ConnEnd.TheVariants as end
use Rattle.sw_serve.specs.declared.turn.Turn.TheVariants.{Over}
use Rattle.sw_serve.proofs.Turns.{turn_head, turn_open, turn_refused, turn_wants}
use Rattle.sw_request.specs.declared.refusal.BadInput.TheVariants as bad
use Rattle.sw_serve.proofs.turn.serve_next.Goals as goal

pub returns-in-Head-clause-takes : goal.returns-in-Head-clause-takes
returns-in-Head-clause-takes g c =
    let takes = rw (c.next_head.ensures.written, c.in-Head.ensures.counts.quiet (λ failed. cc)) at c.serve_head.ensures.takes in
    turn_head _ _ _ _ _ _ c.in-Head.head _ _ _ _ _ _ _ _ _ c.in-Head.ensures.reads takes

pub returns-in-Cut-clause-takes : goal.returns-in-Cut-clause-takes
returns-in-Cut-clause-takes g c = rw c.next_head.ensures.written (turn_open _ _ _ _ _ _ _ _ _ _ refl head.Cut body.Cut (Over end.Cut) _ (λ bytes told is. is) c.in-Cut.ensures.reads)

pub returns-in-BadHead-clause-takes : goal.returns-in-BadHead-clause-takes
returns-in-BadHead-clause-takes g c =
    let sent = rw (c.next_head.ensures.written, c.in-BadHead.ensures.counts.quiet (λ failed. cc)) at c.refuse.ensures.sent in
    turn_refused _ _ _ _ _ _ _ _ _ _ refl _ bad.BadHead _ _ _ _ c.in-BadHead.ensures.reads c.in-BadHead.ensures.reads.outcome (sym c.refuse.ensures.remaining) sent

pub returns-in-HeadTooLarge-clause-takes : goal.returns-in-HeadTooLarge-clause-takes
returns-in-HeadTooLarge-clause-takes g c =
    let sent = rw (c.next_head.ensures.written, c.in-HeadTooLarge.ensures.counts.quiet (λ failed. cc)) at c.refuse-in-HeadTooLarge.ensures.sent in
    turn_refused _ _ _ _ _ _ _ _ _ _ refl _ bad.HeadTooLarge _ _ _ _ c.in-HeadTooLarge.ensures.reads c.in-HeadTooLarge.ensures.reads.outcome (sym c.refuse-in-HeadTooLarge.ensures.remaining) sent

pub returns-in-ReadFault-clause-takes : goal.returns-in-ReadFault-clause-takes
returns-in-ReadFault-clause-takes g c = rw c.next_head.ensures.written (turn_open _ _ _ _ _ _ _ _ _ _ refl head.ReadFault body.ReadFault (Over end.ReadFault) _ (λ bytes told is. is) c.in-ReadFault.ensures.reads)

pub returns-in-NoMemory-clause-takes : goal.returns-in-NoMemory-clause-takes
returns-in-NoMemory-clause-takes g c =
    let told = rw (c.next_head.ensures.written, c.in-NoMemory.ensures.counts.quiet (λ failed. cc)) at c.want.ensures.told in
    turn_wants _ _ _ _ _ _ _ _ _ _ refl _ _ _ _ _ c.in-NoMemory.ensures.reads (sym c.want.ensures.remaining) c.want.ensures.over told
