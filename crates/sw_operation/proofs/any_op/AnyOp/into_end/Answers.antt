use Rattle.std.proofs.Common.{subst}
use Rattle.sw_operation.specs.declared.end.OpEnd.TheVariants as end
use Rattle.sw_operation.specs.Ends.{IsEndOf}
use Rattle.sw_operation.specs.Standing.{Stands}
use Rattle.sw_operation.proofs.Begun.{of_delete, of_get, of_head, of_put}
use Rattle.sw_operation.proofs.any_op.AnyOp.into_end.Goals as goal

pub returns-in_ok-into_end-in-Put-clause-ends : goal.returns-in_ok-into_end-in-Put-clause-ends
returns-in_ok-into_end-in-Put-clause-ends c = λ begun past stands ended.
    let how = c.in_ok-into_end-in-Put in
    of_put (λ begun. IsEndOf begun past (end.Put how.field-0)) past c.in-Put.op (λ begun stands. how.ensures.end begun past stands) begun (subst (λ op. Stands op begun past) c.in-Put.is stands)

pub returns-in_ok-into_end-in-Get-clause-ends : goal.returns-in_ok-into_end-in-Get-clause-ends
returns-in_ok-into_end-in-Get-clause-ends c = λ begun past stands ended.
    let how = c.in_ok-into_end-in-Get in
    of_get (λ begun. IsEndOf begun past (end.Get how.field-0)) past c.in-Get.op (λ begun stands. how.ensures.end begun past stands) begun (subst (λ op. Stands op begun past) c.in-Get.is stands)

pub returns-in_ok-into_end-in-Head-clause-ends : goal.returns-in_ok-into_end-in-Head-clause-ends
returns-in_ok-into_end-in-Head-clause-ends c = λ begun past stands ended.
    let how = c.in_ok-into_end-in-Head in
    of_head (λ begun. IsEndOf begun past (end.Head how.field-0)) past c.in-Head.op (λ begun stands. how.ensures.end begun past stands) begun (subst (λ op. Stands op begun past) c.in-Head.is stands)

pub returns-in_ok-into_end-in-Delete-clause-ends : goal.returns-in_ok-into_end-in-Delete-clause-ends
returns-in_ok-into_end-in-Delete-clause-ends c = λ begun past stands ended.
    let how = c.in_ok-into_end-in-Delete in
    of_delete (λ begun. IsEndOf begun past (end.Delete how.field-0)) past c.in-Delete.op (λ begun stands. how.ensures.end begun past stands) begun (subst (λ op. Stands op begun past) c.in-Delete.is stands)
