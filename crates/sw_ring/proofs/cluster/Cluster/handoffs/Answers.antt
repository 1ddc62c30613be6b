use Rattle.std.proofs.Common.{not, ap, ◌∙◌}
use Rattle.std.proofs.lemmas.List.Elements.{filter_agree}
use Rattle.std.proofs.lemmas.Result.{IfOk-weaker}
use Rattle.sw_ring.proofs.Partition.{has_at_among}
use Rattle.sw_ring.proofs.cluster.Cluster.handoffs.Goals as goal

pub returns : goal.returns
returns c =
    let within = rw (← c.self.view_is) at c.requires in
    IfOk-weaker c.absent.result _ _ (λ devices e.
    rw (← c.self.view_is) ((rw (c.deref.ensures.value, c.deref-2.ensures.value) at e)
    ∙ filter_agree _ _ (λ id. ap not (has_at_among c.args.part id _ _ c.self.invariant.lengths within)) _)) c.absent.ensures
