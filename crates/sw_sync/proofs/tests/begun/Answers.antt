-- The own device is a primary.
use Rattle.std.proofs.Common.{sym, ap, ◌∙◌}
use Rattle.sw_ring.specs.Cluster.{column_of}
use Rattle.sw_ring.specs.Ring.{is_among}
use Rattle.sw_sync.proofs.tests.begun.Goals as goal

pub begin-requires-clause-primary : goal.begin-requires-clause-primary
begin-requires-clause-primary c =
    ap (λ devices. is_among devices 0) (sym (c.deref.ensures.value ∙ c.in_ok-devices.ensures ∙ ap (column_of c.args.cluster.now) c.part.ensures)) ∙ sym c.is_among.ensures ∙ c.if-not-is_among.false
