-- The first that is of the device is found.
use Rattle.std.proofs.Common.{Some, sym, ap, ◌∙◌}
use Rattle.std.specs.Prelude.{find}
use Rattle.std.proofs.lemmas.Bool.{eq-eqb, ne_eqb}
use Rattle.std.proofs.lemmas.List.{take_all}
use Rattle.sw_sync.specs.Sync.{listing_in, of_device}
use Rattle.sw_gather.proofs.Choosing.{found_here, none_more}
use Rattle.sw_sync.proofs.showing.listing_of.Goals as goal

pub returns-then-other-device : goal.returns-then-other-device
returns-then-other-device c =
    sym (ap listing_in (ap Some c.loop-other-item.is
    ∙ found_here (of_device c.args.device) c.args.lists.now c.loop-other.other-index c.loop-other-item.result c.loop-other-test.true c.loop-other.invariant
    (ap (of_device c.args.device) (sym c.loop-other-item.is) ∙ eq-eqb c.loop-other-item.result.0 c.args.device c.if-other-device.true)))

pub loop-other-preserved : goal.loop-other-preserved
loop-other-preserved c =
    none_more (of_device c.args.device) c.args.lists.now c.loop-other.other-index c.loop-other-item.result c.loop-other-test.true c.loop-other.invariant
    (ap (of_device c.args.device) (sym c.loop-other-item.is) ∙ ne_eqb c.loop-other-item.result.0 c.args.device c.if-other-device.false)

pub returns : goal.returns
returns c = ap listing_in (sym (ap (find (of_device c.args.device)) (take_all c.loop-other.other-index c.args.lists.now c.loop-other-test.false)) ∙ c.loop-other.invariant)
