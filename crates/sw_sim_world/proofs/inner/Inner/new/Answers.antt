use Rattle.std.proofs.Common.{ap, refl}
use Rattle.sw_sim_exchange.specs.Exchange.{ExchangeModel}
use Rattle.sw_sim_world.proofs.Fresh.{fresh_stands}
use Rattle.sw_sim_world.proofs.inner.Inner.new.Goals as goal

pub returns-clause-stands : goal.returns-clause-stands
returns-clause-stands c =
    let made = c.in_ok-new.ensures in
    fresh_stands _ c.args.cluster.now made.cluster made.rules made.wants made.up made.empty c.requires refl (ap (λ (exchange : ExchangeModel). exchange.letters) c.new-2.ensures) refl
    (ap (λ (exchange : ExchangeModel). exchange.operations) c.new-2.ensures)
