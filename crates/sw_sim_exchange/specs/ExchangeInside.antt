-- An exchange by its fields.
use Rattle.sw_sim_exchange.specs.Exchange.{ExchangeModel}
use Rattle.sw_sim_exchange.specs.declared.exchange.Exchange.TheInside.{Inside}

abbrev pub exchange_seen : Inside → ExchangeModel
exchange_seen exchange = record { letters = exchange.letters.items; operations = exchange.operations.items }
