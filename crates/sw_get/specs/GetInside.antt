-- A get by its fields.
use Rattle.sw_get.specs.Standing.{GetModel}
use Rattle.sw_get.specs.declared.get.GetOp.TheInside.{Inside}

abbrev pub get_seen : Inside → GetModel
get_seen get = record {
  subject = record { policy = get.policy; name = get.name; place = get.place; devices = record { handoffs = get.handoffs.items; primaries = get.primaries.items } };
  findings = record { target = get.target; from = get.from; events = get.events.items; facts = get.round.facts };
  object = get.round.object;
  mailbox = get.mailbox;
  end = get.end;
}
