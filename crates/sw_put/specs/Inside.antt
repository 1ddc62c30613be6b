-- A put by its fields.
use Rattle.sw_put.specs.Standing.{PutModel}
use Rattle.sw_put.specs.declared.put.PutOp.TheInside.{Inside}

abbrev pub put_seen : Inside → PutModel
put_seen op = record {
  enough_stored = op.enough_stored;
  enough_committed = op.enough_committed;
  place = op.place;
  policy = op.subject.policy;
  stamp = op.subject.stamp;
  name = op.subject.name;
  object = op.subject.object;
  primaries = op.primaries.items;
  handoffs = op.handoffs.items;
  stores = op.stores.counts;
  commits = op.commits.counts;
  commits_due = op.commits_due.items;
  tickets = op.tickets;
  end = op.end;
}
