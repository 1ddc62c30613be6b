-- A delete by its fields.
use Rattle.sw_delete.specs.Standing.{DeleteModel}
use Rattle.sw_delete.specs.declared.delete.DeleteOp.TheInside.{Inside}

abbrev pub delete_seen : Inside → DeleteModel
delete_seen op = record {
  enough = op.enough;
  place = op.place;
  stamp = op.stamp;
  primaries = op.primaries.items;
  handoffs = op.handoffs.items;
  counts = op.tally.counts;
  existed = op.existed;
  tickets = op.tickets;
  end = op.end;
}
