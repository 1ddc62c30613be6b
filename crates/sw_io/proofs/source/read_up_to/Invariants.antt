use Rattle.std.proofs.Common.{◌≡◌, ◌-◌, ◌<◌, ◌≤◌, length, vec_len}
use Rattle.std.specs.Io.KnownBytes.{Consumes}
use Rattle.sw_io.proofs.source.read_up_to.Given as goal

abbrev pub invariant-loop-bytes : goal.invariant-loop-bytes
invariant-loop-bytes g l = record {
  consumed : Consumes (g.S.Source.remaining l.initial.source) (g.S.Source.remaining l.source) l.bytes;
  within : length l.bytes ≤ l.limit;
  quiet : g.S.Source.faults l.source ≡ g.S.Source.faults l.initial.source;
  room_left : 0 < vec_len l.room;
}

abbrev pub decreases-loop-bytes : goal.decreases-loop-bytes
decreases-loop-bytes g l = l.limit - length l.bytes
