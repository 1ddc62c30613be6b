use Rattle.std.proofs.Common.{◌≡◌, ◌++◌}
use Rattle.std.specs.Slice.Iter.{chunks_rest, chunks_size}
use Rattle.sw_archive.specs.Put.{payload}
use Rattle.sw_archive.proofs.payload.push_payload.Given as goal

-- the fragments so far and those of what is left are the payload
abbrev pub invariant-loop-segment : goal.invariant-loop-segment
invariant-loop-segment l = record {
  size : chunks_size l.segment-iterator ≡ l.size;
  added : l.out.items ++ payload l.code.k l.size (chunks_rest l.segment-iterator) l.index ≡ l.fn.out.items ++ payload l.code.k l.size l.body l.index;
}
