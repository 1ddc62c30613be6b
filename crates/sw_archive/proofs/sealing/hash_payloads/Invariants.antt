use Rattle.std.proofs.Common.{◌≡◌, ◌+◌, ◌++◌, ℕ, List, map}
use Rattle.std.specs.List.{range_with_len}
use Rattle.std.specs.Slice.Iter.{chunks_rest, chunks_size}
use Rattle.sw_md5.specs.UnderWay.{HoldsMessages, count_of}
use Rattle.sw_archive.specs.Put.{payload}
use Rattle.sw_archive.proofs.SideBySide.{AreUnderWay}
use Rattle.sw_archive.proofs.sealing.hash_payloads.Given as goal

-- each message so far and the payload of what is left are the message and its payload
abbrev pub invariant-loop-segment : goal.invariant-loop-segment
invariant-loop-segment l = record {
  size : chunks_size l.segment-iterator ≡ l.size;
  count : count_of l.digests ≡ l.code.k + l.code.m;
  held : (message : ℕ → List ℕ) → HoldsMessages l.fn.digests (map message (range_with_len 0 (l.code.k + l.code.m)))
      → AreUnderWay l.digests (l.code.k + l.code.m) (λ index. payload l.code.k l.size (chunks_rest l.segment-iterator) index) (λ index. message index ++ payload l.code.k l.size l.body index);
}
