use Rattle.std.proofs.Common.{◌≡◌, ◌+◌, ◌*◌, ◌++◌, List, ℕ, drop, length}
use Rattle.sw_words.specs.Bytes.{IsBytes}
use Rattle.sw_archive.specs.Decoding.{HavePieces}
use Rattle.sw_archive.proofs.decoding.push_pieces.Given as goal

abbrev pub invariant-loop-archive : goal.invariant-loop-archive
invariant-loop-archive l = record {
  long : length l.out.items ≡ length l.initial.out.items + l.archive-index * l.width;
  left : (pieces : List ℕ) → IsBytes pieces → length pieces ≡ l.fn.layout.code.k * l.width → HavePieces l.fn.layout.code.k l.offset l.width pieces l.archives →
      l.out.items ++ drop (l.archive-index * l.width) pieces ≡ l.initial.out.items ++ pieces;
}
