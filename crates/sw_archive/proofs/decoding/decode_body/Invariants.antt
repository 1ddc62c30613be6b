use Rattle.std.proofs.Common.{◌-◌, List, ℕ, length}
use Rattle.sw_archive.specs.Decoding.{AreLeft, AreReached, HasCode}
use Rattle.sw_archive.specs.Pieces.{AreOfPieces, joined_segments}
use Rattle.sw_archive.proofs.decoding.decode_body.Given as goal

abbrev pub invariant-segments : goal.invariant-segments
invariant-segments l = record {
  code : HasCode l.layout l.gather;
  reached : AreReached l.layout (length l.body.items) l.offset;
  left : (pieces : List (List ℕ)) → AreOfPieces l.archives pieces → AreLeft l.layout l.archives (joined_segments l.layout.size) (length l.body.items) l.offset l.body.items pieces;
}

abbrev pub decreases-segments : goal.decreases-segments
decreases-segments l = l.layout.total - length l.body.items
