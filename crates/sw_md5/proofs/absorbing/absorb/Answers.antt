use Rattle.std.proofs.Common.{◌≡◌, ◌<◌, length, map, sym, ap, ◌∙◌, arith}
use Rattle.std.proofs.lemmas.List.{length-map}
use Rattle.sw_md5.specs.Side.{item}
use Rattle.sw_md5.proofs.Pieces.{content_at}
use Rattle.sw_md5.proofs.Continued.{goes_on_short}
use Rattle.sw_md5.proofs.absorbing.absorb.Goals as goal

pub returns-then-bytes-room : goal.returns-then-bytes-room
returns-then-bytes-room g c = λ i m within at held.
    let contents = map g.P.Piece.content c.args.pieces.now in
    let some : i < length contents = omega (arith, length-map c.args.pieces.now g.P.Piece.content) in
    let bytes = length c.bytes-bytes.result.now in
    let first = content_at g.P.Piece.content c.args.pieces.now c.index-pieces-0.result 0 c.requires.some c.index-pieces-0.is in
    let long : bytes ≡ length (item contents i) = ap length c.bytes-bytes.ensures ∙ sym (ap length first) ∙ sym (c.requires.alike i some) in
    goes_on_short (item c.args.states.now i) (item c.args.rests.now i) (item c.keep_all.new.rests i) m (item contents i) c.args.used bytes held at long (omega arith) (c.keep_all.ensures.kept i within)
