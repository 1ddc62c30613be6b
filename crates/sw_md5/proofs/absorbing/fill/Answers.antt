use Rattle.std.proofs.Common.{◌-◌, ◌<◌, length, take, map, refl, ap, arith}
use Rattle.std.proofs.lemmas.List.{length-map, length-take-le}
use Rattle.sw_md5.specs.Side.{item}
use Rattle.sw_md5.proofs.Continued.{goes_on_filled}
use Rattle.sw_md5.proofs.Pieces.{own_item}
use Rattle.sw_md5.proofs.absorbing.fill.Goals as goal

pub add_blocks-requires-clause-reach : goal.add_blocks-requires-clause-reach
add_blocks-requires-clause-reach g c = λ i there.
    let n = length c.args.pieces.now in
    let rests = c.keep_all.new.rests in
    let within : i < n = omega (arith, length-map (take n rests) (λ x. x), length-take-le n rests (omega arith)) in
    let long = c.keep_all.ensures.long i within in
    omega (arith, long, ap length (own_item rests i n within))

pub returns : goal.returns
returns g c = λ i m within at held.
    let n = length c.args.pieces.now in
    let rests = c.keep_all.new.rests in
    let contents = map g.P.Piece.content c.args.pieces.now in
    let there : i < length (take n rests) = omega (arith, length-take-le n rests (omega arith)) in
    let some : i < length contents = omega (arith, length-map c.args.pieces.now g.P.Piece.content) in
    rw (c.add_blocks.ensures i there) (goes_on_filled (item c.args.states.now i) (item c.args.rests.now i) (item rests i) (item (map (λ x. x) (take n rests)) i) m (item contents i) c.args.used (64 - c.args.used)
    held at c.requires.used refl (c.requires.reach i some) (own_item rests i n within) (c.keep_all.ensures.kept i within))
