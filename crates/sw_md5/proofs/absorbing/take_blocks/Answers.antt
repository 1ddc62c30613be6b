use Rattle.std.proofs.Common.{◌-◌, ◌/◌, ◌<◌, length, map, refl, arith}
use Rattle.std.proofs.lemmas.List.{length-map}
use Rattle.sw_md5.specs.Side.{item}
use Rattle.sw_md5.proofs.Continued.{goes_on_whole}
use Rattle.sw_md5.proofs.absorbing.take_blocks.Goals as goal

pub returns : goal.returns
returns g c = λ i m within edge held.
    let contents = map g.P.Piece.content c.args.pieces.now in
    let there : i < length contents = omega (arith, length-map c.args.pieces.now g.P.Piece.content) in
    goes_on_whole (item c.args.states.now i) (item c.add_blocks.new.states i) (item c.args.rests.now i) (item c.keep_all.new.rests i) m (item contents i) c.args.from c.args.to ((c.args.to - c.args.from) / 64)
    held edge c.requires.order (c.requires.long i there) refl (c.add_blocks.ensures i within) (c.keep_all.ensures.kept i within)
