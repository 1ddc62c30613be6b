use Rattle.std.proofs.Common.{◌≡◌, ◌<◌, ap, sym, ◌∙◌, length, map, get_or, arith, []}
use Rattle.md5.specs.Md5.{word_at}
use Rattle.sw_md5.proofs.Pieces.{reaches, content_at}
use Rattle.sw_md5.proofs.loading.word.Goals as goal

pub load_le-requires : goal.load_le-requires
load_le-requires g c =
    let low : c.min.result < length c.args.pieces.now = omega arith in
    let long = reaches g.P.Piece.content c.args.pieces.now c.index-pieces-min.result c.min.result _ c.requires.reach low c.index-pieces-min.is in
    omega (arith, long, ap length c.bytes.ensures)

pub returns : goal.returns
returns g c = λ within.
    let low : c.min.result < length c.args.pieces.now = omega arith in
    let same : c.min.result ≡ c.args.index = omega arith in
    let content = content_at g.P.Piece.content c.args.pieces.now c.index-pieces-min.result c.min.result low c.index-pieces-min.is in
    c.load_le.ensures ∙ ap (λ m. word_at m c.args.at) (c.bytes.ensures ∙ sym content ∙ ap (λ i. get_or (map g.P.Piece.content c.args.pieces.now) i []) same)
