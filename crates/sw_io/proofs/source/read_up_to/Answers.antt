use Rattle.std.proofs.Common.{◌+◌, ◌≤◌, length, rules}
use Rattle.std.proofs.lemmas.Result.{err_from_is_err_and}
use Rattle.sw_io.proofs.Pieces.{ConsumesFront-more}
use Rattle.sw_io.proofs.source.read_up_to.Goals as goal

pub returns-in_err-append_piece-clause-front : goal.returns-in_err-append_piece-clause-front
returns-in_err-append_piece-clause-front g c =
    let p = err_from_is_err_and c.from_residual-in_err-append_piece.result c.from_residual-in_err-append_piece.ensures.1 in
    let room : length c.loop-bytes.bytes + length c.append_piece.new.room ≤ c.args.limit = search rules in
    rw p.1 (ConsumesFront-more _ _ _ _ _ _ c.loop-bytes.invariant.consumed room c.in_err-append_piece.ensures.front)
