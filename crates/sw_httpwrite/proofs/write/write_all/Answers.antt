use Rattle.std.proofs.Common.{◌<◌, length, rules}
use Rattle.std.proofs.lemmas.List.{take_rest}
use Rattle.std.proofs.lemmas.Result.{err_from_is_err_and}
use Rattle.sw_io.proofs.Pieces.{WrotePart-more, WrotePart-front}
use Rattle.sw_httpwrite.proofs.write.write_all.Goals as goal

pub loop-rest-preserved : goal.loop-rest-preserved
loop-rest-preserved g c = record {
  part = rw take_rest (WrotePart-more _ _ _ _ _ _ c.loop-rest.invariant.part c.in_ok-count.ensures.bytes);
  remaining = search rules;
  closed = search rules;
  quiet = search rules;
}

pub returns-in_err-count-clause-front : goal.returns-in_err-count-clause-front
returns-in_err-count-clause-front g c =
    let p = err_from_is_err_and c.from_residual.result c.from_residual.ensures.1 in
    let left : 0 < length c.loop-rest.rest.now = search rules in
    rw p.1 (WrotePart-front _ _ _ _ _ c.loop-rest.invariant.part left c.in_err-count.ensures.bytes)
