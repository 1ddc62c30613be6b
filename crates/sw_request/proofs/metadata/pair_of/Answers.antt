use Rattle.std.proofs.Common.{sym, ◌∙◌}
use Rattle.sw_request.proofs.Pairs.{other_field}
use Rattle.sw_request.proofs.metadata.pair_of.Goals as goal

pub returns-then-not-is_same : goal.returns-then-not-is_same
returns-then-not-is_same c = other_field c.args.field.now c.split_at.result.0.now (cc) (sym c.is_same.ensures ∙ c.if-not-is_same.true)
