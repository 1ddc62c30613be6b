use Rattle.sw_request.proofs.Tokens.{closing}
use Rattle.std.proofs.Common.{not, rules}
use Rattle.sw_request.proofs.closing.asks_to_close.Goals as goal

pub returns-then-not-is_current : goal.returns-then-not-is_current
returns-then-not-is_current c = closing c.args.head.now (not c.is_current.result) (search rules)

pub returns-else-not-is_current : goal.returns-else-not-is_current
returns-else-not-is_current c = closing c.args.head.now c.lists_close.result (search rules)
