use Rattle.sw_httpread.proofs.Ends.{ends_not_yet, has_whole}
use Rattle.sw_httpread.proofs.ending.ending_of.Goals as goal

pub returns-in-Some : goal.returns-in-Some
returns-in-Some g c = has_whole g.F.Form.whole _ _ _ c.min.ensures c.in-Some.ensures

pub returns-then-bytes-lt-LIMIT : goal.returns-then-bytes-lt-LIMIT
returns-then-bytes-lt-LIMIT g c = (c.if-bytes-lt-LIMIT.true, ends_not_yet g.F.Form.whole _ _ c.min.ensures c.in-None.ensures)

pub returns-else-bytes-lt-LIMIT : goal.returns-else-bytes-lt-LIMIT
returns-else-bytes-lt-LIMIT g c = (c.if-bytes-lt-LIMIT.false, ends_not_yet g.F.Form.whole _ _ c.min.ensures c.in-None.ensures)
