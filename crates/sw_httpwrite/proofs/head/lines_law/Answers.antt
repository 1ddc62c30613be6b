use Rattle.sw_httpwrite.proofs.Lines.{AreFullLines-head}
use Rattle.sw_httpwrite.proofs.head.lines_law.Goals as goal

pub returns : goal.returns
returns c = AreFullLines-head
