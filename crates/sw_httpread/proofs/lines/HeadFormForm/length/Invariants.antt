use Rattle.std.proofs.Common.{length}
use Rattle.sw_httpread.proofs.Heads.{IsScanned}
use Rattle.sw_httpread.proofs.lines.HeadFormForm.length.Given as goal

abbrev pub invariant-loop-line : goal.invariant-loop-line
invariant-loop-line l = IsScanned l.bytes l.rest l.seen

abbrev pub decreases-loop-line : goal.decreases-loop-line
decreases-loop-line l = length l.rest
