use Rattle.std.proofs.Common.{length}
use Rattle.sw_httpread.proofs.Sections.{IsScannedSection}
use Rattle.sw_httpread.proofs.lines.SectionFormForm.length.Given as goal

abbrev pub invariant-loop-line : goal.invariant-loop-line
invariant-loop-line l = IsScannedSection l.bytes l.rest

abbrev pub decreases-loop-line : goal.decreases-loop-line
decreases-loop-line l = length l.rest
