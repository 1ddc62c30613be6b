use Rattle.std.proofs.Common.{take}
use Rattle.sw_httpread.specs.Lines.{IsLine}
use Rattle.sw_httpread.proofs.lines.cut_line.Given as goal

abbrev pub invariant-loop-place : goal.invariant-loop-place
invariant-loop-place l = IsLine (take l.place l.text)
