use Rattle.std.proofs.Common.{take}
use Rattle.sw_types.proofs.DigitsRead.{AreOf}
use Rattle.sw_types.proofs.decimal.read_digits.Given as goal

-- the digits that are read
abbrev pub invariant-loop-byte : goal.invariant-loop-byte
invariant-loop-byte l = AreOf l.byte-index (take l.byte-index l.text) l.number
