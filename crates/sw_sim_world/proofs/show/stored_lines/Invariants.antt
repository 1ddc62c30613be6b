use Rattle.std.proofs.Common.{take}
use Rattle.std.specs.List.{AllZip}
use Rattle.sw_sim_world.specs.Show.{IsLentEntry}
use Rattle.sw_sim_world.proofs.show.stored_lines.Given as goal

abbrev pub invariant-loop-entry : goal.invariant-loop-entry
invariant-loop-entry l = AllZip (IsLentEntry l.device l.lent) (take l.entry-index l.entries) l.lines.items
