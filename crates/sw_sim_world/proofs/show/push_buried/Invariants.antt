use Rattle.std.proofs.Common.{◌≡◌, ◌++◌, map, take}
use Rattle.sw_sim_world.specs.declared.told.ShowLine.TheVariants.{Buried}
use Rattle.sw_sim_world.proofs.show.push_buried.Given as goal

abbrev pub invariant-loop-stamp : goal.invariant-loop-stamp
invariant-loop-stamp l = l.lines.items ≡ l.initial.lines.items ++ map (Buried l.device) (take l.stamp-index l.stamps)
