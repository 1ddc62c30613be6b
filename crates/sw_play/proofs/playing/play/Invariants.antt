use Rattle.std.proofs.Common.{◌≡◌, length}
use Rattle.std.specs.Option.{option_copied}
use Rattle.sw_script.specs.Line.{lines_of}
use Rattle.sw_sim_world.specs.ScriptedWorld.{ScriptedWorld}
use Rattle.sw_sim_world.specs.Standing.{StandsFor}
use Rattle.sw_play.proofs.Cuts.{IsCounted, left_size, lines_left}
use Rattle.sw_play.proofs.Progress.{Progress}
use Rattle.sw_play.proofs.playing.play.Given as goal

abbrev pub invariant-lines : goal.invariant-lines
invariant-lines l = record {
  cluster : l.world.cluster ≡ l.fn.world.cluster;
  counted : IsCounted l.number (length l.fn.input) (option_copied l.left);
  progress : (before : ScriptedWorld) → StandsFor l.fn.world before → Progress before l.world l.fn.text l.text l.number (lines_left (option_copied l.left)) (lines_of l.fn.input);
}

abbrev pub decreases-lines : goal.decreases-lines
decreases-lines l = left_size (option_copied l.left)
