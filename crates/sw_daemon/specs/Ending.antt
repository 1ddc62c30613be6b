-- How a stage ended, as it is lent.
use Rattle.sw_daemon.specs.Stage.{Answered, End, Reverted, Synced}
use Rattle.sw_daemon.specs.declared.stage.StageEnd.{StageEnd}
use Rattle.sw_daemon.specs.declared.stage.StageEnd.TheVariants as lent

abbrev pub end_seen : StageEnd → End
end_seen (lent.Answered answer) = Answered answer.now
end_seen (lent.Synced end) = Synced end.now
end_seen (lent.Reverted end) = Reverted end.now
