use Rattle.sw_cell.specs.Calling.{event_of, shown}
use Rattle.sw_cell.proofs.locked.Locked.reply.Given as goal

abbrev pub ghosts-add_reply : goal.ghosts-add_reply
ghosts-add_reply g a = record { event = shown g.D.Disk.tells (event_of a.msg.now a.reply.now) }
