use Rattle.sw_objsrv.specs.Mounting.{fault_of}
use Rattle.sw_cell.specs.Calling.{mount_event}
use Rattle.sw_cell.proofs.locked.Locked.remount.Given as goal

abbrev pub ghosts-add_mount : goal.ghosts-add_mount
ghosts-add_mount g a = record { event = mount_event g.D.Disk.tells a.msg.now (fault_of a.mounted.now) }
