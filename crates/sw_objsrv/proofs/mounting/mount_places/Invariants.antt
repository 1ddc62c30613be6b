use Rattle.std.proofs.Common.{◌≡◌, None, take}
use Rattle.sw_disk.specs.Answers.{texts_of}
use Rattle.sw_objsrv.specs.Mounting.{TidiesEach}
use Rattle.sw_objsrv.proofs.MountedFloors.{HaveFloors}
use Rattle.sw_objsrv.proofs.mounting.mount_places.Given as goal

abbrev pub invariant-loop-folder : goal.invariant-loop-folder
invariant-loop-folder g l = record {
  tidies : TidiesEach g.D.Disk.seen g.D.Disk.left_since l.cluster l.device (texts_of (take l.folder-index l.folder-items)) None l.initial.disk l.disk;
  floors : HaveFloors l.cluster l.device (texts_of (take l.folder-index l.folder-items)) l.floors.floors (g.D.Disk.seen l.disk).told;
  power : l.floors.power ≡ l.cluster.part_power;
}
