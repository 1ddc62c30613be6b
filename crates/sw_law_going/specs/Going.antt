-- Which basic events may happen to a world.
use Rattle.std.specs.Prelude.{◌≤◌, ⊤}
use Rattle.sw_types.specs.Stamp.{greatest_stamp}
use Rattle.sw_archive.specs.Put.{IsPut}
use Rattle.sw_message.specs.Message.{IsMember}
use Rattle.sw_core.specs.Event.{Delete, Event, Get, Head, Job, Put, Recon, SetClock, Start, stamp_in}
use Rattle.sw_core.specs.World.{World}

-- stamps are not spent, a put keeps its bounds, and a reconstructor is that of a device of the cluster
abbrev pub MayStart : World → Job → Type 0
MayStart world (Put name object) = (stamp_in world ≤ greatest_stamp) × IsPut world.scene.cluster.policy (stamp_in world) name object
MayStart world (Delete name) = stamp_in world ≤ greatest_stamp
MayStart world (Get name) = ⊤
MayStart world (Head name) = ⊤
MayStart world (Recon device name) = IsMember world.scene.cluster device

-- what may happen: anything, but that not every job may start and the clock shows no greater timestamp than there is
abbrev pub MayHappenTo : World → Event → Type 0
MayHappenTo world (Start job) = MayStart world job
MayHappenTo world (SetClock stamp) = stamp ≤ greatest_stamp
MayHappenTo world other = ⊤
