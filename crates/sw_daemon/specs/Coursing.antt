-- What is seen of a course, and how far a pass is by it.
use Rattle.std.specs.Prelude.{◌≡◌, ℕ, ◌^◌, ◌<◌, Bool, true, false, List, Option, ⊤}
use Rattle.sw_suffix.specs.Table.{Hashed}
use Rattle.std.specs.List.{All}
use Rattle.sw_hashpath.specs.Place.{PlaceModel, part_of}
use Rattle.sw_ring.specs.Cluster.{ClusterModel}
use Rattle.sw_message.specs.Message.{IsMember}
use Rattle.sw_daemon.specs.Comparing.{AreDiffering, Comparing}
use Rattle.sw_daemon.specs.Pass as passes
use Rattle.sw_daemon.specs.Pass.{Does, Ends, Status}
use Rattle.sw_daemon.specs.declared.report.PassReport.{PassReport}
use Rattle.sw_daemon.specs.declared.task.Task.{Task}
use Rattle.sw_daemon.specs.declared.task.Task.TheVariants.{ListOther, ListOwn, ListParts, ListPlaces, Over, Treat}

pub record Course : Type 0 where
  pub task : Task
  pub places : List PlaceModel
  pub parts : List ℕ
  pub report : PassReport

abbrev pub is_over : Task → Bool
is_over Over = true
is_over other = false

-- a question is asked for it; another primary is
abbrev pub is_asking : Task → Bool
is_asking (Treat place) = false
is_asking Over = false
is_asking other = true

abbrev pub is_comparing : Task → Bool
is_comparing (ListOther comparing) = true
is_comparing other = false

-- ---- what it stands for

pub record IsComparing (seen : Comparing) (part : ℕ) (own : List Hashed) (heard : List (Option (List Hashed))) (device : ℕ) (others : List ℕ) : Type 0 where
  pub part_is : seen.part ≡ part
  pub own_is : seen.own ≡ own
  pub differing : AreDiffering seen.differing own heard
  pub device_is : seen.device ≡ device
  pub others_are : seen.others ≡ others

abbrev pub IsTask : Task → passes.Task → Type 0
IsTask ListParts task = task ≡ passes.ListParts
IsTask (ListPlaces part) task = task ≡ passes.ListPlaces part
IsTask (ListOwn part) task = task ≡ passes.ListOwn part
IsTask (ListOther comparing) (passes.ListOther part own heard device others) = IsComparing comparing part own heard device others
IsTask (ListOther comparing) other = ⊥
IsTask (Treat place) task = task ≡ passes.Treat place
IsTask Over task = ⊥

pub record IsCourse (seen : Course) (course : passes.Course) : Type 0 where
  pub task : IsTask seen.task course.task
  pub places_are : seen.places ≡ course.places
  pub parts_are : seen.parts ≡ course.parts
  pub report_is : seen.report ≡ course.report

abbrev pub IsStatus : Course → Status → Type 0
IsStatus seen (Does course) = IsCourse seen course
IsStatus seen (Ends report) = (seen.task ≡ Over) × (seen.report ≡ report)

-- ---- what it is about

-- a place of a partition of the ring, which is that of its hash
pub record IsOfHash (power : ℕ) (place : PlaceModel) : Type 0 where
  pub below : place.part < 2 ^ power
  pub part_is : place.part ≡ part_of place.hash power

-- a partition of the ring, devices of the cluster, a place of its partitions
abbrev pub IsSoundTask : ClusterModel → Task → Type 0
IsSoundTask cluster ListParts = ⊤
IsSoundTask cluster (ListPlaces part) = part < 2 ^ cluster.part_power
IsSoundTask cluster (ListOwn part) = part < 2 ^ cluster.part_power
IsSoundTask cluster (ListOther comparing) = (comparing.part < 2 ^ cluster.part_power) × IsMember cluster comparing.device × All (IsMember cluster) comparing.others
IsSoundTask cluster (Treat place) = IsOfHash cluster.part_power place
IsSoundTask cluster Over = ⊤

pub record IsSound (cluster : ClusterModel) (seen : Course) : Type 0 where
  pub task : IsSoundTask cluster seen.task
  pub places : All (IsOfHash cluster.part_power) seen.places
  pub parts : All (λ part. part < 2 ^ cluster.part_power) seen.parts
