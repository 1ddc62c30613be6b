-- The invariant holds of every world of a run.
use Rattle.std.proofs.Common.{List, subst}
use Rattle.sw_ring.specs.Cluster.{ClusterModel}
use Rattle.sw_law_scene.specs.Disks.{AreOfPlaces}
use Rattle.sw_law_scene.specs.Filed.{IsDiskFiled}
use Rattle.sw_law_scene.specs.Scene.{disk_of, known_to}
use Rattle.sw_law_scene.specs.Sound.{MayBeMade}
use Rattle.sw_core.specs.Event.{Event, IsRun}
use Rattle.sw_core.specs.World.{World}
use Rattle.sw_core.proofs.Happening.{run-sound}
use Rattle.sw_law_promise.proofs.Runs.{run_keeps_all}
use Rattle.sw_law_duties.proofs.Apart.{counts_apart}
use Rattle.sw_law_headline.specs.Invariant.{Invariant}

pub invariant : (cluster : ClusterModel) (events : List Event) (world : World) → IsRun cluster events world → Invariant cluster world
invariant cluster events world run =
    let sound = run-sound cluster events world run in
    let keeps = run_keeps_all cluster events world run in
    record {
      sound = sound;
      filed = λ device. subst (λ (one : ClusterModel). IsDiskFiled one (known_to world.scene).book (disk_of world.scene device)) sound.same_cluster (sound.scene.filed device);
      of_places = λ device side is. subst (λ (one : ClusterModel). AreOfPlaces one side) sound.same_cluster (keeps.of_places device side is);
      made = λ messages has. subst (λ (one : ClusterModel). MayBeMade one (known_to world.scene) messages) sound.same_cluster (sound.scene.messages messages has);
      booked = sound.scene.booked;
      marked = sound.scene.marked;
      stamps = keeps.stamps;
      duties = keeps.duties;
      counted = counts_apart cluster events world run;
    }
