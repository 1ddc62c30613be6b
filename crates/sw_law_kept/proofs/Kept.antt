-- Whatever may happen to a scene that keeps all that every scene of a run keeps leads to one that does.
use Rattle.std.proofs.Common.{ℕ, ◌≤◌, Some, subst}
use Rattle.sw_types.specs.Stamp.{greatest_stamp}
use Rattle.sw_diskfile.proofs.Lists.{Contains-map}
use Rattle.sw_ring.specs.Cluster.{ClusterModel, KeepsRules}
use Rattle.sw_law_scene.specs.Scene.{Scene, StartedDelete, empty_scene}
use Rattle.sw_law_scene.specs.SceneMove.{MayHappen}
use Rattle.sw_law_scene.proofs.Moved.{may-sound}
use Rattle.sw_law_scene.proofs.Sounds.{empty-sound}
use Rattle.sw_law_owed.specs.Promise.{Made, WasMade}
use Rattle.sw_law_owed.proofs.Requests.{listing_of}
use Rattle.sw_law_kept.specs.Kept.{KeepsAll}
use Rattle.sw_law_kept.proofs.Duties.{scene_keeps}
use Rattle.sw_law_kept.proofs.Places.{empty_so, moves_so}
use Rattle.sw_law_kept.proofs.PromiseNews.{IsListingStamped, IsPromising}
use Rattle.sw_law_kept.proofs.Promises.{empty_promising, still_promising}
use Rattle.sw_law_kept.proofs.StampNews.{IsKeeping}
use Rattle.sw_law_kept.proofs.Stamps.{empty_keeping, still_keeping}

module _ (scene : Scene) (keeps : KeepsAll scene) where
  -- the stamp of each tombstone that a reply lists is that of a delete, and so one that there is
  tombstones : (made : Made) → WasMade scene made → IsListingStamped made
  tombstones made was_made place listing stamp there has among =
      let by = listing_of scene place made.at made.reply listing has (keeps.stamps.replies made place was_made there) in
      let deleted = by.tombstones stamp among in
      subst (λ (s : ℕ). s ≤ greatest_stamp) deleted.2 (keeps.stamped deleted.0.marked (Contains-map (λ (delete : StartedDelete). delete.marked) scene.marks deleted.0 deleted.1))

  promising : IsPromising scene
  promising = record { keeps = keeps.promises; marks = keeps.stamped; tombstones = tombstones }

  keeping : IsKeeping scene
  keeping = record { keeps = keeps.stamps; marks = keeps.stamped }

  -- whatever may happen
  pub still_keeps : (clock : ℕ) (after : Scene) → MayHappen clock scene after → KeepsAll after
  still_keeps clock after may =
      let sound = may-sound scene keeps.sound clock after may in
      let promises = still_promising scene keeps.sound promising clock after may.0 in
      let stamps = still_keeping scene keeps.sound keeping clock after may.0 sound in
      record {
        sound = sound;
        stamped = stamps.marks;
        of_places = moves_so scene keeps.sound keeps.of_places clock after may.0;
        promises = promises.keeps;
        stamps = stamps.keeps;
        duties = scene_keeps after sound promises.keeps stamps.keeps;
      }

-- at first nothing is known, and nothing is owed
pub empty_keeps : (cluster : ClusterModel) → KeepsRules cluster → KeepsAll (empty_scene cluster)
empty_keeps cluster rules =
    let sound = empty-sound cluster rules in
    let promises = empty_promising cluster in
    let stamps = empty_keeping cluster in
    record {
      sound = sound;
      stamped = stamps.marks;
      of_places = empty_so cluster;
      promises = promises.keeps;
      stamps = stamps.keeps;
      duties = scene_keeps (empty_scene cluster) sound promises.keeps stamps.keeps;
    }
