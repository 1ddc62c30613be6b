-- A scene keeps its promises whatever happens.
use Rattle.std.proofs.Common.{ℕ}
use Rattle.sw_diskfile.proofs.Lists.{Contains-none}
use Rattle.sw_ring.specs.Cluster.{ClusterModel}
use Rattle.sw_law_scene.specs.Moves.{next_stamp}
use Rattle.sw_law_scene.specs.Scene.{Scene, empty_scene}
use Rattle.sw_law_scene.specs.SceneMove.{Asked, AtDevice, Crashed, CrashedMounting, DeviceMove, Failed, Handled, Lost, Notes, NotesDelete, NotesNothing, NotesPut, Passed, Restarted, SceneMove, Stopped}
use Rattle.sw_law_scene.specs.Sound.{IsSoundScene}
use Rattle.sw_law_kept.proofs.PromiseMoves.{crashes_mounting_promising, crashes_promising, fails_promising, handles_promising, restarts_promising, stopped_promising}
use Rattle.sw_law_kept.proofs.PromiseNews.{IsPromising}
use Rattle.sw_law_kept.proofs.Quiet.{books_promising, lost_promising, marks_promising, sends_promising, ticked_promising}

module _ (scene : Scene) (sound : IsSoundScene scene) (promising : IsPromising scene) where
  -- something happens to a device
  at_device : (after : Scene) → DeviceMove scene after → IsPromising after
  at_device _ Passed = ticked_promising scene promising
  at_device _ (Handled at operation sent request after done) = handles_promising scene sound promising at operation sent request after done
  at_device _ (Failed at operation sent request after done) = fails_promising scene sound promising at operation sent request after done
  at_device _ (Crashed at operation sent request after done) = crashes_promising scene sound promising at operation sent request after done
  at_device _ (CrashedMounting device after done) = crashes_mounting_promising scene sound promising device after done
  at_device _ (Stopped device) = stopped_promising scene sound promising device
  at_device _ (Restarted device after done) = restarts_promising scene sound promising device after done
  at_device _ (Lost device) = lost_promising scene sound device promising

  module _ (clock : ℕ) where
    -- a put or a delete is noted
    notes : (noted : Scene) → Notes clock scene noted → IsPromising noted
    notes _ NotesNothing = promising
    notes _ (NotesPut name object left put) = books_promising scene (next_stamp clock scene.last) name object promising
    notes _ (NotesDelete name left) = marks_promising scene (next_stamp clock scene.last) name left promising

    -- whatever happens
    pub still_promising : (after : Scene) → SceneMove clock scene after → IsPromising after
    still_promising _ (AtDevice after move) = at_device after move
    still_promising _ (Asked noted begins number sents) = sends_promising noted number sents (notes noted begins)

-- of a cluster without messages
pub empty_promising : (cluster : ClusterModel) → IsPromising (empty_scene cluster)
empty_promising cluster = record {
  keeps = record {
    kept = λ made place claim claimed. absurd (Contains-none _ claimed.was_made.2);
    listed = λ made later place claim listing claimed. absurd (Contains-none _ claimed.was_made.2);
  };
  marks = λ marked has. absurd (Contains-none marked has);
  tombstones = λ made was_made. absurd (Contains-none _ was_made.2);
}
