-- A scene keeps what it does of stamps whatever happens.
use Rattle.std.proofs.Common.{ℕ, Contains, List, Some, refl, subst, arith}
use Rattle.std.proofs.lemmas.List.Elements.{Contains-append_left}
use Rattle.sw_disk.specs.Answers.{names_of}
use Rattle.sw_hashpath.specs.FileName.{file_name_text}
use Rattle.sw_hashpath.specs.Place.{folder_of}
use Rattle.sw_diskfile.proofs.Lists.{Contains-none}
use Rattle.sw_ring.specs.Cluster.{ClusterModel}
use Rattle.sw_message.specs.Step.{Folders}
use Rattle.sw_message.specs.declared.sent.Sent.{Sent}
use Rattle.sw_law_scene.specs.Moves.{books, marks, next_stamp, sends}
use Rattle.sw_law_scene.specs.Scene.{Scene, empty_scene}
use Rattle.sw_law_scene.specs.SceneMove.{Asked, AtDevice, Crashed, CrashedMounting, DeviceMove, Failed, Handled, Lost, Notes, NotesDelete, NotesNothing, NotesPut, Passed, Restarted, SceneMove, Stopped}
use Rattle.sw_law_scene.specs.Sound.{IsSoundScene}
use Rattle.sw_law_owed.proofs.Draws.{books_rise, marks_rise, still_rise}
use Rattle.sw_law_kept.proofs.StampMoves.{crashes_keeping, crashes_mounting_keeping, fails_keeping, handles_keeping, loses_keeping, restarts_keeping, stopped_keeping}
use Rattle.sw_law_kept.proofs.StampNews.{IsKeeping}
use Rattle.sw_law_kept.proofs.Starts.{sends_keeping}
use Rattle.sw_law_kept.proofs.Still.{ticked_keeping}
use Rattle.sw_law_kept.proofs.Warrants.{marks_stamped}

module _ (scene : Scene) (sound : IsSoundScene scene) (keeping : IsKeeping scene) where
  -- something happens to a device
  at_device : (after : Scene) → DeviceMove scene after → IsKeeping after
  at_device _ Passed = ticked_keeping scene keeping
  at_device _ (Handled at operation sent request after done) = handles_keeping scene sound keeping at operation sent request after done
  at_device _ (Failed at operation sent request after done) = fails_keeping scene sound keeping at operation sent request after done
  at_device _ (Crashed at operation sent request after done) = crashes_keeping scene sound keeping at operation sent request after done
  at_device _ (CrashedMounting device after done) = crashes_mounting_keeping scene sound keeping device after done
  at_device _ (Stopped device) = stopped_keeping scene sound keeping device
  at_device _ (Restarted device after done) = restarts_keeping scene sound keeping device after done
  at_device _ (Lost device) = loses_keeping scene sound keeping device

  module _ (clock : ℕ) where
    -- the stamp that is drawn
    abbrev next : ℕ
    next = next_stamp clock scene.last

    -- an operation makes requests, as it begins or goes on
    asks : (noted : Scene) → Notes clock scene noted → (number : ℕ) (sents : List Sent) → IsSoundScene (sends number sents noted) → IsKeeping (sends number sents noted)
    asks _ NotesNothing number sents =
        sends_keeping scene sound keeping scene.book scene.marks scene.last number sents (λ put has. has) (λ delete has. has) keeping.marks (still_rise scene (sends number sents scene) refl (omega arith) keeping.keeps.rise)
    asks _ (NotesPut name object left put) number sents =
        sends_keeping scene sound keeping (books next name object scene).book scene.marks (Some next) number sents (λ one has. Contains-append_left scene.book _ one has) (λ delete has. has) keeping.marks
        (books_rise scene sound clock name keeping.keeps.rise number sents object)
    asks _ (NotesDelete name left) number sents =
        sends_keeping scene sound keeping scene.book (marks next name scene).marks (Some next) number sents (λ put has. has) (λ one has. Contains-append_left scene.marks _ one has)
        (marks_stamped scene next name left keeping.marks) (marks_rise scene sound clock name keeping.keeps.rise number sents)

    -- whatever happens
    pub still_keeping : (after : Scene) → SceneMove clock scene after → IsSoundScene after → IsKeeping after
    still_keeping _ (AtDevice after move) still = at_device after move
    still_keeping _ (Asked noted begins number sents) still = asks noted begins number sents still

-- of a cluster of which nothing is known
pub empty_keeping : (cluster : ClusterModel) → IsKeeping (empty_scene cluster)
empty_keeping cluster = record {
  keeps = record {
    rise = record { rise = λ one other has. absurd (Contains-none one has); same = λ one other has. absurd (Contains-none one has); before = λ one has. absurd (Contains-none one has) };
    disks = λ device side is place name is_place spelt has. absurd (Contains-none _ (subst (λ (folders : Folders). Contains (names_of (folders (folder_of place))) (file_name_text name)) is has));
    replies = λ made place was_made. absurd (Contains-none _ was_made.2);
    requests = λ at operation sent has. absurd (Contains-none _ has);
  };
  marks = λ marked has. absurd (Contains-none marked has);
}
