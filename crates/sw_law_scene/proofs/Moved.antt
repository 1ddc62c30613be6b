-- What a scene keeps as it moves: what is known, its messages, and that it is sound.
use Rattle.std.proofs.Common.{◌≡◌, ℕ, Contains, List, [], ◌∷◌, ◌++◌, ap, refl, sym, subst, ◌∙◌}
use Rattle.std.proofs.lemmas.List.{append-nil}
use Rattle.std.proofs.lemmas.List.Elements.{Contains-append_right}
use Rattle.sw_diskfile.proofs.Lists.{Contains-map}
use Rattle.sw_message.specs.Learnt.{Heard}
use Rattle.sw_message.specs.declared.sent.Sent.{Sent}
use Rattle.sw_law_scene.specs.Moves.{next_stamp, requests_of, sends}
use Rattle.sw_law_scene.specs.Scene.{Request, Scene, heard_in, known_to}
use Rattle.sw_law_scene.specs.SceneMove.{Asked, AtDevice, Crashed, CrashedMounting, DeviceMove, Failed, Handled, IsWarrantedMove, Lost, MayHappen, Notes, NotesDelete, NotesNothing, NotesPut, Passed, Restarted, SceneMove, Stopped}
use Rattle.sw_law_scene.specs.Sound.{IsSoundScene, MayBeSent}
use Rattle.sw_law_scene.proofs.DeviceMoves.{crashes-sound, crashes_mounting-sound, fails-sound, handles-sound, lost-sound, restarts-sound, stopped-sound}
use Rattle.sw_law_scene.proofs.Growth.{Follows, books-follows, crashes-follows, crashes_mounting-follows, fails-follows, handles-follows, heard-append, lost-follows, marks-follows, restarts-follows, same-follows, stopped-follows, ticked-follows}
use Rattle.sw_law_scene.proofs.Sounds.{books-sound, marks-sound, sends-sound, ticked-sound}

module _ (scene : Scene) where
  -- where something happens to a device, no request is made
  pub moved-follows : (after : Scene) → DeviceMove scene after → Follows scene after
  moved-follows _ Passed = ticked-follows scene
  moved-follows _ (Handled at operation sent request after done) = handles-follows scene operation sent after done
  moved-follows _ (Failed at operation sent request after done) = fails-follows scene operation sent after done
  moved-follows _ (Crashed at operation sent request after done) = crashes-follows scene sent after done
  moved-follows _ (CrashedMounting device after done) = crashes_mounting-follows scene device after done
  moved-follows _ (Stopped device) = stopped-follows scene device
  moved-follows _ (Restarted device after done) = restarts-follows scene device after done
  moved-follows _ (Lost device) = lost-follows scene device

  module _ (clock : ℕ) where
    -- nor where something is noted
    pub noted-follows : (noted : Scene) → Notes clock scene noted → Follows scene noted
    noted-follows _ NotesNothing = same-follows scene
    noted-follows _ (NotesPut name object left put) = books-follows scene (next_stamp clock scene.last) name object
    noted-follows _ (NotesDelete name left) = marks-follows scene (next_stamp clock scene.last) name

    -- the messages are the same then
    pub noted-messages : (noted : Scene) → Notes clock scene noted → noted.messages ≡ scene.messages
    noted-messages _ NotesNothing = refl
    noted-messages _ (NotesPut name object left put) = refl
    noted-messages _ (NotesDelete name left) = refl

-- ---- soundness

module _ (scene : Scene) (sound : IsSoundScene scene) where
  -- whatever happens to a device
  moved-sound : (after : Scene) → DeviceMove scene after → IsSoundScene after
  moved-sound _ Passed = ticked-sound scene sound
  moved-sound _ (Handled at operation sent request after done) = handles-sound scene sound at operation sent request after done
  moved-sound _ (Failed at operation sent request after done) = fails-sound scene sound at operation sent request after done
  moved-sound _ (Crashed at operation sent request after done) = crashes-sound scene sound at operation sent request after done
  moved-sound _ (CrashedMounting device after done) = crashes_mounting-sound scene sound device after done
  moved-sound _ (Stopped device) = stopped-sound scene sound device
  moved-sound _ (Restarted device after done) = restarts-sound scene sound device after done
  moved-sound _ (Lost device) = lost-sound scene sound device

  module _ (clock : ℕ) where
    -- whatever is noted
    noted-sound : (noted : Scene) → Notes clock scene noted → IsSoundScene noted
    noted-sound _ NotesNothing = sound
    noted-sound _ (NotesPut name object left put) = books-sound scene sound clock name object put
    noted-sound _ (NotesDelete name left) = marks-sound scene sound clock name

    -- and whatever messages are made, if they may be sent
    by-move : (after : Scene) (move : SceneMove clock scene after) → IsWarrantedMove clock scene after move → IsSoundScene after
    by-move _ (AtDevice after move) warranted = moved-sound after move
    by-move _ (Asked noted begins number sents) warranted = sends-sound noted (noted-sound noted begins) number sents warranted

    -- so whatever may happen
    pub may-sound : (after : Scene) → MayHappen clock scene after → IsSoundScene after
    may-sound after may = by-move after may.0 may.1

-- ---- what may happen

-- requests tell nothing
none_heard : (at operation : ℕ) (sents : List Sent) → heard_in (requests_of at operation sents) ≡ []
none_heard at operation [] = refl
none_heard at operation (sent ∷ sents) = none_heard at operation sents

module _ (noted : Scene) (number : ℕ) (sents : List Sent) where
  same_heard : heard_in (sends number sents noted).messages ≡ heard_in noted.messages
  same_heard =
      let more = requests_of noted.now number sents in
      heard-append noted.messages more ∙ ap (λ (heard : List Heard). heard_in noted.messages ++ heard) (none_heard noted.now number sents) ∙ append-nil (heard_in noted.messages)

  -- so each message that was made by now in a sound scene was warranted before
  pub sends-warranted : IsSoundScene (sends number sents noted) → (sent : Sent) → Contains sents sent → MayBeSent noted.cluster (known_to noted) sent.msg
  sends-warranted sound sent has =
      let request = Request noted.now number sent in
      let there = Contains-append_right noted.messages (requests_of noted.now number sents) request (Contains-map (λ (one : Sent). Request noted.now number one) sents sent has) in
      subst (λ (heard : List Heard). MayBeSent noted.cluster (record (known_to noted) { heard = heard }) sent.msg) same_heard (sound.messages request there)
