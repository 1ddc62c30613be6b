-- What may happen to a scene, as one of a few moves.
use Rattle.std.specs.Prelude.{◌≤◌, ℕ, Contains, List, ⊤}
use Rattle.sw_types.specs.Name.{NameModel}
use Rattle.sw_types.specs.Object.{ObjectModel}
use Rattle.sw_types.specs.Stamp.{greatest_stamp}
use Rattle.sw_archive.specs.Put.{IsPut}
use Rattle.sw_message.specs.declared.sent.Sent.{Sent}
use Rattle.sw_law_scene.specs.Moves.{Crashes, CrashesMounting, Fails, Handles, Restarts, books, lost, marks, next_stamp, sends, stopped, ticked}
use Rattle.sw_law_scene.specs.Scene.{Request, Scene, known_to}
use Rattle.sw_law_scene.specs.Sound.{MayBeSent}

-- something happens to one device, or nothing but that time passes
pub data DeviceMove (before : Scene) : Scene → Type 0 where
  Passed : DeviceMove before (ticked before)
  -- with a request that was made to it
  Handled : (at operation : ℕ) (sent : Sent) → Contains before.messages (Request at operation sent) → (after : Scene) → Handles before operation sent after → DeviceMove before after
  Failed : (at operation : ℕ) (sent : Sent) → Contains before.messages (Request at operation sent) → (after : Scene) → Fails before operation sent after → DeviceMove before after
  Crashed : (at operation : ℕ) (sent : Sent) → Contains before.messages (Request at operation sent) → (after : Scene) → Crashes before sent after → DeviceMove before after
  -- by itself
  CrashedMounting : (device : ℕ) (after : Scene) → CrashesMounting before device after → DeviceMove before after
  Stopped : (device : ℕ) → DeviceMove before (stopped device before)
  Restarted : (device : ℕ) (after : Scene) → Restarts before device after → DeviceMove before after
  Lost : (device : ℕ) → DeviceMove before (lost device before)

-- What is noted as an operation begins: a put or a delete, with the stamp that it draws, or nothing.
pub data Notes (clock : ℕ) (before : Scene) : Scene → Type 0 where
  NotesNothing : Notes clock before before
  NotesPut : (name : NameModel) (object : ObjectModel) → next_stamp clock before.last ≤ greatest_stamp → IsPut before.cluster.policy (next_stamp clock before.last) name object
      → Notes clock before (books (next_stamp clock before.last) name object before)
  NotesDelete : (name : NameModel) → next_stamp clock before.last ≤ greatest_stamp → Notes clock before (marks (next_stamp clock before.last) name before)

-- Something happens to a device; or an operation makes requests, once what it begins with is noted.
pub data SceneMove (clock : ℕ) (before : Scene) : Scene → Type 0 where
  AtDevice : (after : Scene) → DeviceMove before after → SceneMove clock before after
  Asked : (noted : Scene) → Notes clock before noted → (number : ℕ) (sents : List Sent) → SceneMove clock before (sends number sents noted)

-- each message that is made in a move is about a place of the cluster, and warranted by what is known once the put or delete is noted
abbrev pub IsWarrantedMove : (clock : ℕ) (before after : Scene) → SceneMove clock before after → Type 0
IsWarrantedMove clock before _ (AtDevice after move) = ⊤
IsWarrantedMove clock before _ (Asked noted notes number sents) = (sent : Sent) → Contains sents sent → MayBeSent noted.cluster (known_to noted) sent.msg

-- What may happen to a scene, whoever does it: a move, in which no message is made but a warranted one.
abbrev pub MayHappen : (clock : ℕ) (before after : Scene) → Type 0
MayHappen clock before after = (move : SceneMove clock before after) × IsWarrantedMove clock before after move
