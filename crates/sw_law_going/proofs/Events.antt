-- Each basic event that may happen to a world of a run leads to some world.
use Rattle.std.proofs.Common.{◌≡◌, ℕ, ◌+◌, Bool, true, false, Contains, List, [], ◌∷◌, ◌++◌, length, Option, Some, None, refl, sym, subst}
use Rattle.std.specs.Prelude.{MatchBool}
use Rattle.sw_types.specs.Name.{NameModel}
use Rattle.sw_ring.specs.Cluster.{ClusterModel, KeepsRules, ids_of, place_of_name}
use Rattle.sw_ring.specs.Ring.{is_among}
use Rattle.sw_message.specs.Learnt.{IsSoundBook}
use Rattle.sw_message.specs.Message.{IsMember, is_primary}
use Rattle.sw_message.specs.Transcript.{Step, after_answer}
use Rattle.sw_message.specs.declared.reply.Reply.{Reply}
use Rattle.sw_message.specs.declared.sent.Sent.{Sent}
use Rattle.sw_quorum.proofs.Places.{place_right}
use Rattle.sw_delete.specs.Delete as deletes
use Rattle.sw_put.specs.Put as puts
use Rattle.sw_law_scene.specs.Moves.{CrashesMounting, Crashes, Fails, Handles, Restarts, books, lost, marks, sends, stopped}
use Rattle.sw_law_scene.specs.Scene.{Answer, Message, Request, Scene, is_down, is_up, known_to}
use Rattle.sw_core.specs.Event.{Begins, Comes, Crash, CrashMount, Delete, Deliver, Event, Fault, Get, GiveUp, Happens, Head, IsRun, TakesAnswer, Job, Lose, OnRequest, OnScene, Proceeds, Put, Recon, Restart, SetClock, Start, Starts, Stop, begins, idle, stamp_in, with_scene}
use Rattle.sw_operation.specs.Operating.{Begun, Delete as DeleteBegun, Get as GetBegun, Head as HeadBegun, IsBegun, Put as PutBegun, cluster_of, recon_of}
use Rattle.sw_core.specs.Sound.{IsSoundWorld, Stands}
use Rattle.sw_core.specs.World.{Operating, World, numbered, with_numbered}
use Rattle.sw_core.proofs.Happening.{run-sound}
use Rattle.sw_core.proofs.Numbered.{numbered-contains}
use Rattle.sw_core.proofs.Telling.{answered-stands, given_up-stands}
use Rattle.sw_law_kept.specs.Kept.{KeepsAll}
use Rattle.sw_law_promise.proofs.Runs.{run_keeps_all}
use Rattle.sw_law_possible.proofs.Moves.{crashes, crashes_mounting, fails, handles, restarts}
use Rattle.sw_law_going.specs.Going.{MayHappenTo, MayStart}
use Rattle.sw_law_going.proofs.Brought.{none_stored}
use Rattle.sw_law_going.proofs.Operations.{rests_of, standing_rests}
use Rattle.sw_law_going.proofs.Replies.{AllRight, run_right}
use Rattle.sw_law_going.proofs.Rests.{ComesToRest}

-- some world
abbrev Some_world : (World → Type 0) → Type 0
Some_world P = (after : World) × P after

-- ---- operations

-- an operation goes on where it comes to rest
proceeds : (world : World) (number : ℕ) (operation : Operating) (past : List Step) → ComesToRest operation.begun past → Some_world (Proceeds world number operation past)
proceeds world number operation past rest =
    let later : Operating = record operation { past = rest.later; is_over = rest.is_over } in (
      record world { scene = sends number rest.sents world.scene; operations = with_numbered number later world.operations },
      record { sents = rest.sents; later = later; goes_on = record { handed = rest.handed; rests = rest.rests; same = refl }; after_is = refl },
    )

module _ (world : World) (keeps : KeepsAll world.scene) (right : AllRight world.scene) where
  -- ---- starts

  abbrev cluster : ClusterModel
  cluster = world.scene.cluster

  rules : KeepsRules cluster
  rules = keeps.sound.rules

  begins_so : (begun : Begun) → cluster_of begun ≡ cluster → IsBegun begun → (scene : Scene) → Some_world (Begins begun scene world)
  begins_so begun same valid scene =
      let book = (known_to world.scene).book in
      let sound = subst (λ (one : ClusterModel). IsSoundBook one.policy book) (sym same) keeps.sound.book in
      proceeds (record world { scene = scene; operations = world.operations ++ begins begun world ∷ [] }) (length world.operations + 1) (begins begun world) []
      (rests_of begun valid book sound [] tt (none_stored (cluster_of begun) book))

  recons : (device : ℕ) (name : NameModel) → IsMember cluster device → (primary : Bool) → is_primary cluster device (place_of_name cluster name) ≡ primary → Some_world (Begins (recon_of primary cluster device name) world.scene world)
  recons device name member true is = begins_so (recon_of true cluster device name) refl (record { rules = rules; right = place_right cluster name; primary = is }) world.scene
  recons device name member false is = begins_so (recon_of false cluster device name) refl (record { rules = rules; right = place_right cluster name; member = member; handoff = is }) world.scene

  starts : (job : Job) → MayStart world job → Some_world (Starts job world)
  starts (Put name object) may =
      let begun : puts.Begun = record { cluster = cluster; stamp = stamp_in world; name = name; object = object } in
      let is = begins_so (PutBegun begun) refl (record { rules = rules }) (books (stamp_in world) name object world.scene) in (is.0, (may.0, may.1, is.1))
  starts (Delete name) may =
      let begun : deletes.Begun = record { cluster = cluster; stamp = stamp_in world; name = name } in
      let is = begins_so (DeleteBegun begun) refl (record { rules = rules }) (marks (stamp_in world) name world.scene) in (is.0, (may, is.1))
  starts (Get name) may = begins_so (GetBegun (record { cluster = cluster; name = name })) refl (record { rules = rules }) world.scene
  starts (Head name) may = begins_so (HeadBegun (record { cluster = cluster; name = name })) refl (record { rules = rules }) world.scene
  starts (Recon device name) may = let is = recons device name may (is_primary cluster device (place_of_name cluster name)) refl in (is.0, (may, is.1))

  -- ---- answers

  -- of an operation that stands with it
  module _ (number ticket : ℕ) (answer : Option Reply) (stand : (operation : Operating) → numbered world.operations number ≡ Some operation → Stands world.scene number (record operation { past = after_answer operation.past ticket answer })) where
    told_by : (operation : Operating) → numbered world.operations number ≡ Some operation → (is_over : Bool)
        → Some_world (λ after. MatchBool is_over (after ≡ idle world) (Proceeds world number operation (after_answer operation.past ticket answer) after))
    told_by operation is true = (idle world, refl)
    told_by operation is false =
        let past = after_answer operation.past ticket answer in
        proceeds world number operation past (standing_rests world.scene keeps.sound right number (record operation { past = past }) (stand operation is))

    tells : (found : Option Operating) → numbered world.operations number ≡ found → Some_world (TakesAnswer found number ticket answer world)
    tells None is = (idle world, refl)
    tells (Some operation) is = told_by operation is operation.is_over

  -- ---- devices

  on_scene : (does : Scene → Type 0) → ((after : Scene) × does after) → (may : Bool) → Some_world (OnScene may does world)
  on_scene does done true = (with_scene done.0 world, (done.0, done.1, refl))
  on_scene does done false = (idle world, refl)

  on_request : (does : ℕ → Sent → Scene → Type 0) → ((at operation : ℕ) (sent : Sent) → Contains world.scene.messages (Request at operation sent) → (after : Scene) × does operation sent after)
      → (message : ℕ) (posted : Option Message) → numbered world.scene.messages message ≡ posted → Some_world (OnRequest posted does world)
  on_request does done message None is = (idle world, refl)
  on_request does done message (Some (Answer at operation sent reply)) is = (idle world, refl)
  on_request does done message (Some (Request at operation sent)) is =
      on_scene (does operation sent) (done at operation sent (numbered-contains world.scene.messages message (Request at operation sent) is)) (is_up world.scene sent.device)

  module _ (sound : IsSoundWorld cluster world) where
    comes : (message : ℕ) (posted : Option Message) → numbered world.scene.messages message ≡ posted → Some_world (Comes posted world)
    comes message None is = (idle world, refl)
    comes message (Some (Answer at number sent reply)) is =
        tells number sent.ticket (Some reply)
        (λ operation there. answered-stands world.scene number operation (sound.operations number operation there) keeps.sound at sent reply (numbered-contains world.scene.messages message (Answer at number sent reply) is))
        (numbered world.operations number) refl
    comes message (Some (Request at operation sent)) is =
        on_scene (Handles world.scene operation sent) (handles world.scene sent operation keeps at (numbered-contains world.scene.messages message (Request at operation sent) is)) (is_up world.scene sent.device)

    -- ---- events

    happens : (event : Event) → MayHappenTo world event → Some_world (Happens event world)
    happens (Start job) may = starts job may
    happens (Deliver message) may = comes message (numbered world.scene.messages message) refl
    happens (Crash message) may = on_request (λ operation sent. Crashes world.scene sent) (λ at operation sent request. crashes world.scene sent) message (numbered world.scene.messages message) refl
    happens (Fault message) may = on_request (Fails world.scene) (λ at operation sent request. fails world.scene sent operation keeps at request) message (numbered world.scene.messages message) refl
    happens (CrashMount device) may = on_scene (CrashesMounting world.scene device) (crashes_mounting world.scene device) (is_down world.scene device)
    happens (Stop device) may = on_scene (λ scene. scene ≡ stopped device world.scene) (stopped device world.scene, refl) (is_up world.scene device)
    happens (Restart device) may = on_scene (Restarts world.scene device) (restarts world.scene device) (is_down world.scene device)
    happens (Lose device) may = on_scene (λ scene. scene ≡ lost device world.scene) (lost device world.scene, refl) (is_among (ids_of cluster) device)
    happens (GiveUp number ticket) may =
        tells number ticket None (λ operation there. given_up-stands world.scene number operation (sound.operations number operation there) ticket) (numbered world.operations number) refl
    happens (SetClock stamp) may = (record (idle world) { clock = stamp }, (may, refl))

pub goes_on : (cluster : ClusterModel) (events : List Event) (world : World) (event : Event) → IsRun cluster events world → MayHappenTo world event → (after : World) × Happens event world after
goes_on cluster events world event run may =
    let sound = run-sound cluster events world run in
    happens world (run_keeps_all cluster events world run) (run_right cluster events world run) (subst (λ (one : ClusterModel). IsSoundWorld one world) (sym sound.same_cluster) sound) event may

-- no other event happens
pub only : (world after : World) (event : Event) → Happens event world after → MayHappenTo world event
only world after (Start (Put name object)) is = (is.0, is.1)
only world after (Start (Delete name)) is = is.0
only world after (Start (Get name)) is = tt
only world after (Start (Head name)) is = tt
only world after (Start (Recon device name)) is = is.0
only world after (SetClock stamp) is = is.0
only world after other is = tt
