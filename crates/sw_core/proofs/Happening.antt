-- A world stays sound whatever happens, one event or many.
use Rattle.std.proofs.Common.{◌≡◌, ℕ, Bool, true, false, Contains, List, [], ◌∷◌, Option, Some, None, refl, sym, subst}
use Rattle.sw_diskfile.proofs.Lists.{Contains-none}
use Rattle.sw_ring.specs.Cluster.{ClusterModel, KeepsRules}
use Rattle.sw_message.specs.declared.sent.Sent.{Sent}
use Rattle.sw_law_scene.specs.Moves.{Crashes, CrashesMounting, Fails, Handles, Restarts, lost, stopped}
use Rattle.sw_law_scene.specs.Scene.{Answer, Message, Request, Scene, is_up}
use Rattle.sw_law_scene.specs.Sound.{IsSoundScene}
use Rattle.sw_law_scene.proofs.DeviceMoves.{crashes-sound, crashes_mounting-sound, fails-sound, handles-sound, lost-sound, restarts-sound, stopped-sound}
use Rattle.sw_law_scene.proofs.Growth.{Follows, crashes-follows, crashes_mounting-follows, fails-follows, handles-follows, lost-follows, restarts-follows, stopped-follows}
use Rattle.sw_law_scene.proofs.Sounds.{empty-sound}
use Rattle.sw_core.specs.Event.{Comes, Crash, CrashMount, Deliver, Event, Fault, GiveUp, Happens, IsRun, Lead, Lose, OnRequest, OnScene, Restart, SetClock, Start, Stop, idle}
use Rattle.sw_core.specs.Sound.{IsSoundWorld}
use Rattle.sw_core.specs.World.{World, empty_world, numbered}
use Rattle.sw_core.proofs.Numbered.{none-numbered, numbered-contains}
use Rattle.sw_core.proofs.Proceeding.{scene-sound}
use Rattle.sw_core.proofs.Starting.{starts-sound}
use Rattle.sw_core.proofs.Telling.{answered-stands, given_up-stands, idle-sound, told-sound}

-- what may happen to a scene leaves it sound, and makes no request
abbrev IsHarmless : Scene → (Scene → Type 0) → Type 0
IsHarmless scene does = (after : Scene) → does after → Follows scene after × IsSoundScene after

module _ (cluster : ClusterModel) (world : World) (sound : IsSoundWorld cluster world) where
  idles : (after : World) → after ≡ idle world → IsSoundWorld cluster after
  idles after same = subst (IsSoundWorld cluster) (sym same) (idle-sound cluster world sound)

  on_scene-sound : (does : Scene → Type 0) → IsHarmless world.scene does → (after : World) (may : Bool) → OnScene may does world after → IsSoundWorld cluster after
  on_scene-sound does harmless after false same = idles after same
  on_scene-sound does harmless after true (scene, done, same) =
      let kept = harmless scene done in subst (IsSoundWorld cluster) (sym same) (scene-sound cluster world sound scene kept.0 kept.1)

  -- ---- messages

  abbrev IsRequest : ℕ → Sent → Type 0
  IsRequest operation sent = (at : ℕ) × Contains world.scene.messages (Request at operation sent)

  handling : (operation : ℕ) (sent : Sent) → IsRequest operation sent → IsHarmless world.scene (Handles world.scene operation sent)
  handling operation sent (at, has) after done = (handles-follows world.scene operation sent after done, handles-sound world.scene sound.scene at operation sent has after done)

  failing : (operation : ℕ) (sent : Sent) → IsRequest operation sent → IsHarmless world.scene (Fails world.scene operation sent)
  failing operation sent (at, has) after done = (fails-follows world.scene operation sent after done, fails-sound world.scene sound.scene at operation sent has after done)

  crashing : (operation : ℕ) (sent : Sent) → IsRequest operation sent → IsHarmless world.scene (Crashes world.scene sent)
  crashing operation sent (at, has) after done = (crashes-follows world.scene sent after done, crashes-sound world.scene sound.scene at operation sent has after done)

  on_request-sound : (does : ℕ → Sent → Scene → Type 0) → ((operation : ℕ) (sent : Sent) → IsRequest operation sent → IsHarmless world.scene (does operation sent))
      → (after : World) (message : ℕ) (posted : Option Message) → numbered world.scene.messages message ≡ posted → OnRequest posted does world after → IsSoundWorld cluster after
  on_request-sound does harmless after message None is same = idles after same
  on_request-sound does harmless after message (Some (Answer at operation sent reply)) is same = idles after same
  on_request-sound does harmless after message (Some (Request at operation sent)) is done =
      on_scene-sound (does operation sent) (harmless operation sent (at, numbered-contains world.scene.messages message (Request at operation sent) is)) after (is_up world.scene sent.device) done

  comes-sound : (after : World) (message : ℕ) (posted : Option Message) → numbered world.scene.messages message ≡ posted → Comes posted world after → IsSoundWorld cluster after
  comes-sound after message None is same = idles after same
  comes-sound after message (Some (Request at operation sent)) is done =
      on_scene-sound (Handles world.scene operation sent) (handling operation sent (at, numbered-contains world.scene.messages message (Request at operation sent) is)) after (is_up world.scene sent.device) done
  comes-sound after message (Some (Answer at number sent reply)) is goes =
      told-sound cluster world sound number sent.ticket (Some reply)
      (λ operation there. answered-stands world.scene number operation (sound.operations number operation there) sound.scene at sent reply (numbered-contains world.scene.messages message (Answer at number sent reply) is))
      after (numbered world.operations number) refl goes

  clock-sound : (stamp : ℕ) → IsSoundWorld cluster (record (idle world) { clock = stamp })
  clock-sound stamp =
      let idled = idle-sound cluster world sound in
      record { same_cluster = idled.same_cluster; scene = idled.scene; operations = idled.operations; numbers = idled.numbers }

  -- ---- events

  happens-sound : (event : Event) (after : World) → Happens event world after → IsSoundWorld cluster after
  happens-sound (Start job) after goes = starts-sound cluster world sound job after goes
  happens-sound (Deliver message) after goes = comes-sound after message (numbered world.scene.messages message) refl goes
  happens-sound (Crash message) after goes = on_request-sound (λ operation sent. Crashes world.scene sent) crashing after message (numbered world.scene.messages message) refl goes
  happens-sound (Fault message) after goes = on_request-sound (λ operation sent. Fails world.scene operation sent) failing after message (numbered world.scene.messages message) refl goes
  happens-sound (CrashMount device) after goes =
      on_scene-sound (CrashesMounting world.scene device) (λ scene done. (crashes_mounting-follows world.scene device scene done, crashes_mounting-sound world.scene sound.scene device scene done)) after _ goes
  happens-sound (Stop device) after goes =
      on_scene-sound (λ scene. scene ≡ stopped device world.scene)
      (λ scene same. subst (λ (one : Scene). Follows world.scene one × IsSoundScene one) (sym same) (stopped-follows world.scene device, stopped-sound world.scene sound.scene device)) after _ goes
  happens-sound (Restart device) after goes =
      on_scene-sound (Restarts world.scene device) (λ scene done. (restarts-follows world.scene device scene done, restarts-sound world.scene sound.scene device scene done)) after _ goes
  happens-sound (Lose device) after goes =
      on_scene-sound (λ scene. scene ≡ lost device world.scene)
      (λ scene same. subst (λ (one : Scene). Follows world.scene one × IsSoundScene one) (sym same) (lost-follows world.scene device, lost-sound world.scene sound.scene device)) after _ goes
  happens-sound (GiveUp number ticket) after goes =
      told-sound cluster world sound number ticket None (λ operation there. given_up-stands world.scene number operation (sound.operations number operation there) ticket) after (numbered world.operations number) refl goes
  happens-sound (SetClock stamp) after (fits, same) = subst (IsSoundWorld cluster) (sym same) (clock-sound stamp)

-- ---- runs

pub leads-sound : (cluster : ClusterModel) (before : World) (events : List Event) (after : World) → IsSoundWorld cluster before → Lead before events after → IsSoundWorld cluster after
leads-sound cluster before [] after sound same = subst (IsSoundWorld cluster) (sym same) sound
leads-sound cluster before (event ∷ events) after sound (between, happens, lead) = leads-sound cluster between events after (happens-sound cluster before sound event between happens) lead

empty_world-sound : (cluster : ClusterModel) → KeepsRules cluster → IsSoundWorld cluster (empty_world cluster)
empty_world-sound cluster rules = record {
  same_cluster = refl;
  scene = empty-sound cluster rules;
  operations = λ number operation is. absurd (none-numbered number operation is);
  numbers = λ at number sent has. absurd (Contains-none _ has);
}

pub run-sound : (cluster : ClusterModel) (events : List Event) (world : World) → IsRun cluster events world → IsSoundWorld cluster world
run-sound cluster events world run = leads-sound cluster (empty_world cluster) events world (empty_world-sound cluster run.rules) run.lead
