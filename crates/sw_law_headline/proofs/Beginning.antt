-- Operations stay timely as another one begins.
use Rattle.std.proofs.Common.{⊎_elim, ℕ, ◌+◌, Contains, List, [], ◌∷◌, ◌++◌, length, sym, subst}
use Rattle.sw_ring.specs.Cluster.{ClusterModel}
use Rattle.sw_law_scene.specs.Scene.{Answer, Message, Scene}
use Rattle.sw_law_scene.proofs.Growth.{Follows}
use Rattle.sw_core.specs.Event.{Begins, begins}
use Rattle.sw_operation.specs.Operating.{Begun}
use Rattle.sw_core.specs.Sound.{IsSoundWorld}
use Rattle.sw_core.specs.World.{World}
use Rattle.sw_core.proofs.Numbered.{pushed-cases}
use Rattle.sw_core.proofs.Next.{no-answer, no-request}
use Rattle.sw_law_scene.specs.SceneMove.{Notes}
use Rattle.sw_law_scene.proofs.Moved.{noted-follows, noted-messages}
use Rattle.sw_law_headline.specs.Timed.{IsTimely}
use Rattle.sw_law_headline.proofs.Going.{proceeds-timely}
use Rattle.sw_law_headline.proofs.Later.{AreTimely, scene-timely}

module _ (cluster : ClusterModel) (world : World) (sound : IsSoundWorld cluster world) (timely : AreTimely world) (after : World) where
  abbrev next : ℕ
  next = length world.operations + 1

  module _ (begun : Begun) (scene : Scene) (notes : Notes world.clock world.scene scene) where
    follows : Follows world.scene scene
    follows = noted-follows world.scene world.clock scene notes

    abbrev begun_world : World
    begun_world = record world { scene = scene; operations = world.operations ++ begins begun world ∷ [] }

    -- it has no message
    begun-timely : IsTimely scene next (begins begun world)
    begun-timely = record {
      asked_at = λ ticket. ticket;
      requests = λ at sent has. absurd (no-request cluster world sound at sent (follows.requests at next sent has));
      timed = tt;
    }

    one_more : AreTimely begun_world
    one_more number operation is = ⊎_elim
        (λ old. scene-timely world timely scene follows number operation old)
        (λ new. subst (IsTimely scene number) new.1 (subst (λ (n : ℕ). IsTimely scene n (begins begun world)) (sym new.0) begun-timely))
        (pushed-cases world.operations (begins begun world) number operation is)

    -- and it goes on
    pub begins-timely : Begins begun scene world after → AreTimely after
    begins-timely goes =
        proceeds-timely begun_world one_more next (begins begun world) []
        (record {
          requested = λ at sent has. absurd (no-request cluster world sound at sent (follows.requests at next sent has));
          answered = λ at sent reply has. absurd (no-answer cluster world sound at sent reply (subst (λ (messages : List Message). Contains messages (Answer at next sent reply)) (noted-messages world.scene world.clock scene notes) has));
          timely = begun-timely;
        })
        after goes
