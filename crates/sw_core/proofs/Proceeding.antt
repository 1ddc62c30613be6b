-- A world stays sound as its scene goes on, and as an operation goes on.
use Rattle.std.proofs.Common.{◌≡◌, ◌≢◌, ◌⊎◌, inl, inr, ⊎_elim, ℕ, Contains, List, Some, sym, subst, ◌∙◌, arith}
use Rattle.std.proofs.lemmas.List.Elements.{Contains-append_cases}
use Rattle.sw_diskfile.proofs.Lists.{mapped}
use Rattle.sw_ring.specs.Cluster.{ClusterModel}
use Rattle.sw_message.specs.Learnt.{AreKnown}
use Rattle.sw_message.specs.Transcript.{Step}
use Rattle.sw_message.specs.declared.sent.Sent.{Sent}
use Rattle.sw_law_scene.specs.Moves.{requests_of, sends}
use Rattle.sw_law_scene.specs.Scene.{Request, Scene, known_to}
use Rattle.sw_law_scene.specs.Sound.{IsSoundScene, MayBeSent}
use Rattle.sw_law_scene.proofs.Growth.{Follows, Grows, sends-grows}
use Rattle.sw_law_scene.proofs.Knowledge.{own_kept}
use Rattle.sw_law_scene.proofs.Sounds.{sends-sound}
use Rattle.sw_core.specs.Event.{Proceeds, with_scene}
use Rattle.sw_operation.specs.Operating.{cluster_of, own_of}
use Rattle.sw_core.specs.Sound.{IsSoundWorld, Stands}
use Rattle.sw_core.specs.World.{Operating, World, numbered}
use Rattle.sw_core.proofs.Handing.{AreHandedOut, handed-out, replies-known}
use Rattle.sw_core.proofs.Numbered.{numbered-within, replaced-cases, replaced-length}

-- an operation stands on in a scene where no request of its number was made
pub stands-on : (before after : Scene) → Grows before after → (number : ℕ) (operation : Operating) → ((at : ℕ) (sent : Sent) → Contains after.messages (Request at number sent) → Contains before.messages (Request at number sent))
    → Stands before number operation → Stands after number operation
stands-on before after grows number operation none_new stands = record {
  valid = stands.valid;
  cluster = stands.cluster ∙ sym grows.cluster;
  started = omega (arith, stands.started, grows.now);
  own = own_kept _ _ grows.known (own_of operation.begun) stands.own;
  run = stands.run;
  told = λ sent reply has. let was = stands.told sent reply has in (was.0, was.1, grows.messages _ was.2);
  requests = λ at sent has. stands.requests at sent (none_new at sent has);
}

-- the replies in its transcript are known
pub stands-known : (scene : Scene) → IsSoundScene scene → (number : ℕ) (operation : Operating) → Stands scene number operation → AreKnown (cluster_of operation.begun) (known_to scene) operation.past
stands-known scene sound number operation stands =
    subst (λ (cluster : ClusterModel). AreKnown cluster (known_to scene) operation.past) (sym stands.cluster)
    (replies-known scene sound number operation.past (λ sent reply has. let was = stands.told sent reply has in (was.0, was.2)))

module _ (cluster : ClusterModel) (world : World) (sound : IsSoundWorld cluster world) where
  pub scene-sound : (scene : Scene) → Follows world.scene scene → IsSoundScene scene → IsSoundWorld cluster (with_scene scene world)
  scene-sound scene follows is_sound = record {
    same_cluster = follows.grows.cluster ∙ sound.same_cluster;
    scene = is_sound;
    operations = λ number operation is. stands-on world.scene scene follows.grows number operation (λ at sent has. follows.requests at number sent has) (sound.operations number operation is);
    numbers = λ at number sent has. sound.numbers at number sent (follows.requests at number sent has);
  }

  -- ---- an operation goes on from a transcript

  module _ (number : ℕ) (operation : Operating) (is : numbered world.operations number ≡ Some operation) (past : List Step) (stands : Stands world.scene number (record operation { past = past })) where
    abbrev scene_after : List Sent → Scene
    scene_after sents = sends number sents world.scene

    request-cases : (sents : List Sent) (at other : ℕ) (sent : Sent) → Contains (scene_after sents).messages (Request at other sent)
        → Contains world.scene.messages (Request at other sent) ⊎ ((world.scene.now ≡ at) × (number ≡ other) × Contains sents sent)
    request-cases sents at other sent has = ⊎_elim
        (λ old. inl old)
        (λ new.
        let from = mapped (λ (one : Sent). Request world.scene.now number one) sents (Request at other sent) new in
        let same : from.0 ≡ sent = cc in
        inr (cc, cc, subst (Contains sents) same from.1))
        (Contains-append_cases world.scene.messages (requests_of world.scene.now number sents) (Request at other sent) has)

    module _ (sents : List Sent) (later : Operating) (out : AreHandedOut operation.begun (known_to world.scene) past sents later.past) where
      stands-later : Stands (scene_after sents) number (record operation { past = later.past; is_over = later.is_over })
      stands-later =
          let grows = sends-grows world.scene number sents in
          record {
            valid = stands.valid;
            cluster = stands.cluster;
            started = omega (arith, stands.started, grows.now);
            own = own_kept _ _ grows.known (own_of operation.begun) stands.own;
            run = out.run;
            told = λ sent reply has. let was = stands.told sent reply (out.told sent (Some reply) has) in (was.0, was.1, grows.messages _ was.2);
            requests = λ at sent has. ⊎_elim
                (λ old. let was = stands.requests at sent old in (was.0, out.kept sent was.1))
                (λ new. (omega (arith, stands.started, new.0), out.handed sent new.2))
                (request-cases sents at number sent has);
          }

      others-stand : (other : ℕ) (one : Operating) → other ≢ number → numbered world.operations other ≡ Some one → Stands (scene_after sents) other one
      others-stand other one apart there =
          stands-on world.scene (scene_after sents) (sends-grows world.scene number sents) other one
          (λ at sent has. ⊎_elim (λ old. old) (λ new. absurd (apart (sym new.1))) (request-cases sents at other sent has))
          (sound.operations other one there)

    pub proceeds-sound : (after : World) → Proceeds world number operation past after → IsSoundWorld cluster after
    proceeds-sound after proceeds =
        let sents = proceeds.sents in
        let later = proceeds.later in
        let known = stands-known world.scene sound.scene number (record operation { past = past }) stands in
        let out = handed-out operation.begun (known_to world.scene) stands.valid stands.own sents past later.past stands.run known proceeds.goes_on.handed in
        subst (IsSoundWorld cluster) (sym proceeds.after_is) (record {
          same_cluster = sound.same_cluster;
          scene = sends-sound world.scene sound.scene number sents (λ sent has. subst (λ (one : ClusterModel). MayBeSent one (known_to world.scene) sent.msg) stands.cluster (out.may sent has));
          operations = λ other one there. ⊎_elim
              (λ this.
              subst (λ (n : ℕ). Stands (scene_after sents) n one) (sym this.0)
              (subst (Stands (scene_after sents) number) (sym proceeds.goes_on.same ∙ this.1) (stands-later sents later out)))
              (λ old. others-stand sents later out other one old.0 old.1)
              (replaced-cases number later world.operations other one there);
          numbers = λ at other sent has. ⊎_elim
              (λ old. omega (arith, sound.numbers at other sent old, replaced-length number later world.operations))
              (λ new. omega (arith, new.1, numbered-within world.operations number operation is, replaced-length number later world.operations))
              (request-cases sents at other sent has);
        })
