-- What a world has of messages a later one has still; and of each reply that is made, the indices of the entries that it lists are below the total.
use Rattle.std.proofs.Common.{◌≡◌, ◌⊎◌, inl, inr, ⊎_elim, ℕ, Contains, List, [], ◌∷◌, ◌++◌, refl, sym, ap, subst, ◌∙◌}
use Rattle.std.proofs.lemmas.List.Elements.{Contains-append_cases, Contains-append_left, Contains-push_cases}
use Rattle.sw_diskfile.proofs.Lists.{Contains-none, mapped}
use Rattle.sw_ring.specs.Cluster.{ClusterModel}
use Rattle.sw_message.specs.declared.reply.Reply.{Reply}
use Rattle.sw_message.specs.declared.reply.Reply.TheVariants as reply
use Rattle.sw_message.specs.declared.sent.Sent.{Sent}
use Rattle.sw_law_scene.specs.Moves.{requests_of}
use Rattle.sw_law_scene.specs.Scene.{Answer, Message, Request, Scene}
use Rattle.sw_law_scene.specs.Sound.{IsSoundScene}
use Rattle.sw_core.specs.Event.{Event, IsRun, Lead}
use Rattle.sw_core.specs.Sound.{IsSoundWorld}
use Rattle.sw_core.specs.World.{World}
use Rattle.sw_core.proofs.Happening.{run-sound}
use Rattle.sw_law_scene.proofs.Moved.{noted-messages}
use Rattle.sw_law_scene.specs.SceneMove.{Asked, AtDevice, Crashed, CrashedMounting, DeviceMove, Failed, Handled, Lost, Passed, Restarted, SceneMove, Stopped}
use Rattle.sw_core.proofs.Carried.{carried}
use Rattle.sw_core.proofs.SceneMoves.{scene-moves}
use Rattle.sw_law_headline.proofs.Below.{IsBelow, handled-below}

-- messages stay, and each new reply lists such entries alone
pub record GoesOn (before after : Scene) : Type 0 where
  pub messages : (posted : Message) → Contains before.messages posted → Contains after.messages posted
  pub answers : (at operation : ℕ) (sent : Sent) (reply : Reply) → Contains after.messages (Answer at operation sent reply) → Contains before.messages (Answer at operation sent reply) ⊎ IsBelow before.cluster sent reply

-- with the same messages
same-messages : (before after : Scene) → after.messages ≡ before.messages → GoesOn before after
same-messages before after same = record {
  messages = λ posted has. subst (λ all. Contains all posted) (sym same) has;
  answers = λ at operation sent reply has. inl (subst (λ all. Contains all (Answer at operation sent reply)) same has);
}

-- with some requests more
more-requests : (before after : Scene) (at number : ℕ) (sents : List Sent) → after.messages ≡ before.messages ++ requests_of at number sents → GoesOn before after
more-requests before after at number sents same = record {
  messages = λ posted has. subst (λ all. Contains all posted) (sym same) (Contains-append_left before.messages (requests_of at number sents) posted has);
  answers = λ when operation sent reply has. ⊎_elim
      (λ old. inl old)
      (λ new. let from = mapped (λ (one : Sent). Request at number one) sents (Answer when operation sent reply) new in absurd (cc (from.2)))
      (Contains-append_cases before.messages (requests_of at number sents) (Answer when operation sent reply) (subst (λ all. Contains all (Answer when operation sent reply)) same has));
}

-- with one reply more
one-answer : (before after : Scene) (at number : ℕ) (sent : Sent) (reply : Reply) → after.messages ≡ before.messages ++ Answer at number sent reply ∷ [] → IsBelow before.cluster sent reply → GoesOn before after
one-answer before after at number sent reply same below = record {
  messages = λ posted has. subst (λ all. Contains all posted) (sym same) (Contains-append_left before.messages (Answer at number sent reply ∷ []) posted has);
  answers = λ when operation other given has. ⊎_elim
      (λ old. inl old)
      (λ new.
      let sents : sent ≡ other = cc in
      let replies : reply ≡ given = cc in
      inr (subst (λ (s : Sent). IsBelow before.cluster s given) sents (subst (λ (r : Reply). IsBelow before.cluster sent r) replies below)))
      (Contains-push_cases before.messages (Answer at number sent reply) (Answer when operation other given) (subst (λ all. Contains all (Answer when operation other given)) same has));
}

-- one after another
goes-both : (first second third : Scene) → second.cluster ≡ first.cluster → GoesOn first second → GoesOn second third → GoesOn first third
goes-both first second third same one other = record {
  messages = λ posted has. other.messages posted (one.messages posted has);
  answers = λ at operation sent reply has. ⊎_elim
      (one.answers at operation sent reply)
      (λ new. inr (subst (λ (cluster : ClusterModel). IsBelow cluster sent reply) same new))
      (other.answers at operation sent reply has);
}

-- ---- events

module _ (scene : Scene) (sound : IsSoundScene scene) where
  -- something happens to a device
  at_device : (after : Scene) → DeviceMove scene after → GoesOn scene after
  at_device after Passed = same-messages scene after refl
  at_device _ (Handled at operation sent request after done) =
      one-answer scene after scene.now operation sent done.reply (ap (λ (one : Scene). one.messages) done.after_is) (handled-below scene sound at operation sent request after done)
  at_device _ (Failed at operation sent request after done) =
      one-answer scene after scene.now operation sent reply.DiskFault (ap (λ (one : Scene). one.messages) done.after_is) (λ place listing there none. absurd none)
  at_device _ (Crashed at operation sent request after done) = same-messages scene after (ap (λ (one : Scene). one.messages) done.after_is)
  at_device _ (CrashedMounting device after done) = same-messages scene after (ap (λ (one : Scene). one.messages) done.after_is)
  at_device after (Stopped device) = same-messages scene after refl
  at_device _ (Restarted device after done) = same-messages scene after (ap (λ (one : Scene). one.messages) done.after_is)
  at_device after (Lost device) = same-messages scene after refl

  -- whatever happens
  moves : (clock : ℕ) (after : Scene) → SceneMove clock scene after → GoesOn scene after
  moves clock _ (AtDevice after move) = at_device after move
  moves clock after (Asked noted begins number sents) =
      more-requests scene after noted.now number sents (ap (λ (messages : List Message). messages ++ requests_of noted.now number sents) (noted-messages scene clock noted begins))

-- ---- runs

-- many events
pub leads-on : (cluster : ClusterModel) (before : World) (events : List Event) (after : World) → IsSoundWorld cluster before → Lead before events after → GoesOn before.scene after.scene
leads-on cluster before events after sound =
    carried cluster (λ world. GoesOn before.scene world.scene)
    (λ one other is still goes move.
    goes-both before.scene one.scene other.scene (is.same_cluster ∙ sym sound.same_cluster) goes (moves one.scene is.scene one.clock other.scene (scene-moves one other move)))
    before events after sound (same-messages before.scene before.scene refl)

-- each reply of a run lists such entries alone
pub run-below : (cluster : ClusterModel) (events : List Event) (world : World) → IsRun cluster events world → (at operation : ℕ) (sent : Sent) (reply : Reply) → Contains world.scene.messages (Answer at operation sent reply)
    → IsBelow cluster sent reply
run-below cluster events world run at operation sent reply has = ⊎_elim
    (λ none. absurd (Contains-none _ none))
    (λ below. below)
    ((leads-on cluster _ events world (run-sound cluster [] _ (record { rules = run.rules; lead = refl })) run.lead).answers at operation sent reply has)
