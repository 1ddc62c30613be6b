-- Replies that were made: those that are known, when they were, and what they are about.
use Rattle.std.proofs.Common.{◌≡◌, ⊎_elim, ℕ, ◌<◌, Contains, List, [], ◌∷◌, Some, refl, ap, subst, ◌∙◌}
use Rattle.sw_hashpath.specs.Place.{IsPlace, PlaceModel}
use Rattle.sw_diskfile.proofs.Lists.{Contains-cases, Contains-first, Contains-later, Contains-none}
use Rattle.sw_message.specs.Learnt.{Heard}
use Rattle.sw_message.specs.Message.{IsPlaceOf, place_in}
use Rattle.sw_message.specs.declared.reply.Reply.{Reply}
use Rattle.sw_message.specs.declared.sent.Sent.{Sent}
use Rattle.sw_law_scene.specs.Scene.{Answer, Message, Request, Scene, heard_in, known_to}
use Rattle.sw_law_scene.specs.Sound.{IsSoundScene}
use Rattle.sw_law_scene.proofs.Growth.{answered}
use Rattle.sw_law_owed.specs.Promise.{Made, WasMade}

-- each reply that is known is among the messages
heard_made : (messages : List Message) (heard : Heard) → Contains (heard_in messages) heard → (at operation : ℕ) × (sent : Sent) × (given : Reply) × Contains messages (Answer at operation sent given) × (answered sent given ≡ heard)
heard_made [] heard has = absurd (Contains-none heard has)
heard_made (Request when other one ∷ messages) heard has =
    let from = heard_made messages heard has in
    (from.0, from.1, from.2, from.3, Contains-later (Request when other one) messages _ from.4, from.5)
heard_made (Answer when other one reply ∷ messages) heard has = ⊎_elim
    (λ here. (when, other, one, reply, Contains-first (Answer when other one reply) messages, here))
    (λ later. let from = heard_made messages heard later in (from.0, from.1, from.2, from.3, Contains-later (Answer when other one reply) messages _ from.4, from.5))
    (Contains-cases (answered one reply) (heard_in messages) heard has)

-- a reply that is known, made at a step
abbrev pub made_of : Heard → ℕ → Made
made_of heard at = record { at = at; device = heard.device; msg = heard.msg; reply = heard.reply }

module _ (scene : Scene) where
  -- it was made
  pub known_made : (heard : Heard) → Contains (known_to scene).heard heard → (at : ℕ) × WasMade scene (made_of heard at)
  known_made heard known =
      let from = heard_made scene.messages heard known in
      (from.0, subst (λ (one : Heard). WasMade scene (made_of one from.0)) from.5 (from.1, from.2, from.4, refl, refl))

  module _ (sound : IsSoundScene scene) (made : Made) where
    -- before now
    pub made_before : WasMade scene made → made.at < scene.now
    made_before (operation, sent, there, device, msg) = sound.before (Answer made.at operation sent made.reply) there

    -- and about a place of the cluster
    pub made_place : WasMade scene made → (place : PlaceModel) → place_in made.msg ≡ Some place → IsPlace scene.cluster.part_power place
    made_place (operation, sent, there, device, msg) place about =
        let asked = sound.asked made.at operation sent made.reply there in
        subst (IsPlaceOf scene.cluster) (ap place_in msg ∙ about) (sound.messages (Request asked.0 operation sent) asked.2).0
