-- The message that a letter stands for: a request where the letter says one, and else a reply.
use Rattle.std.proofs.Common.{◌≡◌, ℕ, List, slice_get, Option, Some, sym, ◌∙◌, arith}
use Rattle.std.proofs.lemmas.Option.{slice_get_within}
use Rattle.sw_message.specs.declared.message.Msg.{Msg}
use Rattle.sw_message.specs.declared.reply.Reply.{Reply}
use Rattle.sw_message.specs.declared.sent.Sent.{Sent}
use Rattle.sw_law_scene.specs.Scene.{Answer, Message, Request}
use Rattle.sw_sim_exchange.specs.declared.letter.Content.TheVariants as content
use Rattle.sw_sim_exchange.specs.declared.letter.Letter.{Letter}
use Rattle.sw_sim_world.specs.ScriptedWorld.{ScriptedWorld}
use Rattle.sw_sim_world.specs.Standing.{IsLetterOf, StandsFor, WorldModel}
use Rattle.sw_sim_world.proofs.Slots.{item-at, zip-at, zip-length}

-- the message at a slot is this request, and the letter that of it
pub record IsRequestOf (messages : List Message) (slot : ℕ) (letter : Letter) (msg : Msg) : Type 0 where
  pub at : ℕ
  pub number : ℕ
  pub sent : Sent
  pub made : slice_get messages slot ≡ Some (Request at number sent)
  pub is_letter : IsLetterOf letter (Request at number sent)
  pub msg_is : sent.msg ≡ msg

-- it is a reply, and the letter that of it
pub record IsReplyOf (messages : List Message) (slot : ℕ) (letter : Letter) : Type 0 where
  pub at : ℕ
  pub number : ℕ
  pub sent : Sent
  pub reply : Reply
  pub made : slice_get messages slot ≡ Some (Answer at number sent reply)
  pub is_letter : IsLetterOf letter (Answer at number sent reply)

module _ (model : WorldModel) (before : ScriptedWorld) (stands : StandsFor model before) (slot : ℕ) (letter : Letter) (here : slice_get model.letters slot ≡ Some letter) where
  abbrev messages : List Message
  messages = before.world.scene.messages

  -- a message was made for the letter
  made-for : (posted : Message) × (slice_get messages slot ≡ Some posted) × IsLetterOf letter posted
  made-for =
      let found = item-at messages slot (omega (arith, slice_get_within model.letters slot letter here, zip-length IsLetterOf model.letters messages stands.letters)) in
      (found.0, found.1, zip-at IsLetterOf model.letters messages stands.letters slot letter found.0 here found.1)

  -- of a letter that says a request it is that request
  pub request-of : (msg : Msg) → letter.content ≡ content.Request msg → IsRequestOf messages slot letter msg
  request-of msg says = let found = made-for in by_message found.0 found.1 found.2
    where
      by_message : (posted : Message) → slice_get messages slot ≡ Some posted → IsLetterOf letter posted → IsRequestOf messages slot letter msg
      by_message (Request at number sent) made is =
          let both : content.Request sent.msg ≡ content.Request msg = sym is.3 ∙ says in
          record { at = at; number = number; sent = sent; made = made; is_letter = is; msg_is = (cc) }
      by_message (Answer at number sent reply) made is = let apart : content.Request msg ≡ content.Answer is.3 = sym says ∙ is.4 in absurd (cc)

  -- and of one that says a reply it is a reply
  pub reply-of : (given : Option Reply) → letter.content ≡ content.Answer given → IsReplyOf messages slot letter
  reply-of given says = let found = made-for in by_message found.0 found.1 found.2
    where
      by_message : (posted : Message) → slice_get messages slot ≡ Some posted → IsLetterOf letter posted → IsReplyOf messages slot letter
      by_message (Request at number sent) made is = let apart : content.Request sent.msg ≡ content.Answer given = sym is.3 ∙ says in absurd (cc)
      by_message (Answer at number sent reply) made is = record { at = at; number = number; sent = sent; reply = reply; made = made; is_letter = is }
