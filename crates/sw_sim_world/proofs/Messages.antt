-- The messages that an event adds: they stand behind the others, and are those of one operation.
use Rattle.std.proofs.Common.{◌≡◌, ◌⊎◌, inl, inr, ⊎_elim, ℕ, zero, suc, ◌<◌, ◌≤◌, Bool, true, false, MatchBool, List, [], ◌∷◌, ◌++◌, length, slice_get, Option, Some, None, refl, sym, ap, subst, ◌∙◌, append-nil, length-append, arith}
use Rattle.std.proofs.lemmas.Option.{none-some}
use Rattle.sw_message.specs.Transcript.{after_answer}
use Rattle.sw_message.specs.declared.reply.Reply.{Reply}
use Rattle.sw_message.specs.declared.sent.Sent.{Sent}
use Rattle.sw_law_scene.specs.Moves.{Handles, requests_of}
use Rattle.sw_law_scene.specs.Scene.{Answer, Message, Request, Scene, is_up}
use Rattle.sw_core.specs.Event.{Comes, Deliver, GiveUp, Happens, TakesAnswer, OnScene, Proceeds, idle}
use Rattle.sw_core.specs.World as worlds
use Rattle.sw_core.proofs.Numbered.{replaced-length}
use Rattle.sw_sim_world.specs.ScriptedWorld.{IsOwn, operation_of}
use Rattle.sw_sim_world.proofs.Slots.{behind-cases, one-item}
use Rattle.sw_sim_world.proofs.Posts.{asked}

pub record Adds (number : ℕ) (before after : worlds.World) : Type 0 where
  pub more : List Message
  pub messages_are : after.scene.messages ≡ before.scene.messages ++ more
  pub own : (slot : ℕ) (posted : Message) → slice_get more slot ≡ Some posted → IsOwn number posted
  pub as_many : length after.operations ≡ length before.operations

module _ (number : ℕ) (before after : worlds.World) where
  -- an idle step adds none
  adds-none : after ≡ idle before → Adds number before after
  adds-none same = record {
    more = [];
    messages_are = ap (λ (world : worlds.World). world.scene.messages) same ∙ sym (append-nil before.scene.messages);
    own = λ slot posted is. absurd (none-some posted is);
    as_many = ap (λ (world : worlds.World). length world.operations) same;
  }

  module _ (ticket : ℕ) (answer : Option Reply) where
    -- one that is over adds none, and else it adds what it hands out
    by_over : (operation : worlds.Operating) (is_over : Bool) → MatchBool is_over (after ≡ idle before) (Proceeds before number operation (after_answer operation.past ticket answer) after) → Adds number before after
    by_over operation true same = adds-none same
    by_over operation false goes = record {
      more = requests_of before.scene.now number goes.sents;
      messages_are = ap (λ (world : worlds.World). world.scene.messages) goes.after_is;
      own = λ slot posted is. let from = asked number before.scene.now goes.sents slot posted is in subst (IsOwn number) from.2 refl;
      as_many = ap (λ (world : worlds.World). length world.operations) goes.after_is ∙ replaced-length number goes.later before.operations;
    }

    -- an operation that is told adds messages of its own
    pub told-adds : (found : Option worlds.Operating) → TakesAnswer found number ticket answer before after → Adds number before after
    told-adds None same = adds-none same
    told-adds (Some operation) happened = by_over operation operation.is_over happened

  -- a request that comes to its device adds the reply
  handled-adds : (sent : Sent) (up : Bool) → OnScene up (Handles before.scene number sent) before after → Adds number before after
  handled-adds sent false same = adds-none same
  handled-adds sent true (scene, handles, same) = record {
    more = Answer before.scene.now number sent handles.reply ∷ [];
    messages_are = ap (λ (world : worlds.World). world.scene.messages) same ∙ ap (λ (one : Scene). one.messages) handles.after_is;
    own = one-item (IsOwn number) (Answer before.scene.now number sent handles.reply) refl;
    as_many = ap (λ (world : worlds.World). length world.operations) same;
  }

module _ (before after : worlds.World) where
  -- a message that comes adds messages of its operation
  comes-adds : (posted : Message) → Comes (Some posted) before after → Adds (operation_of posted) before after
  comes-adds (Request at number sent) happened = handled-adds number before after sent (is_up before.scene sent.device) happened
  comes-adds (Answer at number sent reply) happened = told-adds number before after sent.ticket (Some reply) (worlds.numbered before.operations number) happened

  -- a message that is delivered adds some of its operation
  pub delivered-adds : (message : ℕ) (posted : Message) → worlds.numbered before.scene.messages message ≡ Some posted → Happens (Deliver message) before after → Adds (operation_of posted) before after
  delivered-adds message posted is happened = comes-adds posted (subst (λ (found : Option Message). Comes found before after) is happened)

  -- and so does one that is given up
  pub given-adds : (number ticket : ℕ) → Happens (GiveUp number ticket) before after → Adds number before after
  given-adds number ticket happened = told-adds number before after ticket None (worlds.numbered before.operations number) happened

-- ---- what was there before

module _ (number : ℕ) (before after : worlds.World) (adds : Adds number before after) where
  -- a message was there before, or is one of those of the operation behind them
  pub message-cases : (message : ℕ) (posted : Message) → worlds.numbered after.scene.messages message ≡ Some posted
      → (worlds.numbered before.scene.messages message ≡ Some posted) ⊎ ((length before.scene.messages < message) × IsOwn number posted)
  message-cases message posted is = numbered-cases message (subst (λ (messages : List Message). worlds.numbered messages message ≡ Some posted) adds.messages_are is)
    where
      numbered-cases : (message : ℕ) → worlds.numbered (before.scene.messages ++ adds.more) message ≡ Some posted → (worlds.numbered before.scene.messages message ≡ Some posted) ⊎ ((length before.scene.messages < message) × IsOwn number posted)
      numbered-cases zero none = absurd (none-some posted none)
      numbered-cases (suc slot) there = ⊎_elim (λ old. inl old) (λ new. inr (omega (arith, new.1), adds.own new.0 posted new.2)) (behind-cases before.scene.messages adds.more slot posted there)

  -- there are no fewer
  pub more-messages : length before.scene.messages ≤ length after.scene.messages
  more-messages = omega (arith, ap (λ (messages : List Message). length messages) adds.messages_are, length-append before.scene.messages adds.more)
