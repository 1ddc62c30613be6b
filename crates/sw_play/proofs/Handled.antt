-- What became of the messages of an operation that were delivered: requests were replied to, and the tickets of replies are closed.
use Rattle.std.proofs.Common.{◌≡◌, ⊎_elim, ℕ, ◌≤◌, Bool, true, Contains, List, ◌∷◌, length, Some, sym, subst, arith}
use Rattle.std.proofs.lemmas.List.Elements.{Contains-append_left}
use Rattle.sw_diskfile.proofs.Lists.{Contains-cases}
use Rattle.sw_message.specs.declared.reply.Reply.{Reply}
use Rattle.sw_message.specs.declared.sent.Sent.{Sent}
use Rattle.sw_law_scene.specs.Scene.{Answer, Message, Request}
use Rattle.sw_core.specs.World.{World, numbered}
use Rattle.sw_core.proofs.Numbered.{numbered-contains}
use Rattle.sw_sim_world.specs.Standing.{IsClosed}
use Rattle.sw_sim_world.proofs.Messages.{Adds, message-cases, more-messages}

-- the messages that were there before are still
pub messages_kept : (number : ℕ) (before after : World) → Adds number before after → (posted : Message) → Contains before.scene.messages posted → Contains after.scene.messages posted
messages_kept number before after adds posted has = subst (λ (messages : List Message). Contains messages posted) (sym adds.messages_are) (Contains-append_left before.scene.messages adds.more posted has)

module _ (number : ℕ) (up : ℕ → Bool) where
  -- a reply to a request was made
  abbrev pub IsReplied : World → Sent → Type 0
  IsReplied world sent = (at : ℕ) × (reply : Reply) × Contains world.scene.messages (Answer at number sent reply)

  -- Each message that was delivered was made. Each request of the operation was replied to if its device is up, and the ticket of each
  -- reply to it is closed.
  pub record AreHandled (world : World) (delivered : List ℕ) : Type 0 where
    pub within : (message : ℕ) → Contains delivered message → message ≤ length world.scene.messages
    pub replied : (message at : ℕ) (sent : Sent) → numbered world.scene.messages message ≡ Some (Request at number sent) → Contains delivered message → up sent.device ≡ true → IsReplied world sent
    pub closed : (message at : ℕ) (sent : Sent) (reply : Reply) → numbered world.scene.messages message ≡ Some (Answer at number sent reply) → Contains delivered message → IsClosed (numbered world.operations number) sent.ticket

  -- as messages of the operation are added, where tickets stay closed
  module _ (before after : World) (delivered : List ℕ) (are : AreHandled before delivered) (adds : Adds number before after)
      (closes : (at : ℕ) (sent : Sent) (reply : Reply) → Contains before.scene.messages (Answer at number sent reply) → IsClosed (numbered before.operations number) sent.ticket → IsClosed (numbered after.operations number) sent.ticket) where
    -- one that was made before is there
    was_there : (message : ℕ) (posted : Message) → message ≤ length before.scene.messages → numbered after.scene.messages message ≡ Some posted → numbered before.scene.messages message ≡ Some posted
    was_there message posted within is = ⊎_elim (λ old. old) (λ new. absurd (omega (arith, new.0, within))) (message-cases number before after adds message posted is)

    -- those that were delivered are handled still
    pub still : AreHandled after delivered
    still = record {
      within = λ message has. omega (arith, are.within message has, more-messages number before after adds);
      replied = λ message at sent is has up_now.
          let was = are.replied message at sent (was_there message (Request at number sent) (are.within message has) is) has up_now in
          (was.0, was.1, messages_kept number before after adds (Answer was.0 number sent was.1) was.2);
      closed = λ message at sent reply is has.
          let old = was_there message (Answer at number sent reply) (are.within message has) is in
          closes at sent reply (numbered-contains before.scene.messages message (Answer at number sent reply) old) (are.closed message at sent reply old has);
    }

    -- and one more is
    pub one_more : (message : ℕ) → message ≤ length before.scene.messages → ((at : ℕ) (sent : Sent) → numbered before.scene.messages message ≡ Some (Request at number sent) → up sent.device ≡ true → IsReplied after sent)
        → ((at : ℕ) (sent : Sent) (reply : Reply) → numbered before.scene.messages message ≡ Some (Answer at number sent reply) → IsClosed (numbered after.operations number) sent.ticket) → AreHandled after (message ∷ delivered)
    one_more message within replies closes_it = record {
      within = λ other has. ⊎_elim
          (λ same. omega (arith, same, within, more-messages number before after adds))
          (λ old. still.within other old)
          (Contains-cases message delivered other has);
      replied = λ other at sent is has up_now. ⊎_elim
          (λ same.
          let it = subst (λ (n : ℕ). numbered after.scene.messages n ≡ Some (Request at number sent)) (sym same) is in
          replies at sent (was_there message (Request at number sent) within it) up_now)
          (λ old. still.replied other at sent is old up_now)
          (Contains-cases message delivered other has);
      closed = λ other at sent reply is has. ⊎_elim
          (λ same.
          let it = subst (λ (n : ℕ). numbered after.scene.messages n ≡ Some (Answer at number sent reply)) (sym same) is in
          closes_it at sent reply (was_there message (Answer at number sent reply) within it))
          (λ old. still.closed other at sent reply is old)
          (Contains-cases message delivered other has);
    }
