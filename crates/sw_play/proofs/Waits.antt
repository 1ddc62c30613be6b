-- Where none of an operation's own messages waits, each message of it that is open is to a device that is down.
use Rattle.std.proofs.Common.{◌≡◌, ⊎_elim, ℕ, suc, Bool, true, false, if◌then◌else◌, Contains, List, [], ◌∷◌, map, reverse, Option, Some, refl, subst}
use mathlib.Core.List.{reverse-cons}
use Rattle.std.proofs.lemmas.Bool.{cases_Bool}
use Rattle.std.proofs.lemmas.List.Elements.{Contains-push_cases}
use Rattle.sw_diskfile.proofs.Lists.{Contains-first, Contains-later, Contains-none, mapped}
use Rattle.sw_ring.specs.Cluster.{ClusterModel}
use Rattle.sw_ring.specs.Ring.{is_among}
use Rattle.sw_ring.proofs.Among.{Contains-from_among, not_among}
use Rattle.sw_message.specs.Transcript.{opens}
use Rattle.sw_message.specs.declared.sent.Sent.{Sent}
use Rattle.sw_law_scene.specs.Scene.{Answer, Message, Request}
use Rattle.sw_operation.specs.Operating.{Begun}
use Rattle.sw_core.specs.Sound.{IsSoundWorld}
use Rattle.sw_core.specs.World.{Operating, World, numbered}
use Rattle.sw_sim_world.specs.ScriptedWorld.{IsOwn, NoneWaits, ScriptedWorld, open_tickets, tickets_in}
use Rattle.sw_sim_world.specs.Standing.{IsClosed}
use Rattle.sw_sim_world.proofs.Slots.{contained}
use Rattle.sw_play.proofs.Answering.{IsAnswering}
use Rattle.sw_play.proofs.Handled.{AreHandled}
use Rattle.sw_play.proofs.OpenMessages.{open-given, open-some}

-- what is in a list in the other order is in it
reversed : (items : List ℕ) (item : ℕ) → Contains (reverse items) item → Contains items item
reversed [] item has = has
reversed (first ∷ items) item has = ⊎_elim
    (λ before. Contains-later first items item (reversed items item before))
    (λ same. subst (Contains (first ∷ items)) same (Contains-first first items))
    (Contains-push_cases (reverse items) first item (subst (λ (these : List ℕ). Contains these item) (reverse-cons first items) has))

module _ (number : ℕ) (up : ℕ → Bool) where
  -- a ticket is that of a message to a device that is down
  pub record IsDown (world : World) (ticket : ℕ) : Type 0 where
    pub sent : Sent
    pub ticket_is : sent.ticket ≡ ticket
    pub down : up sent.device ≡ false
    pub at : ℕ
    pub made : Contains world.scene.messages (Request at number sent)

module _ (cluster : ClusterModel) (number : ℕ) (begun : Begun) (up : ℕ → Bool) where
  -- the world of a script on the way of the operation
  pub record IsOnWay (scripted : ScriptedWorld) : Type 0 where
    pub sound : IsSoundWorld cluster scripted.world
    pub answering : IsAnswering number begun up scripted.world
    pub handled : AreHandled number up scripted.world scripted.delivered

  module _ (scripted : ScriptedWorld) (is : IsOnWay scripted) (none : NoneWaits (IsOwn number) scripted) where
    -- each own message was delivered
    was_delivered : (message : ℕ) (posted : Message) → numbered scripted.world.scene.messages message ≡ Some posted → IsOwn number posted → Contains scripted.delivered message
    was_delivered message posted there own = ⊎_elim
        (λ among. Contains-from_among scripted.delivered message among)
        (λ other. absurd (none message (record { posted = posted; there = there; such = own; fresh = not_among scripted.delivered message other })))
        (cases_Bool (is_among scripted.delivered message))

    module _ (running : is.answering.operation.is_over ≡ false) (sent : Sent) (opened : Contains (opens is.answering.operation.past) sent) where
      -- its device is not up, for it would have replied, and the ticket were closed
      not_up : (at : ℕ) → Contains scripted.world.scene.messages (Request at number sent) → up sent.device ≡ true → ⊥
      not_up at made is_up_now =
          let asked = contained scripted.world.scene.messages (Request at number sent) made in
          let reply = is.handled.replied (suc asked.0) at sent asked.1 (was_delivered (suc asked.0) (Request at number sent) asked.1 refl) is_up_now in
          let answer = Answer reply.0 number sent reply.1 in
          let answered = contained scripted.world.scene.messages answer reply.2 in
          let closed = is.handled.closed (suc answered.0) reply.0 sent reply.1 answered.1 (was_delivered (suc answered.0) answer answered.1 refl) in
          open-some is.answering.operation.past sent opened (subst (λ (found : Option Operating). IsClosed found sent.ticket) is.answering.goes.there closed running)

      open_down : IsDown number up scripted.world sent.ticket
      open_down =
          let made = is.answering.goes.made sent (open-given is.answering.operation.past sent opened) in
          record {
            sent = sent;
            ticket_is = refl;
            down = ⊎_elim (λ is_up_now. absurd (not_up made.0 made.1 is_up_now)) (λ is_down. is_down) (cases_Bool (up sent.device));
            at = made.0;
            made = made.1;
          }

    -- so is each ticket that is open
    pub tickets_down : (ticket : ℕ) → Contains (open_tickets number scripted) ticket → IsDown number up scripted.world ticket
    tickets_down ticket has = by_over is.answering.operation.is_over refl (subst (λ (found : Option Operating). Contains (tickets_in found) ticket) is.answering.goes.there has)
      where
        by_over : (is_over : Bool) → is.answering.operation.is_over ≡ is_over
            → Contains (if is_over then [] else reverse (map (λ (sent : Sent). sent.ticket) (opens is.answering.operation.past))) ticket → IsDown number up scripted.world ticket
        by_over true over has = absurd (Contains-none ticket has)
        by_over false running has =
            let from = mapped (λ (sent : Sent). sent.ticket) (opens is.answering.operation.past) ticket (reversed (map (λ (sent : Sent). sent.ticket) (opens is.answering.operation.past)) ticket has) in
            subst (IsDown number up scripted.world) from.2 (open_down running from.0 from.1)
