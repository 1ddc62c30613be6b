-- An operation that runs out leads alone to where it is over, and gives no message up where all that it asks are up.
use Rattle.std.proofs.Common.{◌≡◌, ⊎_elim, ℕ, Bool, true, false, Contains, List, [], ◌∷◌, None, refl, sym, ap, subst, ◌∙◌}
use Rattle.std.specs.List.{All}
use Rattle.std.proofs.lemmas.Bool.{true≢false}
use Rattle.std.proofs.lemmas.List.Elements.{All-cons, All-nil}
use Rattle.sw_diskfile.proofs.Lists.{Contains-first, Contains-later, Contains-none}
use Rattle.sw_ring.specs.Cluster.{ClusterModel}
use Rattle.sw_message.specs.Transcript.{Closed, after_answer}
use Rattle.sw_message.specs.declared.sent.Sent.{Sent}
use Rattle.sw_law_scene.specs.Scene.{Answer, Message, Request}
use Rattle.sw_core.specs.Event.{Deliver, Event, GiveUp, Happens}
use Rattle.sw_operation.specs.Operating.{Begun, IsNext}
use Rattle.sw_core.specs.Sound.{IsSoundWorld}
use Rattle.sw_core.specs.World.{World}
use Rattle.sw_core.proofs.Happening.{leads-sound}
use Rattle.sw_core.proofs.Machines.{numbers}
use Rattle.sw_core.proofs.Transcripts.{told-cases}
use Rattle.sw_law_alone.specs.Alone.{Delivers, GivesUp, IsOf, IsOwnEvent, LeadsAlone}
use Rattle.sw_law_complete.specs.Complete.{IsDelivery}
use Rattle.sw_sim_world.specs.ScriptedWorld.{AreSteps, IsLeast, IsOver, IsOwn, IsStep, ScriptedWorld, Step, delivered_by, events_in}
use Rattle.sw_sim_world.specs.Unfolding.{RunsOut}
use Rattle.sw_sim_world.proofs.Messages.{Adds, delivered-adds, given-adds}
use Rattle.sw_play.proofs.Handled.{AreHandled, messages_kept}
use Rattle.sw_play.proofs.OwnEvents.{delivers, gives_up}
use Rattle.sw_play.proofs.Waits.{IsDown, IsOnWay, tickets_down}

-- a message of an operation is its own
own_of : (number : ℕ) (posted : Message) → IsOwn number posted → IsOf number posted
own_of number (Request at operation sent) own = own
own_of number (Answer at operation sent reply) own = own

-- the device of each request of an operation that was ever made is up
abbrev pub AllUp : (number : ℕ) (up : ℕ → Bool) → World → Type 0
AllUp number up world = (at : ℕ) (sent : Sent) → Contains world.scene.messages (Request at number sent) → up sent.device ≡ true

module _ (cluster : ClusterModel) (number : ℕ) (begun : Begun) (up : ℕ → Bool) where
  abbrev OnWay : ScriptedWorld → Type 0
  OnWay = IsOnWay cluster number begun up

  abbrev AreDown : World → List ℕ → Type 0
  AreDown world tickets = (ticket : ℕ) → Contains tickets ticket → IsDown number up world ticket

  -- it led alone to where it is over, and messages were made, none lost
  pub record HasRun (before : ScriptedWorld) (steps : List Step) (after : ScriptedWorld) : Type 0 where
    pub leads : LeadsAlone number before.world (events_in steps) after.world
    pub on_way : IsOnWay cluster number begun up after
    pub over : IsOver number after
    pub grows : (posted : Message) → Contains before.world.scene.messages posted → Contains after.world.scene.messages posted
    pub delivers : AllUp number up after.world → All IsDelivery (events_in steps)

  -- ---- one step

  module _ (before : ScriptedWorld) (is : OnWay before) (step : Step) (is_step : IsStep before step) where
    sound_then : IsSoundWorld cluster step.after.world
    sound_then = leads-sound cluster before.world (step.event ∷ []) step.after.world is.sound (step.after.world, is_step.happens, refl)

    -- what is so once it happened
    record Goes : Type 0 where
      own : IsOwnEvent before.world number step.event
      on_way : OnWay step.after
      grows : (posted : Message) → Contains before.world.scene.messages posted → Contains step.after.world.scene.messages posted

    -- a message of it that waits is delivered
    delivered : (message : ℕ) → IsLeast (IsOwn number) before message → step.event ≡ Deliver message → Goes
    delivered message least event_is =
        let waits = least.waits in
        let happens = subst (λ (event : Event). Happens event before.world step.after.world) event_is is_step.happens in
        let now_delivered : step.after.delivered ≡ message ∷ before.delivered = is_step.delivered ∙ ap (λ (event : Event). delivered_by event before.delivered) event_is in
        let goes = delivers cluster number begun up before.world before.delivered is.sound is.answering is.handled message waits.posted waits.there waits.such step.after.world happens in
        record {
          own = subst (IsOwnEvent before.world number) (sym event_is) (Delivers message waits.posted waits.there (own_of number waits.posted waits.such));
          on_way = record { sound = sound_then; answering = goes.0; handled = subst (AreHandled number up step.after.world) (sym now_delivered) goes.1 };
          grows = messages_kept number before.world step.after.world (subst (λ (n : ℕ). Adds n before.world step.after.world) waits.such (delivered-adds before.world step.after.world message waits.posted waits.there happens));
        }

    -- one to a device that is down is given up
    given_up : (ticket : ℕ) → IsDown number up before.world ticket → step.event ≡ GiveUp number ticket → Goes
    given_up ticket down event_is =
        let happens = subst (λ (event : Event). Happens event before.world step.after.world) event_is is_step.happens in
        let same_delivered : step.after.delivered ≡ before.delivered = is_step.delivered ∙ ap (λ (event : Event). delivered_by event before.delivered) event_is in
        let operation = is.answering.operation in
        let stands = is.sound.operations number operation is.answering.goes.there in
        let goes =
        gives_up cluster number begun up before.world before.delivered is.sound is.answering is.handled ticket
        (λ sent has. ⊎_elim
        (λ old. is.answering.goes.missed sent old)
        (λ new. subst (λ (one : Sent). up one.device ≡ false) new.0 down.down)
        (told-cases (IsNext operation.begun) (numbers operation.begun) operation.past stands.run down.sent None (stands.requests down.at down.sent down.made).1 sent None
        (subst (λ (n : ℕ). Contains (after_answer operation.past n None) (Closed sent None)) (sym down.ticket_is) has))) step.after.world happens in
        record {
          own = subst (IsOwnEvent before.world number) (sym event_is) (GivesUp ticket);
          on_way = record { sound = sound_then; answering = goes.0; handled = subst (AreHandled number up step.after.world) (sym same_delivered) goes.1 };
          grows = messages_kept number before.world step.after.world (given-adds before.world step.after.world number ticket happens);
        }

  -- the tickets after the first are those of messages to devices that are down, and stay so
  down_later : (before after : World) → ((posted : Message) → Contains before.scene.messages posted → Contains after.scene.messages posted) → (ticket : ℕ) (tickets : List ℕ) → AreDown before (ticket ∷ tickets) → AreDown after tickets
  down_later before after grows ticket tickets down other has =
      let is = down other (Contains-later ticket tickets other has) in record { sent = is.sent; ticket_is = is.ticket_is; down = is.down; at = is.at; made = grows (Request is.at number is.sent) is.made }

  -- ---- a step, and those after it

  module _ (before : ScriptedWorld) (is : OnWay before) (step : Step) (is_step : IsStep before step) (steps : List Step) (after : ScriptedWorld) where
    -- where its event is a delivery, or all are not up
    and_then : Goes before is step is_step → HasRun step.after steps after → (AllUp number up after.world → IsDelivery step.event) → HasRun before (step ∷ steps) after
    and_then goes later delivery = record {
      leads = (goes.own, step.after.world, is_step.happens, later.leads);
      on_way = later.on_way;
      over = later.over;
      grows = λ posted has. later.grows posted (goes.grows posted has);
      delivers = λ all. All-cons IsDelivery step.event (events_in steps) (delivery all) (later.delivers all);
    }

    -- a message is delivered, and so on
    delivers_first : (message : ℕ) → IsLeast (IsOwn number) before message → step.event ≡ Deliver message → (OnWay step.after → HasRun step.after steps after) → HasRun before (step ∷ steps) after
    delivers_first message least event_is rest =
        let goes = delivered before is step is_step message least event_is in
        and_then goes (rest goes.on_way) (λ all. subst IsDelivery (sym event_is) tt)

    -- the first of these tickets is given up, and so on
    gives_first : (ticket : ℕ) (tickets : List ℕ) → AreDown before.world (ticket ∷ tickets) → step.event ≡ GiveUp number ticket → (OnWay step.after → AreDown step.after.world tickets → HasRun step.after steps after) → HasRun before (step ∷ steps) after
    gives_first ticket tickets down event_is rest =
        let this = down ticket (Contains-first ticket tickets) in
        let goes = given_up before is step is_step ticket this event_is in
        let later = rest goes.on_way (down_later before.world step.after.world goes.grows ticket tickets down) in
        let made = later.grows (Request this.at number this.sent) (goes.grows (Request this.at number this.sent) this.made) in
        and_then goes later (λ all. absurd (true≢false (sym (all this.at this.sent made) ∙ this.down)))

  -- ---- all of them

  pub runs_out : (steps : List Step) (before after : ScriptedWorld) (tickets : List ℕ) → OnWay before → AreDown before.world tickets → AreSteps before steps after → RunsOut number before tickets steps → HasRun before steps after
  runs_out [] before after [] is down same (over, none) = subst (HasRun before []) (sym same) (record {
    leads = refl;
    on_way = is;
    over = over;
    grows = λ posted has. has;
    delivers = λ all. All-nil IsDelivery;
  })
  runs_out [] before after (ticket ∷ tickets) is down same out = absurd out
  runs_out (step ∷ steps) before after (ticket ∷ tickets) is down (is_step, are) (event_is, out) =
      gives_first before is step is_step steps after ticket tickets down event_is (λ on_way later. runs_out steps step.after after tickets on_way later are out)
  runs_out (step ∷ steps) before after [] is down (is_step, are) out = ⊎_elim
      (λ (message, least, event_is, rest).
      delivers_first before is step is_step steps after message least event_is (λ on_way. runs_out steps step.after after [] on_way (λ ticket has. absurd (Contains-none ticket has)) are rest))
      (λ (none, ticket, tickets, open_is, event_is, rest).
      gives_first before is step is_step steps after ticket tickets (λ other has. tickets_down cluster number begun up before is none other (subst (λ (these : List ℕ). Contains these other) (sym open_is) has)) event_is
      (λ on_way later. runs_out steps step.after after tickets on_way later are rest))
      out
