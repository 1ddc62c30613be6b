-- The letter at a slot is delivered: by what it says, its world is led on, and less is left to do.
use Rattle.std.proofs.Common.{◌≡◌, ℕ, suc, ◌<◌, false, List, ◌++◌, map, set, slice_get, option_to_list, Option, Some, None, sym, subst, ◌∙◌, append-nil, arith}
use Rattle.std.proofs.lemmas.Option.{same_Some}
use Rattle.sw_message.specs.Running.{IsOf}
use Rattle.sw_message.specs.declared.message.Msg.{Msg}
use Rattle.sw_message.specs.declared.reply.Reply.{Reply}
use Rattle.sw_core.specs.Event.{Deliver}
use Rattle.sw_core.specs.World as worlds
use Rattle.sw_sim_nodes.specs.Nodes.{Calls, NodesModel}
use Rattle.sw_sim_exchange.specs.declared.lines.EndLine.{EndLine}
use Rattle.sw_sim_exchange.specs.Letters.{answer_letter, emptied, marked}
use Rattle.sw_sim_exchange.specs.Work.{work_of}
use Rattle.sw_sim_exchange.specs.declared.letter.Content.TheVariants as content
use Rattle.sw_sim_exchange.specs.declared.letter.Letter.{Letter}
use Rattle.sw_sim_exchange.specs.declared.operating.Operating.{Operating}
use Rattle.sw_sim_world.specs.Leading.{LeadsByOne}
use Rattle.sw_sim_world.specs.ScriptedWorld.{ScriptedWorld}
use Rattle.sw_sim_world.specs.Standing.{IsKeptOf, StandsFor, WorldModel, exchange_of}
use Rattle.sw_sim_world.proofs.Deliveries.{empty-leads, handled-leads, lost-leads, may, nodes_in, reply-leads, with_nodes}
use Rattle.sw_sim_world.proofs.LetterMessages.{IsReplyOf, IsRequestOf, reply-of, request-of}
use Rattle.sw_sim_world.proofs.HasTold.{HasTold, operation-of, no-more-work}
use Rattle.sw_sim_world.proofs.Works.{work-answered, work-emptied, work-lost}

-- the world of the program once the nodes were called, with the reply to a request if there is one
abbrev pub called_by : WorldModel → (slot : ℕ) → Letter → Option Reply → NodesModel → WorldModel
called_by model slot letter answer nodes =
    record (with_nodes model nodes) { letters = set model.letters slot (marked letter) ++ map (answer_letter letter.operation letter.ticket letter.device) (option_to_list answer) }

module _ (model : WorldModel) (before : ScriptedWorld) (stands : StandsFor model before) (slot : ℕ) (letter : Letter) (here : slice_get model.letters slot ≡ Some letter) where
  -- ---- a request

  module _ (msg : Msg) (says : letter.content ≡ content.Request msg) where
    -- the request that was made
    asked_for : IsRequestOf before.world.scene.messages slot letter msg
    asked_for = request-of model before stands slot letter here msg says

    -- its device may be called with it
    pub may-call : IsOf model.cluster letter.device msg
    may-call =
        let asked = asked_for in
        subst (IsOf model.cluster letter.device) asked.msg_is
        (subst (λ (device : ℕ). IsOf model.cluster device asked.sent.msg) (sym asked.is_letter.2) (may model before stands slot letter here asked.at asked.number asked.sent asked.made))

    -- the call leads the world on by the delivery, whether there is a reply or not
    pub request-led : (lost : ℕ) (answer : Option Reply) (after : NodesModel) → Calls (nodes_in model lost) letter.device msg answer after → after.is_wanting ≡ false → (ends : List EndLine)
        → LeadsByOne (Deliver (suc slot)) before (called_by model slot letter answer after) ends ends
    request-led lost answer after calls quiet ends = by_answer answer
        (subst (λ (device : ℕ). Calls (nodes_in model lost) device asked.sent.msg answer after) asked.is_letter.2
        (subst (λ (one : Msg). Calls (nodes_in model lost) letter.device one answer after) (sym asked.msg_is) calls))
      where
        asked : IsRequestOf before.world.scene.messages slot letter msg
        asked = asked_for

        by_answer : (answer : Option Reply) → Calls (nodes_in model lost) asked.sent.device asked.sent.msg answer after → LeadsByOne (Deliver (suc slot)) before (called_by model slot letter answer after) ends ends
        by_answer (Some reply) calls = handled-leads model before stands slot letter here asked.at asked.number asked.sent asked.made lost reply after calls quiet ends
        by_answer None calls =
            subst (λ (letters : List Letter). LeadsByOne (Deliver (suc slot)) before (record (with_nodes model after) { letters = letters }) ends ends) (sym (append-nil (set model.letters slot (marked letter))))
            (subst (λ (nodes : NodesModel). LeadsByOne (Deliver (suc slot)) before (record (with_nodes model nodes) { letters = set model.letters slot (marked letter) }) ends ends) (sym calls.after_is)
            (lost-leads model before stands slot letter here asked.at asked.number asked.sent asked.made calls.down ends))

  -- ---- a reply

  module _ (given : Option Reply) (says : letter.content ≡ content.Answer given) where
    -- the reply that was made
    replied_to : IsReplyOf before.world.scene.messages slot letter
    replied_to = reply-of model before stands slot letter here given says

    -- that an operation was told it leads the world on by the delivery
    pub reply-led : (kept : Operating) → worlds.numbered model.operations letter.operation ≡ Some kept → (new : WorldModel) (old_ends new_ends : List EndLine)
        → HasTold letter.operation letter.ticket given kept (record model { letters = set model.letters slot (emptied letter) }) new old_ends new_ends → LeadsByOne (Deliver (suc slot)) before new old_ends new_ends
    reply-led kept found new old_ends new_ends has =
        let replied = replied_to in
        let middle : WorldModel = record model { letters = set model.letters slot (emptied letter) } in
        reply-leads model before stands slot letter here replied.at replied.number replied.sent replied.reply replied.made given says kept
        (subst (λ (number : ℕ). worlds.numbered model.operations number ≡ Some kept) replied.is_letter.0 found) new old_ends new_ends
        (subst (λ (number : ℕ). HasTold number replied.sent.ticket given kept middle new old_ends new_ends) replied.is_letter.0
        (subst (λ (ticket : ℕ). HasTold letter.operation ticket given kept middle new old_ends new_ends) replied.is_letter.1 has))

    -- it was not delivered before
    pub reply-work : letter.is_delivered ≡ false → (kept : Operating) → worlds.numbered model.operations letter.operation ≡ Some kept → (new : WorldModel) (old_ends new_ends : List EndLine)
        → HasTold letter.operation letter.ticket given kept (record model { letters = set model.letters slot (emptied letter) }) new old_ends new_ends → work_of (exchange_of new) < work_of (exchange_of model)
    reply-work fresh kept found new old_ends new_ends has =
        let range = stands.numbers slot letter here in
        let at = operation-of model before stands letter.operation range.0 range.1 in
        omega (
          arith,
          work-emptied model slot letter here fresh given says,
          no-more-work letter.operation letter.ticket given kept (record model { letters = set model.letters slot (emptied letter) }) new old_ends new_ends has at.operation
              (subst (λ (one : Operating). IsKeptOf one at.operation) (same_Some at.kept kept (sym at.here ∙ found)) at.is),
        )

  -- one that was taken out before
  pub empty-led : letter.content ≡ content.Answer None → (ends : List EndLine) → LeadsByOne (Deliver (suc slot)) before (record model { letters = set model.letters slot (emptied letter) }) ends ends
  empty-led says ends = let replied = replied_to None says in empty-leads model before stands slot letter here replied.at replied.number replied.sent replied.reply replied.made says ends

-- a request that was not delivered before
module _ (model : WorldModel) (slot : ℕ) (letter : Letter) (here : slice_get model.letters slot ≡ Some letter) (msg : Msg) (says : letter.content ≡ content.Request msg) (fresh : letter.is_delivered ≡ false) where
  -- less is left to do, whether there is a reply or not
  pub request-work : (answer : Option Reply) (after : NodesModel) → work_of (exchange_of (called_by model slot letter answer after)) < work_of (exchange_of model)
  request-work (Some reply) after = work-answered model slot letter here fresh msg says reply after
  request-work None after =
      subst (λ (letters : List Letter). work_of (exchange_of (record model { letters = letters })) < work_of (exchange_of model)) (sym (append-nil (set model.letters slot (marked letter)))) (work-lost model slot letter here fresh msg says)
