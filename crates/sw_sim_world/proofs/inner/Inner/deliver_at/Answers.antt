use Rattle.std.proofs.Common.{◌≡◌, ◌≤◌, ◌<◌, ◌++◌, ℕ, suc, false, length, map, option_to_list, slice_get, slice_set, Option, Some, OnOk, sym, ap, subst, ◌∙◌}
use Rattle.std.proofs.lemmas.Option.{same_Some}
use Rattle.std.proofs.lemmas.Result.{IfOk-weaker}
use Rattle.sw_ring.specs.Cluster.{ClusterModel}
use Rattle.sw_message.specs.Running.{IsOf}
use Rattle.sw_message.specs.declared.reply.Reply.{Reply}
use Rattle.sw_core.specs.Event as core
use Rattle.sw_core.specs.World.{numbered}
use Rattle.sw_sim_exchange.specs.Exchange.{ExchangeModel, slot_of}
use Rattle.sw_sim_exchange.specs.Letters.{answer_letter, emptied}
use Rattle.sw_sim_exchange.specs.Work.{work_of}
use Rattle.sw_sim_exchange.specs.declared.letter.Content.TheVariants as content
use Rattle.sw_sim_exchange.specs.declared.letter.Letter.{Letter}
use Rattle.sw_sim_exchange.specs.declared.operating.Operating.{Operating}
use Rattle.sw_sim_world.specs.Leading.{LeadsByOne}
use Rattle.sw_sim_world.specs.ScriptedWorld.{ScriptedWorld}
use Rattle.sw_sim_world.specs.Standing.{StandsFor, WorldModel, exchange_of}
use Rattle.sw_sim_world.specs.WorldInside.{inner_seen}
use Rattle.sw_sim_world.specs.declared.inner.Inner.TheInside.{Inside}
use Rattle.sw_sim_world.proofs.Delivered.{empty-led, may-call, reply-led, reply-work, request-led, request-work}
use Rattle.sw_sim_world.proofs.Deliveries.{with_nodes}
use Rattle.sw_sim_world.proofs.Insides.{stood, there}
use Rattle.sw_sim_world.proofs.Slots.{at-numbered, numbered-some}
use Rattle.sw_sim_world.proofs.HasTold.{HasTold, has-told, with_exchange}
use Rattle.sw_sim_world.proofs.Works.{work-emptied}
use Rattle.sw_sim_world.proofs.inner.Inner.deliver_at.Goals as goal

-- it was not delivered before
not-yet : (inside : Inside) (now : WorldModel) (slot : ℕ) (letter other : Letter) → inner_seen inside ≡ now → slice_get inside.exchange.letters slot ≡ Some letter → slice_get now.letters slot ≡ Some other → other.is_delivered ≡ false → letter.is_delivered ≡ false
not-yet inside now slot letter other view here is fresh =
    let same = same_Some other letter (sym (subst (λ (model : WorldModel). slice_get model.letters slot ≡ Some other) (sym view) is) ∙ here) in
    subst (λ (one : Letter). one.is_delivered ≡ false) same fresh

pub call-reply-requires-clause-known : goal.call-reply-requires-clause-known
call-reply-requires-clause-known c = λ of is.
    let inside = c.self.inside in
    let letter = c.index-letters-slot.result in
    let here = there inside c.args.self.now c.self.view_is c.letters.result.now c.args.slot letter c.letters.ensures c.requires.slot c.index-letters-slot.is in
    subst (λ (cluster : ClusterModel). IsOf cluster letter.device c.in-Request.msg) (same_Some inside.nodes.cluster of is)
    (may-call (inner_seen inside) c.requires.stands.0 (stood inside c.args.self.now c.self.view_is c.requires.stands.0 c.requires.stands.1) c.args.slot letter here c.in-Request.msg c.in-Request.is)

pub tell-requires : goal.tell-requires
tell-requires c =
    let inside = c.self.inside in
    let letter = c.index-letters-slot.result in
    let here = there inside c.args.self.now c.self.view_is c.letters.result.now c.args.slot letter c.letters.ensures c.requires.slot c.index-letters-slot.is in
    let taken = c.take_reply.ensures letter c.in-Answer.field-0 here c.in-Answer.is in
    let range = (stood inside c.args.self.now c.self.view_is c.requires.stands.0 c.requires.stands.1).numbers c.args.slot letter here in
    (range.0, subst (λ (exchange : ExchangeModel). letter.operation ≤ length exchange.operations) (sym taken.1) range.1)

pub returns-else-is_wanting-clause-leads : goal.returns-else-is_wanting-clause-leads
returns-else-is_wanting-clause-leads c = λ before stands.
    let inside = c.self.inside in
    let letter = c.index-letters-slot.result in
    let here = there inside c.args.self.now c.self.view_is c.letters.result.now c.args.slot letter c.letters.ensures c.requires.slot c.index-letters-slot.is in
    let ends = c.args.ends.now.items in
    let model = with_nodes (inner_seen inside) c.call-reply.new.self in
    IfOk-weaker c.answered.result _ _ (λ done is.
    subst (λ (exchange : ExchangeModel). LeadsByOne (core.Deliver (suc c.args.slot)) before (with_exchange model exchange) ends ends)
    (sym (is ∙ ap (λ (exchange : ExchangeModel). record exchange { letters = exchange.letters ++ map (answer_letter letter.operation letter.ticket letter.device) (option_to_list c.call-reply.result) }) (c.mark.ensures letter here)))
    (request-led (inner_seen inside) before (stood inside c.args.self.now c.self.view_is before stands) c.args.slot letter here c.in-Request.msg c.in-Request.is inside.nodes.lost c.call-reply.result c.call-reply.new.self c.call-reply.ensures.calls
    (sym c.is_wanting.ensures ∙ c.if-is_wanting.false) ends))
    c.answered.ensures

pub returns-else-is_wanting-clause-work : goal.returns-else-is_wanting-clause-work
returns-else-is_wanting-clause-work c = λ other is_there fresh.
    let inside = c.self.inside in
    let letter = c.index-letters-slot.result in
    let here = there inside c.args.self.now c.self.view_is c.letters.result.now c.args.slot letter c.letters.ensures c.requires.slot c.index-letters-slot.is in
    let model = with_nodes (inner_seen inside) c.call-reply.new.self in
    IfOk-weaker c.answered.result _ _ (λ done is.
    subst (λ (now : WorldModel). work_of (exchange_of (with_exchange model c.answered.new.self)) < work_of (exchange_of now)) c.self.view_is
    (subst (λ (exchange : ExchangeModel). work_of (exchange_of (with_exchange model exchange)) < work_of (exchange_of (inner_seen inside)))
    (sym (is ∙ ap (λ (exchange : ExchangeModel). record exchange { letters = exchange.letters ++ map (answer_letter letter.operation letter.ticket letter.device) (option_to_list c.call-reply.result) }) (c.mark.ensures letter here)))
    (request-work (inner_seen inside) c.args.slot letter here c.in-Request.msg c.in-Request.is (not-yet inside c.args.self.now c.args.slot letter other c.self.view_is here is_there fresh) c.call-reply.result c.call-reply.new.self)))
    c.answered.ensures

-- an operation was told the reply that the letter had
tells : (c : goal.After-tell) (before : ScriptedWorld) → StandsFor c.args.self.now before → (Q : Type 0)
    → ((kept : Operating) → numbered c.self.inside.exchange.operations c.index-letters-slot.result.operation ≡ Some kept
    → HasTold c.index-letters-slot.result.operation c.index-letters-slot.result.ticket (Some c.in-Some.reply) kept
    (record (inner_seen c.self.inside) { letters = slice_set c.self.inside.exchange.letters c.args.slot (emptied c.index-letters-slot.result) }) (with_exchange (inner_seen c.self.inside) c.tell.new.self) c.args.ends.now.items c.tell.new.ends.items → Q)
    → OnOk c.tell.result Q
tells c before stands Q gives =
    let inside = c.self.inside in
    let model = inner_seen inside in
    let letter = c.index-letters-slot.result in
    let here = there inside c.args.self.now c.self.view_is c.letters.result.now c.args.slot letter c.letters.ensures c.requires.slot c.index-letters-slot.is in
    let taken = c.take_reply.ensures letter c.in-Answer.field-0 here c.in-Answer.is in
    let range = (stood inside c.args.self.now c.self.view_is before stands).numbers c.args.slot letter here in
    let kept = numbered-some inside.exchange.operations letter.operation range.0 range.1 in
    let found = subst (λ (exchange : ExchangeModel). slice_get exchange.operations (slot_of letter.operation) ≡ Some kept.0) (sym taken.1) (at-numbered inside.exchange.operations letter.operation kept.0 kept.1) in
    has-told letter.operation letter.ticket (Some c.in-Some.reply) kept.0 model c.take_reply.new.self c.tell.new.self c.args.ends.now.items c.tell.new.ends.items c.tell.result
    (c.tell.ensures.over kept.0 found) (λ begun past at none. c.tell.ensures.closed kept.0 begun past found at none) (λ begun past sent at some. c.tell.ensures.heard kept.0 begun past sent found at some) Q
    (λ told. gives kept.0 kept.1
    (subst (λ (exchange : ExchangeModel). HasTold letter.operation letter.ticket (Some c.in-Some.reply) kept.0 (with_exchange model exchange) (with_exchange model c.tell.new.self) c.args.ends.now.items c.tell.new.ends.items) taken.1 told))

pub returns-in-Some-clause-leads : goal.returns-in-Some-clause-leads
returns-in-Some-clause-leads c = λ before stands.
    let inside = c.self.inside in
    let letter = c.index-letters-slot.result in
    let here = there inside c.args.self.now c.self.view_is c.letters.result.now c.args.slot letter c.letters.ensures c.requires.slot c.index-letters-slot.is in
    let taken = c.take_reply.ensures letter c.in-Answer.field-0 here c.in-Answer.is in
    let says = c.in-Answer.is ∙ ap (λ (kept : Option Reply). content.Answer kept) (sym taken.0 ∙ c.in-Some.is) in
    tells c before stands _ (λ kept found told.
    reply-led (inner_seen inside) before (stood inside c.args.self.now c.self.view_is before stands) c.args.slot letter here (Some c.in-Some.reply) says kept found (with_exchange (inner_seen inside) c.tell.new.self) c.args.ends.now.items c.tell.new.ends.items told)

pub returns-in-Some-clause-work : goal.returns-in-Some-clause-work
returns-in-Some-clause-work c = λ other is_there fresh.
    let inside = c.self.inside in
    let letter = c.index-letters-slot.result in
    let here = there inside c.args.self.now c.self.view_is c.letters.result.now c.args.slot letter c.letters.ensures c.requires.slot c.index-letters-slot.is in
    let taken = c.take_reply.ensures letter c.in-Answer.field-0 here c.in-Answer.is in
    let says = c.in-Answer.is ∙ ap (λ (kept : Option Reply). content.Answer kept) (sym taken.0 ∙ c.in-Some.is) in
    let stands = stood inside c.args.self.now c.self.view_is c.requires.stands.0 c.requires.stands.1 in
    tells c c.requires.stands.0 c.requires.stands.1 _ (λ kept found told.
    subst (λ (now : WorldModel). work_of (exchange_of (with_exchange (inner_seen inside) c.tell.new.self)) < work_of (exchange_of now)) c.self.view_is
    (reply-work (inner_seen inside) c.requires.stands.0 stands c.args.slot letter here (Some c.in-Some.reply) says (not-yet inside c.args.self.now c.args.slot letter other c.self.view_is here is_there fresh) kept found
    (with_exchange (inner_seen inside) c.tell.new.self) c.args.ends.now.items c.tell.new.ends.items told))

pub returns-in-None-clause-leads : goal.returns-in-None-clause-leads
returns-in-None-clause-leads c = λ before stands.
    let inside = c.self.inside in
    let letter = c.index-letters-slot.result in
    let here = there inside c.args.self.now c.self.view_is c.letters.result.now c.args.slot letter c.letters.ensures c.requires.slot c.index-letters-slot.is in
    let taken = c.take_reply.ensures letter c.in-Answer.field-0 here c.in-Answer.is in
    let says = c.in-Answer.is ∙ ap (λ (kept : Option Reply). content.Answer kept) (sym taken.0 ∙ c.in-None.is) in
    let ends = c.args.ends.now.items in
    subst (λ (exchange : ExchangeModel). LeadsByOne (core.Deliver (suc c.args.slot)) before (with_exchange (inner_seen inside) exchange) ends ends) (sym taken.1)
    (empty-led (inner_seen inside) before (stood inside c.args.self.now c.self.view_is before stands) c.args.slot letter here says ends)

pub returns-in-None-clause-work : goal.returns-in-None-clause-work
returns-in-None-clause-work c = λ other is_there fresh.
    let inside = c.self.inside in
    let letter = c.index-letters-slot.result in
    let here = there inside c.args.self.now c.self.view_is c.letters.result.now c.args.slot letter c.letters.ensures c.requires.slot c.index-letters-slot.is in
    let taken = c.take_reply.ensures letter c.in-Answer.field-0 here c.in-Answer.is in
    subst (λ (now : WorldModel). work_of (exchange_of (with_exchange (inner_seen inside) c.take_reply.new.self)) < work_of (exchange_of now)) c.self.view_is
    (subst (λ (exchange : ExchangeModel). work_of (exchange_of (with_exchange (inner_seen inside) exchange)) < work_of (exchange_of (inner_seen inside))) (sym taken.1)
    (work-emptied (inner_seen inside) c.args.slot letter here (not-yet inside c.args.self.now c.args.slot letter other c.self.view_is here is_there fresh) c.in-Answer.field-0 c.in-Answer.is))
