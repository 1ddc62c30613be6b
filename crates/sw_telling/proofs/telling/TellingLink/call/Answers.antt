use Rattle.std.proofs.Common.{◌≡◌, ◌∙◌, false, true, Option, Some, ap, refl, subst, sym}
use Rattle.std.proofs.lemmas.Option.{same_Some}
use Rattle.sw_message.specs.Learnt.{Learnt}
use Rattle.sw_message.specs.Message.{IsPlaceOf, place_in}
use Rattle.sw_message.specs.Running.{StillTells}
use Rattle.sw_message.specs.Warrant.{IsWarranted}
use Rattle.sw_message.specs.declared.reply.Reply.{Reply}
use Rattle.sw_telling.specs.Telling.{TellingModel, learnt_by, with_reply}
use Rattle.sw_telling.proofs.Hearing.{hears, is_telling, still_tells}
use Rattle.sw_telling.proofs.Tells.{on_ok}
use Rattle.sw_telling.proofs.telling.TellingLink.call.Goals as goal
use Rattle.sw_telling.proofs.telling.TellingLink.call.Goals.{then-self, else-self, then-is_wanting, else-is_wanting}

abbrev before : goal.After-self-1 → TellingModel
before c = record { nodes = c.self.inside.nodes; known = c.self.inside.known; clock = c.self.inside.clock; last = c.self.inside.last; refused = c.self.inside.refused; is_silent = c.self.inside.is_silent }

abbrev after : goal.After-self-1 → TellingModel
after c = record {
  nodes = c.if-is_wanting.self-inside.nodes;
  known = c.if-is_wanting.self-inside.known;
  clock = c.if-is_wanting.self-inside.clock;
  last = c.if-is_wanting.self-inside.last;
  refused = c.if-is_wanting.self-inside.refused;
  is_silent = c.if-is_wanting.self;
}

cluster_is : (c : goal.After-self-1) → c.call-answer.new.self.cluster ≡ (before c).nodes.cluster
cluster_is c = same_Some c.call-answer.new.self.cluster c.self.inside.nodes.cluster c.call-answer.ensures.cluster

right : (c : goal.After-self-1) → IsPlaceOf (before c).nodes.cluster (place_in c.args.msg.now)
right c = subst (λ (model : TellingModel). IsPlaceOf model.nodes.cluster (place_in c.args.msg.now)) (sym c.self.view_is) (c.requires.known c.args.self.now.nodes.cluster refl).place

warranted : (c : goal.After-self-1) (known : Learnt) → learnt_by (before c) ≡ Some known → IsWarranted (before c).nodes.cluster known c.args.msg.now
warranted c = subst (λ (model : TellingModel). (known : Learnt) → learnt_by model ≡ Some known → IsWarranted model.nodes.cluster known c.args.msg.now) (sym c.self.view_is)
    (λ known tells. c.requires.warranted c.args.self.now.nodes.cluster known refl tells)

after_is : (c : goal.After-self-1) → after c ≡ record (before c) { nodes = c.call-answer.new.self; known = (after c).known; is_silent = (after c).is_silent }
after_is c = elim c.if-is_wanting.branch [
  | then-is_wanting w ↦ rw w.self-inside-is refl
  | else-is_wanting w ↦ rw w.self-inside-is refl
]

speaks : (c : goal.After-self-1) → c.if-self.value ≡ false → (c.self.inside.is_silent ≡ false) × (c.call-answer.new.self.is_wanting ≡ false)
speaks c = elim c.if-self.branch [
  | then-self w ↦ λ goes. let silent = w.if-self.true in let is = w.value-is in absurd (cc)
  | else-self w ↦ λ goes. (w.if-self.false, sym w.is_wanting.ensures ∙ sym w.value-is ∙ goes)
]

goes : (c : goal.After-self-1) → c.if-is_wanting.self ≡ false → ((before c).is_silent ≡ false) × (c.call-answer.new.self.is_wanting ≡ false) × ((after c).known ≡ with_reply (before c).known c.args.device c.args.msg.now c.call-answer.result)
goes c = elim c.if-is_wanting.branch [
  | then-is_wanting w ↦ λ goes. let silent = w.if-is_wanting.true in let is = w.self-is in absurd (cc)
  | else-is_wanting w ↦ λ goes.
      let both = speaks c w.if-is_wanting.false in
      let heard = on_ok w.hear.result _ (sym w.is_err-self-inside.ensures.value ∙ sym w.self-is ∙ goes) w.hear.ensures.hears in
      (both.0, both.1, rw w.self-inside-is (heard ∙ ap (λ (answer : Option Reply). with_reply (before c).known c.args.device c.args.msg.now answer) w.as_ref.ensures.value))
]

pub invariant_of-self : goal.invariant_of-self
invariant_of-self c = is_telling (before c) c.self.invariant c.args.device c.args.msg.now c.call-answer.result c.call-answer.new.self (cluster_is c) c.call-answer.ensures.calls (right c) (warranted c) (after c) (after_is c) (goes c)

pub returns-clause-tells : goal.returns-clause-tells
returns-clause-tells c = subst (λ (model : TellingModel). StillTells ((after c).is_silent ≡ true) (learnt_by model) (learnt_by (after c))) c.self.view_is
    (still_tells (before c) c.self.invariant c.args.device c.args.msg.now c.call-answer.result c.call-answer.new.self (cluster_is c) c.call-answer.ensures.calls (right c) (warranted c) (after c) (after_is c) (goes c))

pub returns-clause-hears : goal.returns-clause-hears
returns-clause-hears c = hears (before c) c.self.invariant c.args.device c.args.msg.now c.call-answer.result c.call-answer.new.self (cluster_is c) c.call-answer.ensures.calls (right c) (warranted c) (after c) (after_is c) (goes c)
