use Rattle.std.proofs.Common.{◌≡◌, ◌∙◌, false, true, Some, ap, refl, subst, sym}
use Rattle.std.specs.Prelude.{option_copied}
use Rattle.sw_message.specs.Running.{StillTells}
use Rattle.sw_law_scene.specs.Moves.{next_stamp}
use Rattle.sw_telling.specs.Telling.{TellingModel, learnt_by, with_own}
use Rattle.sw_telling.proofs.Drawing.{is_telling, learns, still_tells}
use Rattle.sw_telling.proofs.Tells.{on_ok, with_clock}
use Rattle.sw_telling.proofs.telling.TellingDraw.draw.Goals as goal
use Rattle.sw_telling.proofs.telling.TellingDraw.draw.Goals.{then-self, else-self}

abbrev before : goal.After-self-3-1 → TellingModel
before c = record { nodes = c.self.inside.nodes; known = c.self.inside.known; clock = c.self.inside.clock; last = c.self.inside.last; refused = c.self.inside.refused; is_silent = c.self.inside.is_silent }

abbrev after : goal.After-self-3-1 → TellingModel
after c = record {
  nodes = c.if-self.self-inside.nodes;
  known = c.if-self.self-inside.known;
  clock = c.if-self.self-inside.clock;
  last = c.if-self.self-inside.last;
  refused = c.if-self.self-inside.refused;
  is_silent = c.if-self.self;
}

stamp_is : (c : goal.After-self-3-1) → c.in-Some.stamp ≡ next_stamp (before c).clock (before c).last
stamp_is c = (c.in-Some.ensures {u = tt}).1 ∙ c.next_units.ensures ∙ ap (λ (model : TellingModel). next_stamp model.clock model.last) (sym c.self.view_is)

after_is : (c : goal.After-self-3-1) → after c ≡ record (before c) { last = Some c.in-Some.stamp; known = (after c).known; is_silent = (after c).is_silent }
after_is c = elim c.if-self.branch [
  | then-self w ↦ rw w.self-inside-is refl
  | else-self w ↦ rw w.self-inside-is refl
]

goes : (c : goal.After-self-3-1) → c.if-self.self ≡ false → ((before c).is_silent ≡ false) × ((after c).known ≡ with_own (before c).known c.in-Some.stamp c.args.name.now (option_copied c.args.object))
goes c = elim c.if-self.branch [
  | then-self w ↦ λ speaks. let silent = w.if-self.true in let is = w.self-is in absurd (cc)
  | else-self w ↦ λ speaks. (w.if-self.false, rw w.self-inside-is (on_ok w.note.result _ (sym w.is_err-self-inside.ensures.value ∙ sym w.self-is ∙ speaks) w.note.ensures.notes))
]

pub invariant_of-self : goal.invariant_of-self
invariant_of-self c =
    let before : TellingModel = record { nodes = c.self.inside.nodes; known = c.self.inside.known; clock = c.self.inside.clock; last = c.self.inside.last; refused = c.self.inside.refused; is_silent = c.self.inside.is_silent } in
    with_clock before c.self.invariant c.self.inside.clock c.saturating_add-self-inside.result

pub invariant_of-self-2 : goal.invariant_of-self-2
invariant_of-self-2 c =
    is_telling (before c) c.self.invariant c.args.name.now c.requires.name c.in-Some.stamp (stamp_is c) (rw (c.in-Some.ensures {u = tt}).1 (c.in-Some.ensures {u = tt}).0) (option_copied c.args.object) c.requires.object (after c) (after_is c) (goes c)

pub returns-clause-tells : goal.returns-clause-tells
returns-clause-tells c = subst (λ (model : TellingModel). StillTells ((after c).is_silent ≡ true) (learnt_by model) (learnt_by (after c))) c.self.view_is
    (still_tells (before c) c.self.invariant c.args.name.now c.requires.name c.in-Some.stamp (stamp_is c) (rw (c.in-Some.ensures {u = tt}).1 (c.in-Some.ensures {u = tt}).0) (option_copied c.args.object) c.requires.object (after c) (after_is c) (goes c))

pub returns-clause-learns : goal.returns-clause-learns
returns-clause-learns c =
    learns (before c) c.self.invariant c.args.name.now c.requires.name c.in-Some.stamp (stamp_is c) (rw (c.in-Some.ensures {u = tt}).1 (c.in-Some.ensures {u = tt}).0) (option_copied c.args.object) c.requires.object (after c) (after_is c) (goes c)
