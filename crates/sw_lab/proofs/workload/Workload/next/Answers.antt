use Rattle.std.proofs.Common.{◌≡◌, ◌+◌, ◌-◌, ◌++◌, List, [], length, ap, sym, subst, ◌∙◌, arith}
use Rattle.std.proofs.lemmas.List.{nil_from_length}
use Rattle.sw_script.specs.declared.event.Event.{Event}
use Rattle.sw_lab.specs.Workload.{step_of, steps_from}
use Rattle.sw_lab.specs.declared.draw.Draw.{Draw}
use Rattle.sw_lab.proofs.Steps.{first_leaves, steps_more}
use Rattle.sw_lab.proofs.workload.Workload.next.Goals as goal

pub returns-clause-next : goal.returns-clause-next
returns-clause-next c =
    let work = c.self.inside in
    let devices = work.devices.items in
    let step = work.begun + 1 in
    let draw = c.behind-draw.result in
    let later = steps_from devices (work.steps - step) (step + 1) draw.body in
    let none : work.waiting.items ≡ [] = nil_from_length work.waiting.items (sym work.waiting.ok.0 ∙ c.in_default.ensures.cases.0) in
    let more : steps_from devices (work.steps - work.begun) step work.number ≡ step_of devices step draw ++ later =
    subst (λ (draw : Draw). steps_from devices (work.steps - work.begun) step work.number ≡ step_of devices step draw ++ steps_from devices (work.steps - step) (step + 1) draw.body) (sym c.behind-draw.ensures)
    (steps_more devices work.steps work.begun work.number (omega arith)) in
    let all : c.args.self.now ≡ step_of devices step draw ++ later = sym c.self.view_is ∙ ap (λ (waiting : List Event). waiting ++ steps_from devices (work.steps - work.begun) step work.number) none ∙ more in
    let made = rw c.deref.ensures.value at c.in_ok-events.ensures in
    first_leaves devices step draw c.pop_front-event.result c.pop_front-event.new.self.items later c.args.self.now (sym made ∙ c.pop_front-event.ensures.items) (λ is. ap length (sym made) ∙ sym c.in_ok-events.events.ok.0 ∙ (rw is at c.pop_front-event.ensures.cases).0) all
