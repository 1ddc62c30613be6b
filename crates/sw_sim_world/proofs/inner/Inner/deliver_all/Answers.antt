use Rattle.std.proofs.Common.{◌≡◌, ℕ, List, [], length, sym, ap, subst, ◌∙◌}
use Rattle.sw_script.specs.declared.event.Event.TheVariants as event
use Rattle.sw_sim_exchange.specs.declared.lines.EndLine.{EndLine}
use Rattle.sw_sim_world.specs.declared.told.Told.{Told}
use Rattle.sw_sim_exchange.specs.declared.letter.Letter.{Letter}
use Rattle.sw_sim_world.specs.Leading.{DeliversFrom, DoesIt, LeadsBy}
use Rattle.sw_sim_world.specs.Standing.{WorldModel}
use Rattle.sw_sim_world.specs.WorldInside.{inner_seen}
use Rattle.sw_sim_world.proofs.DoneLines.{all-does}
use Rattle.sw_sim_world.proofs.inner.Inner.deliver_all.Goals as goal

pub returns-clause-does : goal.returns-clause-does
returns-clause-does c = λ before stands.
    let old = c.args.self.now in
    let new = c.deliver_from-2.new.self in
    let ends = c.deliver_from-2.new.ends.items in
    let same : c.letters.result.now ≡ new.letters = c.letters.ensures ∙ ap (λ (model : WorldModel). model.letters) c.self-2.view_is in
    let leads = subst (λ (first : ℕ). LeadsBy (DeliversFrom first before) before new [] ends) (ap (λ (model : WorldModel). model.first) c.deliver_from.view_is)
    (subst (λ (none : List EndLine). LeadsBy (DeliversFrom c.deliver_from.inside.first before) before new none ends) c.new-ends.ensures.items (c.in_ok-deliver_from.ensures.leads before stands)) in
    let ends_only : Told = record { sent = []; ends = ends; shown = [] } in
    subst (λ (told : Told). DoesIt event.All before told (record (inner_seen c.self-2.inside) { first = length c.letters.result.now })) (sym c.ends_told.ensures)
    (subst (λ (model : WorldModel). DoesIt event.All before ends_only (record model { first = length c.letters.result.now })) (sym c.self-2.view_is)
    (subst (λ (count : ℕ). DoesIt event.All before ends_only (record new { first = count })) (sym (ap (λ (letters : List Letter). length letters) same))
    (all-does old before stands new ends leads)))
