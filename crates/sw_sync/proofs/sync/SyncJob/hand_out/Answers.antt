-- What is due is handed out, or it waits, or is over.
use Rattle.std.proofs.Common.{◌≡◌, true, false, Bool, List, ◌∷◌, refl, sym, ap, subst, ◌∙◌}
use Rattle.sw_sync.specs.Inside.{sync_seen}
use Rattle.sw_sync.specs.Standing.{Stands, SyncModel, ends, has_ended}
use Rattle.sw_sync.specs.declared.errand.Errand.{Errand}
use Rattle.sw_sync.proofs.Changes.{goes_on, over_or_waits}
use Rattle.sw_sync.proofs.Results.{where_refused}
use Rattle.sw_sync.proofs.sync.SyncJob.hand_out.Goals as goal

-- what is on now was on before
still_on : (before after : Bool) → (before ≡ true → after ≡ true) → after ≡ false → before ≡ false
still_on true after stays on = absurd (let over = stays refl in cc)
still_on false after stays on = refl

pub returns-in_default-clause-hands : goal.returns-in_default-clause-hands
returns-in_default-clause-hands c = λ begun past stands.
    let settled = c.settle.new.self in
    over_or_waits settled begun past (c.in_ok-settle.ensures.stands begun past stands) (c.in_ok-settle.ensures.settled begun past stands)
    (ap (λ (job : SyncModel). job.state.due) (sym c.self.view_is) ∙ c.in_default.ensures)

-- something is due, so it is not over
module _ (settled : SyncModel) (inside : SyncModel) (same : inside ≡ settled) (errand : Errand) (later : List Errand) (first : inside.state.due ≡ errand ∷ later) where
  due : settled.state.due ≡ errand ∷ later
  due = ap (λ (job : SyncModel). job.state.due) (sym same) ∙ first

pub returns-in_err-hand_out_errand-clause-refused : goal.returns-in_err-hand_out_errand-clause-refused
returns-in_err-hand_out_errand-clause-refused c = λ begun past stands.
    where_refused c.from_residual-in_err-hand_out_errand.result
    (subst (λ (job : SyncModel). Stands job begun past) (sym c.in_err-hand_out_errand.ensures.refused) (c.in_ok-settle.ensures.stands begun past stands))

pub returns-in_err-hand_out_errand-clause-refused_ended : goal.returns-in_err-hand_out_errand-clause-refused_ended
returns-in_err-hand_out_errand-clause-refused_ended c =
    let ready = c.in_ok-settle.ensures.ready in
    let settled = c.settle.new.self in
    let on = goes_on settled ready.0 ready.1 ready.2 ready.3 c.in-Some.errand c.in-Some.ensures.0 (due settled (sync_seen c.self.inside) c.self.view_is c.in-Some.errand c.in-Some.ensures.0 c.in-Some.ensures.1) in
    where_refused c.from_residual-in_err-hand_out_errand.result (ap has_ended c.in_err-hand_out_errand.ensures.refused ∙ on ∙ sym (still_on (has_ended c.args.self.now) (has_ended settled) c.in_ok-settle.ensures.ended on))

pub returns-clause-hands : goal.returns-clause-hands
returns-clause-hands c = λ begun past stands.
    let settled = c.settle.new.self in
    let ready = c.in_ok-settle.ensures.settled begun past stands in
    let stood = c.in_ok-settle.ensures.stands begun past stands in
    let on = goes_on settled begun past stood ready c.in-Some.errand c.in-Some.ensures.0 (due settled (sync_seen c.self.inside) c.self.view_is c.in-Some.errand c.in-Some.ensures.0 c.in-Some.ensures.1) in
    (c.in_ok-hand_out_errand.ensures.hands begun past stood ready, ap ends c.hand_out_errand.ensures.stage ∙ on)

pub returns-clause-goes_on : goal.returns-clause-goes_on
returns-clause-goes_on c = λ begun past stands.
    c.in_ok-hand_out_errand.ensures.goes_on begun past (c.in_ok-settle.ensures.stands begun past stands) (c.in_ok-settle.ensures.settled begun past stands)
