-- A revert reads the answer that it took, waits for one, or hands out a message.
use Rattle.std.proofs.Common.{◌≡◌, inl, inr, false, sym, ap, ◌∙◌, arith}
use Rattle.std.proofs.lemmas.Bool.{cases_Bool}
use Rattle.sw_recon.specs.Standing.{RevertModel, has_ended}
use Rattle.sw_recon.proofs.Changes.{waits}
use Rattle.sw_recon.proofs.Results.{matched, of_some, on_err, on_ok}
use Rattle.sw_recon.proofs.operation.RevertJobOperation.next.Goals as goal

pub returns-then-self-clause-hands : goal.returns-then-self-clause-hands
returns-then-self-clause-hands c = λ begun past stands.
    let waiting = ap (λ (job : RevertModel). job.is_waiting) (sym c.self.view_is) ∙ c.if-self.true in
    let is = waits c.read.new.self begun past (c.in_ok-read.ensures.stands begun past stands) waiting in
    inr (is.0, is.1, is.2)

pub returns-clause-hands : goal.returns-clause-hands
returns-clause-hands c = λ begun past stands.
    on_ok c.hand_out.result (λ handed. matched handed (λ over. inl over) (λ sent may. (may.0.next, may.0.of, may.1)))
    (c.hand_out.ensures.hands begun past (c.in_ok-read.ensures.stands begun past stands))

pub returns-clause-goes_on : goal.returns-clause-goes_on
returns-clause-goes_on c = λ begun past stands. c.hand_out.ensures.goes_on begun past (c.in_ok-read.ensures.stands begun past stands)

pub returns-clause-warranted : goal.returns-clause-warranted
returns-clause-warranted c = λ begun past learnt stands has known.
    on_ok c.hand_out.result (λ handed. of_some handed _ (λ sent may. may.0.warranted learnt known)) (c.hand_out.ensures.hands begun past (c.in_ok-read.ensures.stands begun past stands))

pub returns-clause-fewer : goal.returns-clause-fewer
returns-clause-fewer c =
    on_ok c.hand_out.result (λ handed. matched handed (λ same. omega (arith, same, c.in_ok-read.ensures.count)) (λ sent more. omega (arith, more.0, more.1, c.in_ok-read.ensures.count))) c.hand_out.ensures.count

-- it had not ended where a message is refused
not_ended : (c : goal.After-hand_out) → has_ended c.read.new.self ≡ false → has_ended c.args.self.now ≡ false
not_ended c goes = elim (cases_Bool (has_ended c.args.self.now)) [
  | inl over ↦ ap has_ended (sym (c.in_ok-read.ensures.ended over)) ∙ goes
  | inr goes ↦ goes
]

pub returns-clause-refused_ended : goal.returns-clause-refused_ended
returns-clause-refused_ended c =
    on_err c.hand_out.result (λ same goes. ap has_ended same ∙ goes ∙ sym (not_ended c goes)) c.hand_out.ensures.refused c.hand_out.ensures.going
