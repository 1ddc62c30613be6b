use Rattle.std.proofs.Common.{◌≡◌, IfOk, Option, sym, subst}
use Rattle.sw_request.proofs.Refusals.{first_three, none_of_three}
use Rattle.sw_request.specs.Refusal.{framing_refusal, host_refusal, later_refusal, method_refusal}
use Rattle.sw_request.specs.declared.refusal.Refusal.{Refusal}
use Rattle.sw_request.proofs.judging.first_refusal.Goals as goal

pub returns-in-Some : goal.returns-in-Some
returns-in-Some c =
    let head = c.args.head.now in
    sym (first_three (host_refusal head) (framing_refusal head) (method_refusal head) (later_refusal head) c.in-Some.why (cc))

pub returns-in-None : goal.returns-in-None
returns-in-None c =
    let head = c.args.head.now in
    subst (λ (first : Option Refusal). IfOk c.later_refusal.result (λ why. why ≡ first))
    (sym (none_of_three (host_refusal head) (framing_refusal head) (method_refusal head) (later_refusal head) (cc))) c.later_refusal.ensures
