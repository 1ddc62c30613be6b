use Rattle.std.proofs.Common.{◌≡◌, Result, Ok, Err, IfOk, IsOk, ap, rules, subst, sym, ◌∙◌}
use Rattle.sw_words.specs.Memory.{UnlessMemory}
use Rattle.sw_script.specs.Line.{as_event, event_by, job_by, words_of}
use Rattle.sw_script.specs.declared.event.Event.{Event}
use Rattle.sw_script.specs.declared.event.Event.TheVariants.{Start}
use Rattle.sw_script.specs.declared.fault.LineFault.{LineFault}
use Rattle.sw_script.specs.declared.fault.LineFault.TheVariants.{NoMemory}
use Rattle.sw_script.proofs.Readings.{begun, event_read, not_begun, passed, passed_on}
use Rattle.sw_script.proofs.WordCounts.{parts_of_cut}
use Rattle.sw_script.proofs.line.read_event.Goals as goal

pub returns-clause-read : goal.returns-clause-read
returns-clause-read c =
    let told = not_begun c.args.line.now _ _ c.cut_at.ensures.cut.parts (search rules) in
    subst (λ (answer : Result Event LineFault). IfOk c.read_other_event.result (λ event. answer ≡ Ok event)) (sym told) c.read_other_event.ensures.read

pub returns-in_err-read_job-in-Some-clause-fault : goal.returns-in_err-read_job-in-Some-clause-fault
returns-in_err-read_job-in-Some-clause-fault c =
    let told = begun c.args.line.now _ _ (parts_of_cut _ _ _ _ c.in-Some.rest c.cut_at.ensures.cut c.in-Some.is) (search rules) in
    passed (λ fault. UnlessMemory NoMemory fault (event_by (words_of c.args.line.now) ≡ Err fault)) c.from_residual.result _ c.from_residual.ensures.1 (λ known.
    told ∙ ap (as_event Start) (c.in_err-read_job-in-Some.ensures.fault known))

pub returns-in_err-read_job-in-Some-clause-memory : goal.returns-in_err-read_job-in-Some-clause-memory
returns-in_err-read_job-in-Some-clause-memory c =
    let told = begun c.args.line.now _ _ (parts_of_cut _ _ _ _ c.in-Some.rest c.cut_at.ensures.cut c.in-Some.is) (search rules) in
    passed_on _ c.from_residual.result _ c.from_residual.ensures.1 (λ none.
    subst (λ (answer : Result Event LineFault). IsOk answer) (sym told) (event_read Start (job_by (words_of c.in-Some.rest.now)) (c.in_err-read_job-in-Some.ensures.memory none)))

pub returns-in_ok-read_job-in-Some-clause-read : goal.returns-in_ok-read_job-in-Some-clause-read
returns-in_ok-read_job-in-Some-clause-read c =
    begun c.args.line.now _ _ (parts_of_cut _ _ _ _ c.in-Some.rest c.cut_at.ensures.cut c.in-Some.is) (search rules) ∙ ap (as_event Start) c.in_ok-read_job-in-Some.ensures.read
