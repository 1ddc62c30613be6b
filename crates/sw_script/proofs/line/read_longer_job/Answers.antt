use Rattle.std.proofs.Common.{ap, codes, is_some, refl, rules}
use Rattle.sw_script.specs.Word.{is_word, name_of, number_of}
use Rattle.sw_script.specs.declared.fault.LineFault.TheVariants.{BadName, BadNumber}
use Rattle.sw_script.proofs.Readings.{both_read, left_out, passed_on, taken}
use Rattle.sw_script.proofs.line.read_longer_job.Goals as goal

pub returns-in_err-name-clause-memory : goal.returns-in_err-name-clause-memory
returns-in_err-name-clause-memory c =
    passed_on _ c.from_residual-in_err-name.result _ c.from_residual-in_err-name.ensures.1 (λ none.
    left_out (is_word c.args.verb.now (codes "put")) _ _ (search rules)
    (taken (is_word c.args.verb.now (codes "recon")) _ _ (search rules)
    (both_read BadNumber (number_of c.args.first.now) _ (ap is_some c.in_ok-device.ensures)
    (λ device. both_read BadName (name_of c.args.second.now) _ (c.in_err-name.ensures.memory none) (λ name. refl)))))
