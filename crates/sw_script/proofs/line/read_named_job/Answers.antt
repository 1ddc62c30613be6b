use Rattle.std.proofs.Common.{codes, refl, rules}
use Rattle.sw_script.specs.Word.{is_word, name_of}
use Rattle.sw_script.specs.declared.fault.LineFault.TheVariants.{BadName}
use Rattle.sw_script.proofs.Readings.{both_read, left_out, passed_on, taken}
use Rattle.sw_script.proofs.line.read_named_job.Goals as goal

pub returns-in_err-read_name-clause-memory : goal.returns-in_err-read_name-clause-memory
returns-in_err-read_name-clause-memory c =
    passed_on _ c.from_residual.result _ c.from_residual.ensures.1 (λ none.
    taken (is_word c.args.verb.now (codes "get")) _ _ (search rules) (both_read BadName (name_of c.args.word.now) _ (c.in_err-read_name.ensures.memory none) (λ name. refl)))

pub returns-in_err-read_name-2-clause-memory : goal.returns-in_err-read_name-2-clause-memory
returns-in_err-read_name-2-clause-memory c =
    passed_on _ c.from_residual-in_err-read_name-2.result _ c.from_residual-in_err-read_name-2.ensures.1 (λ none.
    left_out (is_word c.args.verb.now (codes "get")) _ _ (search rules) (taken (is_word c.args.verb.now (codes "head")) _ _ (search rules) (both_read BadName (name_of c.args.word.now) _ (c.in_err-read_name-2.ensures.memory none) (λ name. refl))))

pub returns-in_err-read_name-3-clause-memory : goal.returns-in_err-read_name-3-clause-memory
returns-in_err-read_name-3-clause-memory c =
    passed_on _ c.from_residual-in_err-read_name-3.result _ c.from_residual-in_err-read_name-3.ensures.1 (λ none.
    left_out (is_word c.args.verb.now (codes "get")) _ _ (search rules) (left_out (is_word c.args.verb.now (codes "head")) _ _ (search rules) (taken (is_word c.args.verb.now (codes "del")) _ _ (search rules) (both_read BadName (name_of c.args.word.now) _ (c.in_err-read_name-3.ensures.memory none) (λ name. refl)))))
