use Rattle.std.proofs.Common.{codes, rules}
use Rattle.sw_script.specs.Line.{named_job}
use Rattle.sw_script.specs.Word.{is_word}
use Rattle.sw_script.specs.declared.event.Event.TheVariants.{Run}
use Rattle.sw_script.proofs.Readings.{event_read, left_out, passed_on}
use Rattle.sw_script.proofs.line.read_device_event.Goals as goal

pub returns-in_err-read_named_job-clause-memory : goal.returns-in_err-read_named_job-clause-memory
returns-in_err-read_named_job-clause-memory c =
    passed_on _ c.from_residual-in_err-read_named_job.result _ c.from_residual-in_err-read_named_job.ensures.1 (λ none.
    left_out (is_word c.args.verb.now (codes "stop")) _ _ (search rules)
    (left_out (is_word c.args.verb.now (codes "restart")) _ _ (search rules)
    (left_out (is_word c.args.verb.now (codes "lose")) _ _ (search rules)
    (event_read Run (named_job c.args.verb.now c.args.word.now) (c.in_err-read_named_job.ensures.memory none)))))
