use Rattle.std.proofs.Common.{◌≡◌, ◌≤◌, true, length, subst, sym, arith, rules, Err}
use Rattle.sw_ring.specs.Cluster.{ring_of}
use Rattle.swift_main.specs.Input.{ring_text}
use Rattle.swift_main.proofs.Outcomes.{input_answers, rule_answers, script_within}
use Rattle.swift_main.proofs.playing.answer_input.Goals as goal

pub run_input-requires : goal.run_input-requires
run_input-requires c = subst (λ script. length script ≤ 67108864) (sym c.at_empty_line.ensures.after) (omega (arith, script_within true c.args.input.now))

pub returns-in-Ok : goal.returns-in-Ok
returns-in-Ok c =
    input_answers c.args.input.now c.at_empty_line.result.0.now c.at_empty_line.result.1.now c.in-Ok.answer (omega arith) c.at_empty_line.ensures.before c.at_empty_line.ensures.after c.in-Ok.ensures.answer

pub returns-in-Err : goal.returns-in-Err
returns-in-Err c =
    let ring = c.at_empty_line.result.0.now in
    let script = c.at_empty_line.result.1.now in
    let breaks : ring_of (ring_text ring) ≡ Err c.in-Err.fault = search rules in
    input_answers c.args.input.now ring script c.last_line_alone-in-Err.result (omega arith) c.at_empty_line.ensures.before c.at_empty_line.ensures.after
    (rule_answers ring script c.in-Err.fault c.last_line_alone-in-Err.result breaks c.last_line_alone-in-Err.ensures)
