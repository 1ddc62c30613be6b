use Rattle.std.proofs.Common.{◌∙◌}
use Rattle.sw_request.proofs.Lines.{allow_lines_of, answer_of}
use Rattle.sw_request.proofs.response.refusal_answer.Goals as goal

pub word_answer-requires-clause-lines : goal.word_answer-requires-clause-lines
word_answer-requires-clause-lines c = allow_lines_of c.in_ok-further.further.items c.args.why c.in_ok-further.ensures

pub returns : goal.returns
returns c =
    answer_of c.word_answer.result c.args.to_head c.args.close c.closes.result c.args.why c.status.result c.as_bytes.result.now c.in_ok-further.further.items
    c.status.ensures.value (c.as_bytes.ensures.value ∙ c.word.ensures) c.in_ok-further.ensures c.closes.ensures c.word_answer.ensures
