use Rattle.std.proofs.Common.{rules}
use Rattle.sw_request.proofs.Lines.{word_lines_of}
use Rattle.sw_request.proofs.response.word_answer.Goals as goal

pub new-requires-clause-lines : goal.new-requires-clause-lines
new-requires-clause-lines c = word_lines_of c.in_ok-fields.fields.items c.args.further.items c.len.result c.in_ok-fields.ensures (search rules) c.requires.lines
