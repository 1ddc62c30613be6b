use Rattle.std.proofs.Common.{◌∙◌}
use Rattle.sw_command.proofs.Names.{none_named}
use Rattle.sw_command.proofs.reading.read_command.Goals as goal

pub returns-in_default-clause-command : goal.returns-in_default-clause-command
returns-in_default-clause-command c =
    none_named c.args.words.now c.index-words-1.result c.if-words-lt2.false c.index-words-1.is (λ is. c.in_default.not-play (c.as_str.ensures.value ∙ is)) (λ is. c.in_default.not-serve (c.as_str.ensures.value ∙ is)) (λ is. c.in_default.not-load (c.as_str.ensures.value ∙ is))
