use Rattle.std.proofs.Common.{ap, ◌∙◌}
use Rattle.sw_message.proofs.Transcripts.{some_up, waiting}
use Rattle.sw_message.proofs.tickets.Tickets.is_waiting.Goals as goal

pub returns : goal.returns
returns c = λ past are. c.contains.ensures.value ∙ ap some_up (c.deref.ensures.value ∙ c.self.view_is) ∙ waiting c.args.self.now past are
