-- The calls of an operation that runs alone leave the same devices down.
use Rattle.std.proofs.Common.{◌≡◌, List, [], ◌∷◌, Option, Some, None, sym, ap, ◌∙◌}
use Rattle.sw_message.specs.Running.{AreCalls}
use Rattle.sw_message.specs.Transcript.{Closed, Gave, Step}
use Rattle.sw_message.specs.declared.reply.Reply.{Reply}
use Rattle.sw_message.specs.declared.sent.Sent.{Sent}
use Rattle.sw_sim_nodes.specs.Nodes.{Calls, NodesModel, lost_in}

call_down : (sent : Sent) (answer : Option Reply) (before after : NodesModel) → Calls before sent.device sent.msg answer after → after.down ≡ before.down
call_down sent (Some reply) before after made = made.same_down
call_down sent None before after lost = ap (λ (nodes : NodesModel). nodes.down) lost.after_is

module _ (before : NodesModel) where
  pub left_down : (past : List Step) (after : NodesModel) → AreCalls Calls lost_in before past after → after.down ≡ before.down
  left_down [] after calls = ap (λ (nodes : NodesModel). nodes.down) (sym calls)
  left_down (Gave sent ∷ past) after calls = absurd calls
  left_down (Closed sent answer ∷ []) after calls = absurd calls
  left_down (Closed sent answer ∷ Closed same other ∷ past) after calls = absurd calls
  left_down (Closed sent answer ∷ Gave same ∷ past) after calls = call_down sent answer calls.0 after calls.3 ∙ left_down past calls.0 calls.1
