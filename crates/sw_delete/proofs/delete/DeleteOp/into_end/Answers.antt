use Rattle.std.proofs.Common.{◌≡◌, List, None, Some, Option, MatchOption, ap, sym}
use Rattle.sw_message.specs.Transcript.{Step}
use Rattle.sw_delete.specs.Delete.{Begun, delete_end}
use Rattle.sw_delete.specs.Standing.{DeleteModel, Stands}
use Rattle.sw_delete.specs.declared.end.DeleteEnd.{DeleteEnd}
use Rattle.sw_delete.proofs.delete.DeleteOp.into_end.Goals as goal

ends : (begun : Begun) (past : List Step) (op : DeleteModel) (end : Option DeleteEnd) → op.end ≡ end → Stands op begun past → MatchOption end (op.end ≡ None) (λ e. delete_end begun past ≡ Some e)
ends begun past op None is stands = is
ends begun past op (Some end) is stands = stands.end_is end is

pub returns-clause-end : goal.returns-clause-end
returns-clause-end c = λ begun past stands. ends begun past c.args.self c.self.inside.end (ap (λ (op : DeleteModel). op.end) (sym c.self.view_is)) stands
