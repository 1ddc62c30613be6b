use Rattle.std.proofs.Common.{◌≡◌, List, None, Some, Option, MatchOption, ap, sym}
use Rattle.sw_message.specs.Transcript.{Step}
use Rattle.sw_put.specs.Put.{Begun, put_end}
use Rattle.sw_put.specs.Standing.{PutModel, Stands}
use Rattle.sw_put.specs.declared.end.PutEnd.{PutEnd}
use Rattle.sw_put.proofs.put.PutOp.into_end.Goals as goal

ends : (begun : Begun) (past : List Step) (put : PutModel) (end : Option PutEnd) → put.end ≡ end → Stands put begun past → MatchOption end (put.end ≡ None) (λ e. put_end begun past ≡ Some e)
ends begun past put None is stands = is
ends begun past put (Some end) is stands = stands.end_is end is

pub returns-clause-end : goal.returns-clause-end
returns-clause-end c = λ begun past stands. ends begun past c.args.self c.self.inside.end (ap (λ (put : PutModel). put.end) (sym c.self.view_is)) stands
