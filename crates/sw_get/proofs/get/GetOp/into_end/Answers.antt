use Rattle.std.proofs.Common.{◌≡◌, List, None, Some, Option, MatchOption, ap, sym}
use Rattle.sw_message.specs.Transcript.{Step}
use Rattle.sw_get.specs.Get.{Begun, IsEnd}
use Rattle.sw_get.specs.Standing.{GetModel, Stands}
use Rattle.sw_get.specs.declared.end.GetEnd.{GetEnd}
use Rattle.sw_get.proofs.get.GetOp.into_end.Goals as goal

ends : (begun : Begun) (past : List Step) (get : GetModel) (end : Option GetEnd) → get.end ≡ end → Stands get begun past → MatchOption end (get.end ≡ None) (IsEnd begun past)
ends begun past get None is stands = is
ends begun past get (Some end) is stands = (stands.end_is end is).is

pub returns-clause-end : goal.returns-clause-end
returns-clause-end c = λ begun past stands. ends begun past c.args.self c.self.inside.end (ap (λ (get : GetModel). get.end) (sym c.self.view_is)) stands
