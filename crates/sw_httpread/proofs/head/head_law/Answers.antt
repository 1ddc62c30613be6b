use Rattle.sw_httpread.proofs.HeadLaws.{head_more, head_one, head_open}
use Rattle.sw_httpread.proofs.head.head_law.Goals as goal

pub returns : goal.returns
returns c = record { more = head_more; one = head_one; unended = head_open }
