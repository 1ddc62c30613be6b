-- What is told of a message to a device, and of its reply.
use Rattle.std.specs.Prelude.{Option, Some, None}
use Rattle.sw_message.specs.declared.message.Msg.{Msg}
use Rattle.sw_message.specs.declared.message.Msg.TheVariants as msg
use Rattle.sw_message.specs.declared.reply.Reply.{Reply}
use Rattle.sw_message.specs.declared.reply.Reply.TheVariants as reply
use Rattle.sw_sim_exchange.specs.declared.kinds.AnswerKind.{AnswerKind}
use Rattle.sw_sim_exchange.specs.declared.kinds.AnswerKind.TheVariants as answer
use Rattle.sw_sim_exchange.specs.declared.kinds.RequestKind.{RequestKind}
use Rattle.sw_sim_exchange.specs.declared.kinds.RequestKind.TheVariants as request

-- of a message about no place nothing
abbrev pub request_kind : Msg → Option RequestKind
request_kind (msg.PutFrag place stamp index bytes) = Some (request.Put index)
request_kind (msg.Commit place stamp index) = Some (request.Commit index)
request_kind (msg.Delete place stamp) = Some request.Delete
request_kind (msg.Ask place) = Some request.Ask
request_kind (msg.Fetch place stamp index) = Some (request.Fetch index)
request_kind (msg.Remove place stamp index) = Some (request.Remove index)
request_kind msg.Parts = None
request_kind (msg.Suffixes part) = None
request_kind (msg.Places part) = None

-- of the reply to such a message, of a failed disk and of want of memory nothing
abbrev pub answer_kind : Reply → Option AnswerKind
answer_kind reply.Synced = Some answer.Synced
answer_kind reply.Committed = Some answer.Committed
answer_kind (reply.Deleted existed) = Some (answer.Deleted existed)
answer_kind (reply.Superseded floor) = Some (answer.Superseded floor.stamp)
answer_kind reply.Missing = Some answer.Missing
answer_kind (reply.Held listing) = Some answer.Held
answer_kind (reply.Fragment bytes) = Some answer.Fragment
answer_kind (reply.Gone listing) = Some answer.Gone
answer_kind (reply.Spoiled spoil) = Some answer.Spoiled
answer_kind reply.Kept = Some answer.Kept
answer_kind reply.Removed = Some answer.Removed
answer_kind (reply.NoSpace need free) = Some (answer.NoSpace need free)
answer_kind (reply.PartList parts) = None
answer_kind (reply.SuffixList suffixes) = None
answer_kind (reply.PlaceList places) = None
answer_kind reply.DiskFault = None
answer_kind reply.NoMemory = None
